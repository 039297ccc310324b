use Rattle.std.proofs.Common.{arith, refl, ap}
use Rattle.process_hatch.proofs.Untold.{ok_anyway, err_anyway, started_anyway, one_grave, no_starts}
use Rattle.process_hatch.proofs.hatch.ProcessHatchHatch.TheImpl.Goals as goal

pub ready-tells : goal.ready-tells
ready-tells g x x' c = record {
  ready = ok_anyway c.result c.ensures.ready;
  memory = err_anyway c.result refl;
  buried = refl;
  starts = refl;
  graves = refl;
  faults = ap (λ h. h.faults) c.ensures.after;
}

pub start-tells : goal.start-tells
start-tells g x x' c = record {
  fresh = started_anyway c.result (λ _. tt);
  calm = c.ensures.calm;
  is_open = c.ensures.is_open;
  room = started_anyway c.result (λ _. omega arith);
  graves = one_grave c.result;
  starts = no_starts c.result;
  cause = c.ensures.cause;
  buried = refl;
}

pub bury-tells : goal.bury-tells
bury-tells g x x' c = record {
  buried = refl;
  starts = refl;
  graves = omega arith;
  faults = ap (λ h. h.faults) c.ensures.after;
}
