use Rattle.std.proofs.Common.{arith}
use Rattle.std.proofs.lemmas.Grind.{common_steps}
use Rattle.std.proofs.lemmas.List.{take_rest}
use Rattle.troop_ports.proofs.InFront.{at_end_more}
use Rattle.child_driver.proofs.LimitBehind.{took_limit, later_limit}
use Rattle.child_driver.proofs.give.give.Goals as goal

pub loop-at-preserved : goal.loop-at-preserved
loop-at-preserved g c = record {
  within = grind (arith, common_steps);
  bytes = rw (c.in-Took.ensures.bytes, take_rest, c.loop-at.invariant.bytes) (at_end_more _ _ _ _);
  covered = took_limit _ _ _ _ _ c.loop-at.invariant.covered c.loop-at.invariant.limit c.in-Took.ensures.limit.0;
  limit = later_limit _ _ _ _ _ c.loop-at.invariant.limit c.in-Took.ensures.limit.1;
  room = grind (arith, common_steps);
  faults = grind (arith, common_steps);
  still_open = grind (arith, common_steps);
}
