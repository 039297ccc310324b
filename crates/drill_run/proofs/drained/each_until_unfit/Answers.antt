use Rattle.std.proofs.Common.{◌+◌, drop, get_or, refl, sym, ap, ◌∙◌, subst, arith}
use Rattle.world_core.specs.Values.{state_of}
use Rattle.drill_run.specs.Draining.{each_until_unfit}
use Rattle.drill_run.specs.OpenWorlds.{IsOpenWorld}
use Rattle.drill_run.specs.Script.{script_numbers}
use Rattle.drill_run.proofs.UntilUnfit.{each_done, each_next, until_open}
use Rattle.drill_run.proofs.drained.each_until_unfit.Goals as goal

pub loop-who-preserved : goal.loop-who-preserved
loop-who-preserved c = record {
  items = refl;
  leads = ap (each_until_unfit c.args.turn (drop (c.loop-who.who-index + 1) script_numbers)) c.in_ok-until_unfit.ensures
      ∙ sym (each_next c.args.turn script_numbers c.loop-who.who-index (state_of c.loop-who.world) (omega arith))
      ∙ c.loop-who.invariant.leads;
  open_is = subst IsOpenWorld (sym c.in_ok-until_unfit.ensures) (until_open c.args.turn (get_or script_numbers c.loop-who.who-index 0) (state_of c.loop-who.world) c.loop-who.invariant.open_is);
}

pub returns-clause-state : goal.returns-clause-state
returns-clause-state c = sym (each_done c.args.turn script_numbers c.loop-who.who-index (state_of c.loop-who.world) (omega arith)) ∙ c.loop-who.invariant.leads
