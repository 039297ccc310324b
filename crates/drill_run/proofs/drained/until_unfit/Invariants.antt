use Rattle.std.proofs.Common.{◌≡◌}
use Rattle.world_core.specs.Values.{state_of}
use Rattle.drill_run.specs.Draining.{turn_step, turns_left, until_unfit}
use Rattle.drill_run.specs.OpenWorlds.{IsOpenWorld}
use Rattle.drill_run.proofs.drained.until_unfit.Given as goal

-- what is left of the turns leads where all of them do
abbrev pub invariant-turns : goal.invariant-turns
invariant-turns l = record {
  leads : until_unfit l.fn.turn l.fn.who (state_of l.world) ≡ until_unfit l.fn.turn l.fn.who (state_of l.fn.world);
  open_is : IsOpenWorld (state_of l.world);
  step_is : l.step ≡ turn_step l.fn.turn l.fn.who;
}

abbrev pub decreases-turns : goal.decreases-turns
decreases-turns l = turns_left l.fn.turn l.fn.who (state_of l.world)
