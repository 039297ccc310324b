use Rattle.std.proofs.Common.{◌≡◌, drop}
use Rattle.world_core.specs.Values.{state_of}
use Rattle.drill_run.specs.Draining.{each_until_unfit}
use Rattle.drill_run.specs.OpenWorlds.{IsOpenWorld}
use Rattle.drill_run.specs.Script.{script_numbers}
use Rattle.drill_run.proofs.drained.each_until_unfit.Given as goal

-- the other performers' steps lead where those of all do
abbrev pub invariant-loop-who : goal.invariant-loop-who
invariant-loop-who l = record {
  items : l.who-items ≡ script_numbers;
  leads : each_until_unfit l.turn (drop l.who-index script_numbers) (state_of l.world) ≡ each_until_unfit l.turn script_numbers (state_of l.fn.world);
  open_is : IsOpenWorld (state_of l.world);
}
