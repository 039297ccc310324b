use Rattle.std.proofs.Common.{◌≡◌, map, drop}
use Rattle.log_model.specs.Log.{doc}
use Rattle.world_core.specs.Values.{performer_state}
use Rattle.drill_run.specs.Summary.{all_hold}
use Rattle.drill_run.proofs.summary.all_hold.Given as goal

-- those that weren't looked at decide
abbrev pub invariant-loop-performer : goal.invariant-loop-performer
invariant-loop-performer l = all_hold (doc l.fn.world.log) (map performer_state (drop l.performer-index l.performer-items)) ≡ all_hold (doc l.fn.world.log) (map performer_state l.performer-items)
