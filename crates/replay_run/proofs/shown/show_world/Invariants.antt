use Rattle.std.proofs.Common.{◌≡◌, map, take}
use Rattle.world_core.specs.Values.{performer_state}
use Rattle.replay_run.specs.Shown.{shown_performers}
use Rattle.replay_run.proofs.shown.show_world.Given as goal

-- what is printed of the performers so far
abbrev pub invariant-loop-performer : goal.invariant-loop-performer
invariant-loop-performer l = l.shown.items ≡ shown_performers (map performer_state (take l.performer-index l.performer-items))
