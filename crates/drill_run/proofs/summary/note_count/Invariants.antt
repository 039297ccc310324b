use Rattle.std.proofs.Common.{◌≡◌, ◌+◌, ◌*◌, ◌≤◌, map, drop}
use Rattle.world_core.specs.Values.{performer_state}
use Rattle.drill_run.specs.Summary.{note_count}
use Rattle.drill_run.proofs.summary.note_count.Given as goal

-- what was counted, and then those of the other performers, are all
abbrev pub invariant-loop-performer : goal.invariant-loop-performer
invariant-loop-performer l = record {
  all : l.count + note_count (map performer_state (drop l.performer-index l.performer-items)) ≡ note_count (map performer_state l.performer-items);
  few : l.count ≤ l.performer-index * 4611686018427387904;
}
