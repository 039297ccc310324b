use Rattle.std.proofs.Common.{◌≡◌, ◌<◌, ◌≤◌, ℕ}
use Rattle.std.specs.Prelude.{slice_index_or}
use Rattle.stage_state.specs.Staged.{StageValue}
use Rattle.jam_run.specs.Taking.{TakesRest}
use Rattle.jam_run.proofs.closing.take_rests.Given as goal

abbrev pub invariant-loop-stage : goal.invariant-loop-stage
invariant-loop-stage l = record {
  done : (i : ℕ) (d : StageValue) → i < l.stage-index → TakesRest l.desk (slice_index_or l.initial.stages i d).staged (slice_index_or l.stages i d).staged;
  left : (i : ℕ) (d : StageValue) → l.stage-index ≤ i → slice_index_or l.stages i d ≡ slice_index_or l.initial.stages i d;
}
