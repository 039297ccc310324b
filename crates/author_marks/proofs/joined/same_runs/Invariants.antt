use Rattle.std.proofs.Common.{◌≡◌, ◌<◌, ℕ}
use Rattle.std.specs.Prelude.{slice_get}
use Rattle.author_marks.specs.GapRuns.{joined_runs}
use Rattle.author_marks.proofs.joined.same_runs.Given as goal

abbrev pub invariant-loop-place : goal.invariant-loop-place
invariant-loop-place l = (k : ℕ) → k < l.place → slice_get (joined_runs l.runs.front l.runs.behind) k ≡ slice_get (joined_runs l.other.front l.other.behind) k
