use Rattle.std.proofs.Common.{◌≡◌, length}
use Rattle.gap_buffer.specs.Gapped.{whole_list}
use Rattle.author_marks.specs.GapRuns.{written_marks}
use Rattle.author_marks.proofs.seek.go_back.Given as goal

abbrev pub invariant-loop-at : goal.invariant-loop-at
invariant-loop-at l = record {
  runs : whole_list l.runs ≡ whole_list l.fn.runs;
  before : l.at ≡ length (written_marks l.runs.front);
  spare : l.runs.spare ≡ l.fn.runs.spare;
}

abbrev pub decreases-loop-at : goal.decreases-loop-at
decreases-loop-at l = length l.runs.front
