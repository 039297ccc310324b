use Rattle.std.proofs.Common.{◌≡◌, ◌≤◌, length, drop}
use Rattle.author_marks.specs.GapRuns.{AreTidy, written_marks, run_room}
use Rattle.author_marks.proofs.edits.take_marks.Given as goal

abbrev pub invariant-loop-left : goal.invariant-loop-left
invariant-loop-left l = record {
  front : l.runs.front ≡ l.fn.runs.front;
  within : l.left ≤ length (written_marks l.runs.behind);
  behind : drop l.left (written_marks l.runs.behind) ≡ drop l.fn.count (written_marks l.fn.runs.behind);
  tidy : AreTidy l.runs.behind;
  room : run_room l.fn.runs ≤ run_room l.runs;
}

abbrev pub decreases-loop-left : goal.decreases-loop-left
decreases-loop-left l = length l.runs.behind
