use Rattle.std.proofs.Common.{◌≡◌, ◌+◌, ◌*◌, ◌≤◌, ◌<◌, ◌^◌, length, drop}
use Rattle.std.specs.Prelude.{count_by}
use Rattle.ot_text.specs.Change.{inserted}
use Rattle.ot_text.specs.Ends.{is_insert}
use Rattle.ot_text.specs.Parts.{norm}
use Rattle.ot_text.proofs.AppliedInPlace.{IsAppliedInPlace}
use Rattle.author_marks.specs.Authorship.{mark_by}
use Rattle.gap_buffer.specs.Gapped.{whole_list}
use Rattle.author_marks.specs.GapRuns.{AreTidy, written_marks, run_room}
use Rattle.author_marks.proofs.walk.apply_parts.Given as goal

abbrev pub invariant-loop-part : goal.invariant-loop-part
invariant-loop-part l = record {
  so_far : IsAppliedInPlace (mark_by l.who) l.part-items (written_marks (whole_list l.fn.runs)) (written_marks (whole_list l.runs)) l.part-index l.place;
  before : l.before ≡ length (written_marks l.runs.front);
  front_tidy : AreTidy l.runs.front;
  behind_tidy : AreTidy l.runs.behind;
  short : length (written_marks (whole_list l.runs)) + inserted (norm (drop l.part-index l.part-items)) < 2 ^ 61;
  room : 1 + 2 * count_by is_insert (drop l.part-index l.part-items) ≤ run_room l.runs;
}
