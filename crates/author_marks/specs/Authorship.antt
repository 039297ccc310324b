-- Who put in the characters of a text.
use Rattle.std.specs.Prelude.{◌≡◌, ℕ, ◌<◌, ◌^◌, List, length}
use Rattle.ot_text.specs.Ready.{Room}
use Rattle.gap_buffer.specs.Gapped.{Gapped, whole_list}
use Rattle.author_marks.specs.declared.run.Run.{Run}
use Rattle.author_marks.specs.GapRuns.{AreTidy, written_marks}

-- the performer's number of each character, and the room for what the next operation puts in without memory
pub record Authorship : Type 0 where
  pub marks : List ℕ
  pub ready : Room

-- the mark of a new character by this performer
abbrev pub mark_by : ℕ → ℕ → ℕ
mark_by who c = who

-- so many marks stand in front of the gap and so many in all, fewer than 2^61, and the runs on either side of the gap are tidy
pub record AreCounted (runs : Gapped Run) (before count : ℕ) : Type 0 where
  pub before_right : before ≡ length (written_marks runs.front)
  pub count_right : count ≡ length (written_marks (whole_list runs))
  pub short : count < 2 ^ 61
  pub front_tidy : AreTidy runs.front
  pub behind_tidy : AreTidy runs.behind
