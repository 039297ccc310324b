-- How the document of a snapshot is put together.
use Rattle.std.specs.Prelude.{ℕ}
use Rattle.author_marks.specs.declared.run.Run.{Run}

-- a run as a pair of a number and a count
abbrev pub pair_of : Run → ℕ × ℕ
pair_of run = (run.who, run.count)
