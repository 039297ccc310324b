-- What has to be ready for an operation, so that it takes no memory.
use Rattle.std.specs.Prelude.{ℕ, ◌+◌, ◌*◌, ◌≤◌, count_by, if◌then◌else◌}
use Rattle.ot_text.specs.declared.part.Part.{Part}
use Rattle.ot_text.specs.Change.{Change, inserted}
use Rattle.ot_text.specs.Ends.{is_insert}
use Rattle.ot_text.specs.Parts.{parts_of}

-- how many texts the part puts in: one, if it is an insert
abbrev pub part_insert_count : Part → ℕ
part_insert_count part = if is_insert part then 1 else 0

-- how many texts the operation puts in: its inserts
abbrev pub insert_count : Change → ℕ
insert_count c = count_by is_insert (parts_of c)

-- how many characters an operation may put in without memory, and how many runs of neighbours
pub record Room : Type 0 where
  pub characters : ℕ
  pub runs : ℕ

-- there is room for what the operation puts in: its characters, two runs for each of its texts, since a text may cut a run
-- in two, and one run to work with
pub record IsReady (c : Change) (room : Room) : Type 0 where
  pub characters : inserted c ≤ room.characters
  pub runs : 1 + 2 * insert_count c ≤ room.runs

-- the one room is no smaller than the other
pub record IsAsLarge (room other : Room) : Type 0 where
  pub characters : other.characters ≤ room.characters
  pub runs : other.runs ≤ room.runs
