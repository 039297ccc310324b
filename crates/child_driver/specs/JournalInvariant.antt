-- A journal with room for more notes.
use Rattle.std.specs.Prelude.{◌≡◌, ℕ, ◌+◌, ◌≤◌, List}
use Rattle.troop_entry.specs.declared.note.Note.{Note}
use Rattle.child_driver.specs.Drivers.{births}

-- the value of a journal: its notes, and for how many more there is room
pub record JournalValue : Type 0 where
  pub notes : List Note
  pub spare : ℕ

-- the number kept is that of the lives told, and there is room for so many more notes
pub record IsJournal (notes : List Note) (lives len capacity spare : ℕ) : Type 0 where
  pub counted : lives ≡ births notes
  pub fits : len + spare ≤ capacity
