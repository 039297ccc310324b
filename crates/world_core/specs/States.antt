-- What is known of a world: its log, and its performers.
use Rattle.std.specs.Prelude.{ℕ, suc, ◌-◌, List, [], ◌∷◌, length, take, drop, ◌==◌, Option, None, Some, if◌then◌else◌}
use Rattle.troop_entry.specs.declared.block.Block.{Block}
use Rattle.troop_entry.specs.declared.call.Lang.{Lang}
use Rattle.troop_entry.specs.declared.entry.Entry.{Entry}
use Rattle.troop_entry.specs.declared.note.Note.{Note}
use Rattle.troop_entry.specs.declared.row.Row.{Row}
use Rattle.troop_entry.specs.Told.{block_told}
use Rattle.stage_state.specs.Machine.{Machine}
use Rattle.stage_state.specs.Staged.{Staged, machine}
use Rattle.child_driver.specs.Feeding.{Pipe}

-- what is known of an interpreter: its language, its boot text, the notes of its journal, the bytes of its lives, what its pipe takes from
-- now on, and how many faults it met
pub record InterpreterState : Type 0 where
  pub lang : Lang
  pub boot : List ℕ
  pub notes : List Note
  pub lives : List (List ℕ)
  pub pipe : Pipe
  pub faults : ℕ

-- what is known of a performer: its name, its stage, the blocks that wait to be fed, the next one first, and its interpreter
pub record PerformerState : Type 0 where
  pub name : List ℕ
  pub staged : Staged
  pub waiting : List Block
  pub interpreter : InterpreterState

-- a log, and the performers whose stages and interpreters are here, in the order of their joins
pub record WorldState : Type 0 where
  pub log : List Row
  pub performers : List PerformerState

-- the world in which no step was taken
abbrev pub new_world : WorldState
new_world = record { log = []; performers = [] }

-- ---- a performer among the others

-- the performer of this number, if it is here
abbrev pub performer_with : ℕ → List PerformerState → Option PerformerState
performer_with who [] = None
performer_with who (p ∷ performers) = if p.staged.own == who then Some p else performer_with who performers

-- the performers, with the one of this number changed so
abbrev pub with_performer : ℕ → (PerformerState → PerformerState) → List PerformerState → List PerformerState
with_performer who change [] = []
with_performer who change (p ∷ performers) =
    if p.staged.own == who then change p ∷ performers else p ∷ with_performer who change performers

-- ---- its blocks

-- one block in front of these, if there is one
abbrev pub with_block : Option Block → List Block → List Block
with_block None blocks = blocks
with_block (Some block) blocks = block ∷ blocks

-- the blocks that these entries are for a performer who joined at this position, in order
abbrev pub blocks_told : ℕ → List Entry → List Block
blocks_told joined [] = []
blocks_told joined (e ∷ entries) = with_block (block_told joined e) (blocks_told joined entries)

-- the blocks that a machine was told of by the entries that it took
abbrev pub blocks_taken : Machine → List Block
blocks_taken m = blocks_told m.joined m.entries

-- those of these blocks that are in front of so many
abbrev pub all_but : ℕ → List Block → List Block
all_but n blocks = take (length blocks - n) blocks

-- the blocks that the performer's interpreter was fed: of those that its stage was told of, the ones in front of those that wait
abbrev pub blocks_fed : PerformerState → List Block
blocks_fed p = all_but (length p.waiting) (blocks_taken (machine p.staged))

-- ---- its last row

-- the position of the last of these rows that is this performer's, where the first of them stands at position `at`; else this one
abbrev pub last_from : ℕ → ℕ → Option ℕ → List Row → Option ℕ
last_from at who found [] = found
last_from at who found (row ∷ rows) = last_from (suc at) who (if row.who == who then Some at else found) rows

-- the position of the performer's last row behind its join, if it has one there
abbrev pub last_row : List Row → Staged → Option ℕ
last_row log s = last_from (suc s.joined) s.own None (drop (suc s.joined) log)
