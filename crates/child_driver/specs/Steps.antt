-- What one call does to a driver.
use Rattle.std.specs.Prelude.{◌≡◌, ℕ, ◌+◌, List, [], ◌∷◌, ◌++◌, length, false, not, Some, IfSome, option_map}
use Rattle.troop_entry.specs.declared.note.Note.{Note}
use Rattle.troop_entry.specs.declared.note.Note.TheVariants as note
use Rattle.troop_ports.specs.Faults.{Counted}
use Rattle.pipe_ports.specs.Pipes.{sum_count}
use Rattle.pipe_ports.specs.declared.child.Closing.{Closing}
use Rattle.pipe_ports.specs.declared.child.Closing.TheVariants as closing
use Rattle.child_driver.specs.declared.fed.Fed.{Fed}
use Rattle.child_driver.specs.declared.fed.Fed.TheVariants as fed
use Rattle.child_driver.specs.Lives.{BlockFate, Whole, Cut, Boot, Refused, births_by, is_whole, IsFit, fate_bytes, notes_by}
use Rattle.child_driver.specs.Feeding.{fed_fate, fed_pipe}
use Rattle.child_driver.specs.Drivers.{births, children_after, Sight}

-- ## What a feed does

-- the answer to a block of this fate
abbrev pub answer_of : BlockFate → Fed
answer_of Whole = fed.Whole
answer_of (Cut n) = fed.Cut n
answer_of (Boot n) = fed.Skipped
answer_of Refused = fed.Skipped

-- the life counted a fault and was then buried: its count stands in the hatch's, beside the hatch's own
abbrev pub CountsBuriedFault : ℕ → ℕ → ℕ → Type 0
CountsBuriedFault hatch life now = (later : ℕ) × Counted life later × (now ≡ sum_count hatch later)

-- a whole block leaves both counts as they were; at a cut one the life counted a fault, at a cut boot text too, and at a
-- refused start the hatch. A life that is started now has the count 0, as none has.
abbrev pub CountsFate : BlockFate → ℕ → ℕ → ℕ → ℕ → Type 0
CountsFate Whole hatch life now left = (now ≡ hatch) × (left ≡ life)
CountsFate (Cut n) hatch life now left = CountsBuriedFault hatch life now
CountsFate (Boot n) hatch life now left = CountsBuriedFault hatch life now
CountsFate Refused hatch life now left = Counted hatch now × (left ≡ life)

-- what a block of this fate does to a driver: to the notes, the lives' bytes, the pipe and the counts
pub record IsFeedStep (boot wrapped : List ℕ) (place : ℕ) (fate : BlockFate) (old new : Sight) : Type 0 where
  pub fits : IsFit boot (not old.stands) wrapped fate
  pub notes_are : new.notes ≡ old.notes ++ notes_by (not old.stands) (births old.notes + births_by (not old.stands) fate) place fate
  pub stands_is : new.stands ≡ is_whole fate
  pub children_are : IfSome new.children (λ ls. Some ls ≡ option_map (children_after (not old.stands) fate (fate_bytes boot (not old.stands) wrapped fate)) old.children)
  pub pipe_is : IfSome old.pipe (λ p. (fate ≡ fed_fate p (length boot) (length wrapped)) × (new.pipe ≡ Some (fed_pipe p (length boot) (length wrapped))))
  pub counts_are : CountsFate fate old.hatch_count old.life_count new.hatch_count new.life_count

-- a block had a fate that led to this answer, and did what a block of that fate does
abbrev pub FeedsTo : List ℕ → List ℕ → ℕ → Fed → Sight → Sight → Type 0
FeedsTo boot wrapped place answer old new = (fate : BlockFate) × (answer ≡ answer_of fate) × IsFeedStep boot wrapped place fate old new

-- ## What a close does

-- what a close of this life notes: only that it failed
abbrev pub closing_notes : Closing → ℕ → List Note
closing_notes closing.Closed number = []
closing_notes closing.Failed number = note.Unclosed number ∷ []

-- at a close that failed the life counted a fault; either way its count stands in the hatch's, beside the hatch's own
abbrev pub CountsClosing : Closing → ℕ → ℕ → ℕ → Type 0
CountsClosing closing.Closed hatch life now = now ≡ sum_count hatch life
CountsClosing closing.Failed hatch life now = CountsBuriedFault hatch life now

-- the standing life was closed with this answer, and was buried
pub record IsClosing (answer : Closing) (old new : Sight) : Type 0 where
  pub notes_are : new.notes ≡ old.notes ++ closing_notes answer (births old.notes)
  pub stands_is : new.stands ≡ false
  pub children_are : new.children ≡ old.children
  pub counts_are : CountsClosing answer old.hatch_count old.life_count new.hatch_count
