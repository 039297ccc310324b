-- What a driver keeps between its calls.
use Rattle.std.specs.Prelude.{◌≡◌, ℕ, ◌≤◌, List, [], ◌∷◌, Bool, true, false, not, Option, None, Some, is_some}
use Rattle.troop_entry.specs.declared.note.Note.{Note}
use Rattle.troop_entry.specs.declared.note.Note.TheVariants as note
use Rattle.child_driver.specs.Lives.{without_unclosed}

-- whether no life stands behind these notes, where it is given whether none stood in front of them
abbrev pub no_life : Bool → List Note → Bool
no_life before [] = before
no_life before (note.Born k p ∷ notes) = no_life false notes
no_life before (note.BootCut k n ∷ notes) = no_life true notes
no_life before (note.Cut k p n ∷ notes) = no_life true notes
no_life before (note.Skipped p ∷ notes) = no_life true notes
no_life before (note.Unclosed k ∷ notes) = no_life true notes

-- unless a life was closed, a life stands exactly where the journal tells so, and the journal doesn't end with `Unclosed`
pub record IsSteady (stands : Bool) (notes : List Note) (closed : Bool) : Type 0 where
  pub standing : closed ≡ false → not stands ≡ no_life true notes
  pub kept : closed ≡ false → without_unclosed notes ≡ notes

-- a standing life is open, and there is a grave for it and room for a note
abbrev pub HasLife : {H C : Type 0} → (H → ℕ) → (C → Bool) → H → Option C → ℕ → Type 0
HasLife graves child_closed hatch None spare = Unit {0}
HasLife graves child_closed hatch (Some child) spare = (child_closed child ≡ false) × (1 ≤ graves hatch) × (1 ≤ spare)

-- what a driver keeps: the journal tells whether a life stands, and a standing life can be closed without memory
pub record IsDriver {H C : Type 0} (graves : H → ℕ) (child_closed : C → Bool) (hatch : H) (life : Option C) (notes : List Note) (spare : ℕ) (closed : Bool) : Type 0 where
  pub steady : IsSteady (is_some life) notes closed
  pub held : HasLife graves child_closed hatch life spare
