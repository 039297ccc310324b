-- The fate of a block is read from the notes of its own turn: the notes of other blocks, in front of it and behind, say nothing of it.
use Rattle.std.proofs.Common.{◌≡◌, ℕ, ◌+◌, ◌<◌, List, [], ◌∷◌, ◌++◌, Bool, true, false, not, ◌==◌, refl, ◌∙◌, ap, arith, append_assoc}
use Rattle.std.specs.Prelude.{Option, None, Some, if◌then◌else◌}
use Rattle.std.specs.List.{flat_map}
use Rattle.std.proofs.lemmas.Grind.{common_steps}
use Rattle.troop_entry.specs.declared.block.Block.{Block}
use Rattle.troop_entry.specs.declared.call.Lang.{Lang}
use Rattle.troop_entry.specs.declared.note.Note.{Note}
use Rattle.troop_entry.specs.declared.note.Note.TheVariants as note
use Rattle.child_driver.specs.Lives.{BlockFate, Whole, Cut, Boot, Refused, fate_behind, fate_of, skipped_fate, notes_by, notes_of, fated_blocks, turns_from, is_whole, births_by, AreBelow}

-- the notes of a turn behind others, read for a place: at another place they say nothing
past_turn : (opens : Bool) (number at : ℕ) (fate : BlockFate) (rest : List Note) (place : ℕ) → (at == place) ≡ false
    → fate_behind None (notes_by opens number at fate ++ rest) place ≡ fate_behind None rest place
past_turn true number at Whole rest place other = refl
past_turn false number at Whole rest place other = refl
past_turn true number at (Cut n) rest place other = rw other refl
past_turn false number at (Cut n) rest place other = rw other refl
past_turn true number at (Boot n) rest place other = rw other refl
past_turn false number at (Boot n) rest place other = rw other refl
past_turn true number at Refused rest place other = rw other refl
past_turn false number at Refused rest place other = rw other refl

-- at its own place they tell its fate
own_turn : (opens : Bool) (number place : ℕ) (fate : BlockFate) → (place == place) ≡ true
    → fate_behind None (notes_by opens number place fate) place ≡ fate
own_turn true number place Whole same = refl
own_turn false number place Whole same = refl
own_turn true number place (Cut n) same = rw same refl
own_turn false number place (Cut n) same = rw same refl
own_turn true number place (Boot n) same = rw same refl
own_turn false number place (Boot n) same = rw same refl
own_turn true number place Refused same = rw same refl
own_turn false number place Refused same = rw same refl

-- notes that say nothing of a place change no fate read there
silent_behind : (before : Option ℕ) (opens : Bool) (number at : ℕ) (fate : BlockFate) (place : ℕ) → (at == place) ≡ false
    → fate_behind before (notes_by opens number at fate) place ≡ Whole
silent_behind before true number at Whole place other = refl
silent_behind before false number at Whole place other = refl
silent_behind before true number at (Cut n) place other = rw other refl
silent_behind before false number at (Cut n) place other = rw other refl
silent_behind before true number at (Boot n) place other = rw other refl
silent_behind before false number at (Boot n) place other = rw other refl
silent_behind before true number at Refused place other = rw other refl
silent_behind before false number at Refused place other = rw other refl

more_notes : (before : Option ℕ) (notes : List Note) (opens : Bool) (number at : ℕ) (fate : BlockFate) (place : ℕ) → (at == place) ≡ false
    → fate_behind before (notes ++ notes_by opens number at fate) place ≡ fate_behind before notes place
more_notes before [] opens number at fate place other = silent_behind before opens number at fate place other
more_notes before (note.Born k p ∷ notes) opens number at fate place other = more_notes None notes opens number at fate place other
more_notes before (note.BootCut k n ∷ notes) opens number at fate place other = more_notes (Some n) notes opens number at fate place other
more_notes before (note.Cut k p n ∷ notes) opens number at fate place other =
    ap (λ f. if p == place then Cut n else f) (more_notes None notes opens number at fate place other)
more_notes before (note.Skipped p ∷ notes) opens number at fate place other =
    ap (λ f. if p == place then skipped_fate before else f) (more_notes None notes opens number at fate place other)
more_notes before (note.Unclosed k ∷ notes) opens number at fate place other = more_notes None notes opens number at fate place other

-- a greater place is another
pub not_same : (a b : ℕ) → a < b → (b == a) ≡ false
not_same a b h = grind (arith, common_steps)

-- and the other way round
pub not_same_back : (a b : ℕ) → a < b → (a == b) ≡ false
not_same_back a b h = grind (arith, common_steps)

-- a place is itself
pub same_place : (a : ℕ) → (a == a) ≡ true
same_place a = grind (arith, common_steps)

-- the blocks in front keep their fates
pub fated_same : (lang : Lang) (notes : List Note) (blocks : List Block) (opens : Bool) (number place : ℕ) (fate : BlockFate) → AreBelow place blocks
    → fated_blocks lang (notes ++ notes_by opens number place fate) blocks ≡ fated_blocks lang notes blocks
fated_same lang notes [] opens number place fate below = refl
fated_same lang notes (b ∷ blocks) opens number place fate below =
    rw (more_notes None notes opens number place fate b.place (not_same b.place place below.0), fated_same lang notes blocks opens number place fate below.1) refl

-- the places of the blocks, below this one
turns_past : (lang : Lang) (read : List Note) (opens : Bool) (born : ℕ) (blocks : List Block) (rest : List Note) (place : ℕ) → AreBelow place blocks
    → fate_behind None (flat_map notes_of (turns_from opens born (fated_blocks lang read blocks)) ++ rest) place ≡ fate_behind None rest place
turns_past lang read opens born [] rest place below = refl
turns_past lang read opens born (b ∷ blocks) rest place below =
    let fate : BlockFate = fate_of read b.place in
    let number : ℕ = born + births_by opens fate in
    rw (append_assoc (notes_by opens number b.place fate) (flat_map notes_of (turns_from (not (is_whole fate)) number (fated_blocks lang read blocks))) rest)
    (past_turn opens number b.place fate _ place (not_same_back b.place place below.0)
    ∙ turns_past lang read (not (is_whole fate)) number blocks rest place below.1)

-- the new block's fate is the one that its notes tell
pub new_fate : (lang : Lang) (notes : List Note) (blocks : List Block) (opens : Bool) (number place : ℕ) (fate : BlockFate) → AreBelow place blocks
    → notes ≡ flat_map notes_of (turns_from true 0 (fated_blocks lang notes blocks))
    → fate_of (notes ++ notes_by opens number place fate) place ≡ fate
new_fate lang notes blocks opens number place fate below is =
    let fates : List Note = notes_by opens number place fate in
    ap (λ ns. fate_of (ns ++ fates) place) is
    ∙ turns_past lang notes true 0 blocks fates place below
    ∙ own_turn opens number place fate (same_place place)
