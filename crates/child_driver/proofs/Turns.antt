-- Facts of turns: how many lives were born and whether one stands, read off the turns and off their notes.
use Rattle.std.proofs.Common.{◌≡◌, ℕ, ◌+◌, ◌≤◌, List, [], ◌∷◌, ◌++◌, length, Bool, true, false, not, refl, sym, ◌∙◌, ap, arith, append_assoc, append-nil}
use Rattle.std.specs.List.{flat_map}
use Rattle.troop_entry.specs.declared.note.Note.{Note}
use Rattle.troop_entry.specs.declared.note.Note.TheVariants as note
use Rattle.child_driver.specs.Lives.{BlockFate, Whole, Cut, Boot, Refused, notes_by, notes_of, FatedBlock, Turn, turns_from, turn_of, is_whole, births_by, lives_started, without_unclosed, faulty_count, IsFit, AreFit}
use Rattle.child_driver.specs.Drivers.{births}
use Rattle.child_driver.specs.DriverInvariant.{no_life}

-- whether the next block opens
abbrev pub next_opens : Bool → List FatedBlock → Bool
next_opens opens [] = opens
next_opens opens (d ∷ ds) = next_opens (not (is_whole d.fate)) ds

-- one more block has one more turn
pub turns_more : (opens : Bool) (born : ℕ) (ds : List FatedBlock) (d : FatedBlock)
    → turns_from opens born (ds ++ d ∷ []) ≡ turns_from opens born ds ++ turn_of (next_opens opens ds) (born + lives_started (turns_from opens born ds)) d ∷ []
turns_more opens born [] d = ap (λ n. turn_of opens n d ∷ []) (grind arith)
turns_more opens born (e ∷ ds) d =
    let number : ℕ = born + births_by opens e.fate in
    let rest : List Turn = turns_from (not (is_whole e.fate)) number ds in
    let counted : number + lives_started rest ≡ born + (births_by opens e.fate + lives_started rest) = grind arith in
    ap (λ ts. turn_of opens born e ∷ ts)
    (turns_more (not (is_whole e.fate)) number ds d
    ∙ ap (λ n. rest ++ turn_of (next_opens (not (is_whole e.fate)) ds) n d ∷ []) counted)

-- the births of notes one behind the other add up
pub births_append : (xs ys : List Note) → births (xs ++ ys) ≡ births xs + births ys
births_append [] ys = grind arith
births_append (note.Born k p ∷ xs) ys = rw (births_append xs ys) (grind arith)
births_append (note.BootCut k n ∷ xs) ys = births_append xs ys
births_append (note.Cut k p n ∷ xs) ys = births_append xs ys
births_append (note.Skipped p ∷ xs) ys = births_append xs ys
births_append (note.Unclosed k ∷ xs) ys = births_append xs ys

births_turn : (opens : Bool) (number place : ℕ) (fate : BlockFate) → births (notes_by opens number place fate) ≡ births_by opens fate
births_turn true number place Whole = refl
births_turn false number place Whole = refl
births_turn true number place (Cut n) = refl
births_turn false number place (Cut n) = refl
births_turn true number place (Boot n) = refl
births_turn false number place (Boot n) = refl
births_turn true number place Refused = refl
births_turn false number place Refused = refl

-- one more block's notes tell of the births of its fate
pub births_more : (notes : List Note) (opens : Bool) (number place : ℕ) (fate : BlockFate)
    → births (notes ++ notes_by opens number place fate) ≡ births notes + births_by opens fate
births_more notes opens number place fate = births_append notes (notes_by opens number place fate) ∙ ap (λ n. births notes + n) (births_turn opens number place fate)

-- the turns start as many lives as their notes tell of
pub births_told : (opens : Bool) (born : ℕ) (ds : List FatedBlock) → births (flat_map notes_of (turns_from opens born ds)) ≡ lives_started (turns_from opens born ds)
births_told opens born [] = refl
births_told opens born (d ∷ ds) =
    let number : ℕ = born + births_by opens d.fate in
    births_append (notes_by opens number d.place d.fate) (flat_map notes_of (turns_from (not (is_whole d.fate)) number ds))
    ∙ rw (births_turn opens number d.place d.fate, births_told (not (is_whole d.fate)) number ds) refl

no_life_append : (before : Bool) (xs ys : List Note) → no_life before (xs ++ ys) ≡ no_life (no_life before xs) ys
no_life_append before [] ys = refl
no_life_append before (note.Born k p ∷ xs) ys = no_life_append false xs ys
no_life_append before (note.BootCut k n ∷ xs) ys = no_life_append true xs ys
no_life_append before (note.Cut k p n ∷ xs) ys = no_life_append true xs ys
no_life_append before (note.Skipped p ∷ xs) ys = no_life_append true xs ys
no_life_append before (note.Unclosed k ∷ xs) ys = no_life_append true xs ys

no_life_turn : (opens : Bool) (number place : ℕ) (fate : BlockFate) → no_life opens (notes_by opens number place fate) ≡ not (is_whole fate)
no_life_turn true number place Whole = refl
no_life_turn false number place Whole = refl
no_life_turn true number place (Cut n) = refl
no_life_turn false number place (Cut n) = refl
no_life_turn true number place (Boot n) = refl
no_life_turn false number place (Boot n) = refl
no_life_turn true number place Refused = refl
no_life_turn false number place Refused = refl

-- a life stands behind a turn exactly where its block is whole
pub no_life_more : (notes : List Note) (opens : Bool) (number place : ℕ) (fate : BlockFate) → no_life true notes ≡ opens
    → no_life true (notes ++ notes_by opens number place fate) ≡ not (is_whole fate)
no_life_more notes opens number place fate is =
    no_life_append true notes (notes_by opens number place fate)
    ∙ ap (λ b. no_life b (notes_by opens number place fate)) is
    ∙ no_life_turn opens number place fate

-- the next block opens exactly where no life stands behind the notes
pub opens_told : (opens : Bool) (born : ℕ) (ds : List FatedBlock) → no_life opens (flat_map notes_of (turns_from opens born ds)) ≡ next_opens opens ds
opens_told opens born [] = refl
opens_told opens born (d ∷ ds) =
    let number : ℕ = born + births_by opens d.fate in
    let rest : List Note = flat_map notes_of (turns_from (not (is_whole d.fate)) number ds) in
    no_life_append opens (notes_by opens number d.place d.fate) rest
    ∙ ap (λ b. no_life b rest) (no_life_turn opens number d.place d.fate)
    ∙ opens_told (not (is_whole d.fate)) number ds

unclosed_step : (x : Note) (xs : List Note) (y : Note) → without_unclosed (x ∷ y ∷ xs) ≡ x ∷ without_unclosed (y ∷ xs)
unclosed_step (note.Born k p) xs y = refl
unclosed_step (note.BootCut k n) xs y = refl
unclosed_step (note.Cut k p n) xs y = refl
unclosed_step (note.Skipped p) xs y = refl
unclosed_step (note.Unclosed k) xs y = refl

-- a last note that is no `Unclosed` keeps all, and one that is goes
pub without_append : (xs : List Note) (y : Note) (ys : List Note) → without_unclosed (xs ++ y ∷ ys) ≡ xs ++ without_unclosed (y ∷ ys)
without_append [] y ys = refl
without_append (x ∷ []) y ys = unclosed_step x ys y
without_append (x ∷ z ∷ xs) y ys = unclosed_step x (xs ++ y ∷ ys) z ∙ ap (λ ns. x ∷ ns) (without_append (z ∷ xs) y ys)

-- the notes of a turn have no `Unclosed`
pub without_turn : (notes : List Note) (opens : Bool) (number place : ℕ) (fate : BlockFate) → without_unclosed notes ≡ notes
    → without_unclosed (notes ++ notes_by opens number place fate) ≡ notes ++ notes_by opens number place fate
without_turn notes true number place Whole is = without_append notes _ _
without_turn notes false number place Whole is = ap without_unclosed (append-nil notes) ∙ is ∙ sym (append-nil notes)
without_turn notes true number place (Cut n) is = without_append notes _ _
without_turn notes false number place (Cut n) is = without_append notes _ _
without_turn notes true number place (Boot n) is = without_append notes _ _
without_turn notes false number place (Boot n) is = without_append notes _ _
without_turn notes true number place Refused is = without_append notes _ _
without_turn notes false number place Refused is = without_append notes _ _

-- the faults that notes one behind the other tell add up
pub faulty_append : (xs ys : List Note) → faulty_count (xs ++ ys) ≡ faulty_count xs + faulty_count ys
faulty_append [] ys = grind arith
faulty_append (x ∷ xs) ys = rw (faulty_append xs ys) (grind arith)

-- one more turn whose fate can be
pub fits_append : (boot : List ℕ) (ts : List Turn) (t : Turn) → AreFit boot ts → IsFit boot t.opens t.block.wrapped t.block.fate → AreFit boot (ts ++ t ∷ [])
fits_append boot [] t all one = (one, tt)
fits_append boot (s ∷ ts) t all one = (all.0, fits_append boot ts t all.1 one)

-- the notes of one more turn stand behind the others
pub notes_append : (ts : List Turn) (t : Turn) → flat_map notes_of (ts ++ t ∷ []) ≡ flat_map notes_of ts ++ notes_of t
notes_append [] t = append-nil (notes_of t)
notes_append (s ∷ ts) t = ap (λ ns. notes_of s ++ ns) (notes_append ts t) ∙ sym (append_assoc (notes_of s) (flat_map notes_of ts) (notes_of t))

-- notes tell of no more births than there are notes
pub births_most : (notes : List Note) → births notes ≤ length notes
births_most [] = omega arith
births_most (note.Born k p ∷ notes) = omega (arith, births_most notes)
births_most (note.BootCut k n ∷ notes) = omega (arith, births_most notes)
births_most (note.Cut k p n ∷ notes) = omega (arith, births_most notes)
births_most (note.Skipped p ∷ notes) = omega (arith, births_most notes)
births_most (note.Unclosed k ∷ notes) = omega (arith, births_most notes)

-- one more note
pub births_push : (notes : List Note) (x : Note) → births (notes ++ x ∷ []) ≡ births notes + births (x ∷ [])
births_push notes x = births_append notes (x ∷ [])
