-- The lives that one more turn leaves, and the children of a driver behind one more block.
use Rattle.std.proofs.Common.{◌≡◌, ℕ, zero, suc, ◌+◌, ◌-◌, ◌<◌, ◌≤◌, List, [], ◌∷◌, ◌++◌, length, drop, map, Bool, true, false, not, ◌==◌, refl, sym, ◌∙◌, ap, arith, append_assoc, append-nil, length-append}
use Rattle.std.specs.Prelude.{Option, None, Some, IfSome, option_map, if◌then◌else◌}
use Rattle.std.proofs.lemmas.Grind.{common_steps}
use Rattle.std.proofs.lemmas.List.{map-append, drop-append-le}
use Rattle.troop_entry.specs.declared.note.Note.{Note}
use Rattle.troop_entry.specs.declared.note.Note.TheVariants as note
use Rattle.child_driver.specs.Lives.{BlockFate, Whole, Cut, Boot, Refused, FatedBlock, Turn, turns_from, turn_of, is_whole, births_by, lives_started, IsFit, turn_bytes, life_bytes, numbers_to, lives_of}
use Rattle.child_driver.specs.Drivers.{births, last_of, with_last_longer, children_after}
use Rattle.child_driver.specs.DriverInvariant.{no_life}
use Rattle.child_driver.proofs.FateOf.{not_same_back, same_place}

life_append : (boot : List ℕ) (ts : List Turn) (t : Turn) (k : ℕ) → life_bytes boot (ts ++ t ∷ []) k ≡ life_bytes boot ts k ++ (if t.number == k then turn_bytes boot t else [])
life_append boot [] t k = append-nil (if t.number == k then turn_bytes boot t else [])
life_append boot (s ∷ ts) t k =
    ap (λ bytes. (if s.number == k then turn_bytes boot s else []) ++ bytes) (life_append boot ts t k)
    ∙ sym (append_assoc (if s.number == k then turn_bytes boot s else []) (life_bytes boot ts k) (if t.number == k then turn_bytes boot t else []))

-- a turn of another number gives nothing to a life
life_other : (boot : List ℕ) (ts : List Turn) (t : Turn) (k : ℕ) → (t.number == k) ≡ false → life_bytes boot (ts ++ t ∷ []) k ≡ life_bytes boot ts k
life_other boot ts t k other =
    life_append boot ts t k ∙ ap (λ b. life_bytes boot ts k ++ (if b then turn_bytes boot t else [])) other ∙ append-nil (life_bytes boot ts k)

-- a turn gives its bytes to the life of its number
life_own : (boot : List ℕ) (ts : List Turn) (t : Turn) (k : ℕ) → t.number ≡ k → life_bytes boot (ts ++ t ∷ []) k ≡ life_bytes boot ts k ++ turn_bytes boot t
life_own boot ts t k is =
    let same : (t.number == k) ≡ true = ap (λ n. t.number == n) (sym is) ∙ same_place t.number in
    life_append boot ts t k ∙ ap (λ b. life_bytes boot ts k ++ (if b then turn_bytes boot t else [])) same

-- each number is at most this one
NumbersTo : ℕ → List Turn → Type 0
NumbersTo top [] = Unit {0}
NumbersTo top (t ∷ ts) = (t.number ≤ top) × NumbersTo top ts

numbers_within : (opens : Bool) (born top : ℕ) (ds : List FatedBlock) → born + lives_started (turns_from opens born ds) ≤ top → NumbersTo top (turns_from opens born ds)
unfolding NumbersTo
numbers_within opens born top [] h = tt
numbers_within opens born top (d ∷ ds) h =
    let number : ℕ = born + births_by opens d.fate in
    (omega (arith, h), numbers_within (not (is_whole d.fate)) number top ds (omega (arith, h)))

-- no turn gave anything to a life that wasn't started
no_such_life : (boot : List ℕ) (top : ℕ) (ts : List Turn) (k : ℕ) → NumbersTo top ts → top < k → life_bytes boot ts k ≡ []
unfolding NumbersTo
no_such_life boot top [] k all past = refl
no_such_life boot top (t ∷ ts) k all past =
    let other : (t.number == k) ≡ false = not_same_back t.number k (omega (arith, all.0)) in
    ap (λ b. (if b then turn_bytes boot t else []) ++ life_bytes boot ts k) other ∙ no_such_life boot top ts k all.1 past

-- the lives before a turn's own are as they were
lives_below : (boot : List ℕ) (ts : List Turn) (t : Turn) (n : ℕ) → n < t.number → map (life_bytes boot (ts ++ t ∷ [])) (numbers_to n) ≡ map (life_bytes boot ts) (numbers_to n)
lives_below boot ts t zero h = refl
lives_below boot ts t (suc n) h =
    let other : (t.number == suc n) ≡ false = grind (arith, common_steps) in
    map-append (life_bytes boot (ts ++ t ∷ [])) (numbers_to n) (suc n ∷ [])
    ∙ rw (lives_below boot ts t n (omega arith), life_other boot ts t (suc n) other) refl
    ∙ sym (map-append (life_bytes boot ts) (numbers_to n) (suc n ∷ []))

-- a turn without bytes gives nothing
lives_none : (boot : List ℕ) (ts : List Turn) (t : Turn) (n : ℕ) → turn_bytes boot t ≡ [] → map (life_bytes boot (ts ++ t ∷ [])) (numbers_to n) ≡ map (life_bytes boot ts) (numbers_to n)
lives_none boot ts t zero h = refl
lives_none boot ts t (suc n) h =
    let nothing : (b : Bool) → (if b then turn_bytes boot t else []) ≡ [] = λ b. elim b as (λ b. (if b then turn_bytes boot t else []) ≡ []) [ true ↦ h | false ↦ refl ] in
    let same : life_bytes boot (ts ++ t ∷ []) (suc n) ≡ life_bytes boot ts (suc n) =
    life_append boot ts t (suc n) ∙ ap (λ bytes. life_bytes boot ts (suc n) ++ bytes) (nothing (t.number == suc n)) ∙ append-nil (life_bytes boot ts (suc n)) in
    map-append (life_bytes boot (ts ++ t ∷ [])) (numbers_to n) (suc n ∷ [])
    ∙ rw (lives_none boot ts t n h, same) refl
    ∙ sym (map-append (life_bytes boot ts) (numbers_to n) (suc n ∷ []))

-- the last list is the one at the end
pub extend_end : (xs : List (List ℕ)) (x bytes : List ℕ) → with_last_longer (xs ++ x ∷ []) bytes ≡ xs ++ (x ++ bytes) ∷ []
extend_end [] x bytes = refl
extend_end (y ∷ []) x bytes = refl
extend_end (y ∷ z ∷ xs) x bytes = ap (λ ls. y ∷ ls) (extend_end (z ∷ xs) x bytes)

started_more : (ts : List Turn) (t : Turn) → lives_started (ts ++ t ∷ []) ≡ lives_started ts + births_by t.opens t.block.fate
started_more [] t = grind arith
started_more (s ∷ ts) t = rw (started_more ts t) (grind arith)

-- a life of its own
lives_new : (boot : List ℕ) (ts : List Turn) (t : Turn) → NumbersTo (lives_started ts) ts → t.number ≡ lives_started ts + 1 → births_by t.opens t.block.fate ≡ 1
    → lives_of boot (ts ++ t ∷ []) ≡ lives_of boot ts ++ turn_bytes boot t ∷ []
lives_new boot ts t all number one =
    let n : ℕ = lives_started ts in
    let counted : lives_started (ts ++ t ∷ []) ≡ suc n = started_more ts t ∙ ap (λ m. n + m) one ∙ grind arith in
    let own : life_bytes boot (ts ++ t ∷ []) (suc n) ≡ turn_bytes boot t =
    life_own boot ts t (suc n) (number ∙ grind arith) ∙ ap (λ bytes. bytes ++ turn_bytes boot t) (no_such_life boot n ts (suc n) all (omega arith)) in
    ap (λ m. map (life_bytes boot (ts ++ t ∷ [])) (numbers_to m)) counted
    ∙ map-append (life_bytes boot (ts ++ t ∷ [])) (numbers_to n) (suc n ∷ [])
    ∙ rw (lives_below boot ts t n (omega (arith, number)), own) refl

-- more of the last life
lives_longer : (boot : List ℕ) (ts : List Turn) (t : Turn) (n : ℕ) → lives_started ts ≡ n → 1 ≤ n → t.number ≡ n → births_by t.opens t.block.fate ≡ 0
    → lives_of boot (ts ++ t ∷ []) ≡ with_last_longer (lives_of boot ts) (turn_bytes boot t)
lives_longer boot ts t zero is some number none = absurd (omega arith)
lives_longer boot ts t (suc n) is some number none =
    let counted : lives_started (ts ++ t ∷ []) ≡ suc n = started_more ts t ∙ ap (λ m. lives_started ts + m) none ∙ grind arith in
    let before : lives_of boot ts ≡ map (life_bytes boot ts) (numbers_to n) ++ life_bytes boot ts (suc n) ∷ [] =
    ap (λ m. map (life_bytes boot ts) (numbers_to m)) is ∙ map-append (life_bytes boot ts) (numbers_to n) (suc n ∷ []) in
    ap (λ m. map (life_bytes boot (ts ++ t ∷ [])) (numbers_to m)) counted
    ∙ map-append (life_bytes boot (ts ++ t ∷ [])) (numbers_to n) (suc n ∷ [])
    ∙ rw (lives_below boot ts t n (omega (arith, number)), life_own boot ts t (suc n) number) refl
    ∙ sym (extend_end (map (life_bytes boot ts) (numbers_to n)) (life_bytes boot ts (suc n)) (turn_bytes boot t))
    ∙ ap (λ ls. with_last_longer ls (turn_bytes boot t)) (sym before)

-- nothing for any life
lives_same : (boot : List ℕ) (ts : List Turn) (t : Turn) → births_by t.opens t.block.fate ≡ 0 → turn_bytes boot t ≡ [] → lives_of boot (ts ++ t ∷ []) ≡ lives_of boot ts
lives_same boot ts t none empty =
    let counted : lives_started (ts ++ t ∷ []) ≡ lives_started ts = started_more ts t ∙ ap (λ m. lives_started ts + m) none ∙ grind arith in
    ap (λ m. map (life_bytes boot (ts ++ t ∷ [])) (numbers_to m)) counted ∙ lives_none boot ts t (lives_started ts) empty

lives_by : (boot : List ℕ) (ts : List Turn) (d : FatedBlock) (opens : Bool) (fate : BlockFate) → d.fate ≡ fate
    → NumbersTo (lives_started ts) ts → IsFit boot opens d.wrapped fate → (opens ≡ false → 1 ≤ lives_started ts)
    → lives_of boot (ts ++ turn_of opens (lives_started ts) d ∷ []) ≡ children_after opens fate (turn_bytes boot (turn_of opens (lives_started ts) d)) (lives_of boot ts)
lives_by boot ts d true Whole is all fit some = lives_new boot ts (turn_of true (lives_started ts) d) all (rw is refl) (rw is refl)
lives_by boot ts d true (Cut n) is all fit some = lives_new boot ts (turn_of true (lives_started ts) d) all (rw is refl) (rw is refl)
lives_by boot ts d true (Boot n) is all fit some = lives_new boot ts (turn_of true (lives_started ts) d) all (rw is refl) (rw is refl)
lives_by boot ts d true Refused is all fit some = lives_same boot ts (turn_of true (lives_started ts) d) (rw is refl) (rw is refl)
lives_by boot ts d false Whole is all fit some = lives_longer boot ts (turn_of false (lives_started ts) d) (lives_started ts) refl (some refl) (grind arith) refl
lives_by boot ts d false (Cut n) is all fit some = lives_longer boot ts (turn_of false (lives_started ts) d) (lives_started ts) refl (some refl) (grind arith) refl
lives_by boot ts d false (Boot n) is all fit some = absurd (let e : false ≡ true = fit.0 in cc)
lives_by boot ts d false Refused is all fit some = absurd (let e : false ≡ true = fit in cc)

-- the lives behind one more block
pub lives_more : (boot : List ℕ) (ds : List FatedBlock) (d : FatedBlock) (opens : Bool) → IsFit boot opens d.wrapped d.fate → (opens ≡ false → 1 ≤ lives_started (turns_from true 0 ds))
    → lives_of boot (turns_from true 0 ds ++ turn_of opens (lives_started (turns_from true 0 ds)) d ∷ [])
    ≡ children_after opens d.fate (turn_bytes boot (turn_of opens (lives_started (turns_from true 0 ds)) d)) (lives_of boot (turns_from true 0 ds))
lives_more boot ds d opens fit some =
    lives_by boot (turns_from true 0 ds) d opens d.fate refl (numbers_within true 0 (lives_started (turns_from true 0 ds)) ds (grind arith)) fit some

-- where a life stands, one was started
pub standing_births : (notes : List Note) → no_life true notes ≡ false → 1 ≤ births notes
standing_births [] h = absurd (let e : true ≡ false = h in cc)
standing_births (note.Born k p ∷ notes) h = omega arith
standing_births (note.BootCut k n ∷ notes) h = standing_births notes h
standing_births (note.Cut k p n ∷ notes) h = standing_births notes h
standing_births (note.Skipped p ∷ notes) h = standing_births notes h
standing_births (note.Unclosed k ∷ notes) h = standing_births notes h

length_extend : (xs : List (List ℕ)) (bytes : List ℕ) → length (with_last_longer xs bytes) ≡ length xs
length_extend [] bytes = refl
length_extend (x ∷ []) bytes = refl
length_extend (x ∷ y ∷ xs) bytes = ap suc (length_extend (y ∷ xs) bytes)

drop_extend : (n : ℕ) (xs : List (List ℕ)) (bytes : List ℕ) → n < length xs → drop n (with_last_longer xs bytes) ≡ with_last_longer (drop n xs) bytes
drop_extend n [] bytes h = absurd (omega arith)
drop_extend zero (x ∷ []) bytes h = refl
drop_extend (suc n) (x ∷ []) bytes h = absurd (omega arith)
drop_extend zero (x ∷ y ∷ xs) bytes h = refl
drop_extend (suc n) (x ∷ y ∷ xs) bytes h = drop_extend n (y ∷ xs) bytes (omega arith)

last_extend : (n : ℕ) (xs : List (List ℕ)) (bytes : List ℕ) → 1 ≤ n → last_of n (with_last_longer xs bytes) ≡ with_last_longer (last_of n xs) bytes
last_extend n [] bytes h =
    let none : 0 - n ≡ 0 = omega arith in
    let empty : List (List ℕ) = [] in
    ap (λ m. drop m empty) none ∙ sym (ap (λ m. with_last_longer (drop m empty) bytes) none)
last_extend n (x ∷ xs) bytes h =
    ap (λ m. drop (m - n) (with_last_longer (x ∷ xs) bytes)) (length_extend (x ∷ xs) bytes) ∙ drop_extend (length (x ∷ xs) - n) (x ∷ xs) bytes (omega arith)

last_push : (n : ℕ) (xs : List (List ℕ)) (x : List ℕ) → last_of (n + 1) (xs ++ x ∷ []) ≡ last_of n xs ++ x ∷ []
last_push n xs x =
    let same : length (xs ++ x ∷ []) - (n + 1) ≡ length xs - n = rw (length-append xs (x ∷ [])) (omega arith) in
    ap (λ m. drop m (xs ++ x ∷ [])) same ∙ drop-append-le (length xs - n) xs (x ∷ []) (omega arith)

last_same : (n : ℕ) (xs : List (List ℕ)) → last_of (n + 0) xs ≡ last_of n xs
last_same n xs = ap (λ m. last_of m xs) (grind arith)

-- the driver's own children behind one more block
pub last_given : (n : ℕ) (opens : Bool) (fate : BlockFate) (bytes : List ℕ) (all : List (List ℕ)) → (opens ≡ false → 1 ≤ n)
    → last_of (n + births_by opens fate) (children_after opens fate bytes all) ≡ children_after opens fate bytes (last_of n all)
last_given n true Whole bytes all some = last_push n all bytes
last_given n true (Cut k) bytes all some = last_push n all bytes
last_given n true (Boot k) bytes all some = last_push n all bytes
last_given n true Refused bytes all some = last_same n all
last_given n false Whole bytes all some = last_same n (with_last_longer all bytes) ∙ last_extend n all bytes (some refl)
last_given n false (Cut k) bytes all some = last_same n (with_last_longer all bytes) ∙ last_extend n all bytes (some refl)
last_given n false (Boot k) bytes all some = last_same n (with_last_longer all bytes) ∙ last_extend n all bytes (some refl)
last_given n false Refused bytes all some = last_same n all

-- how many children there were before the driver's own stays the same
given_length : (n : ℕ) (opens : Bool) (fate : BlockFate) (bytes : List ℕ) (all : List (List ℕ))
    → length (children_after opens fate bytes all) - (n + births_by opens fate) ≡ length all - n
given_length n true Whole bytes all = rw (length-append all (bytes ∷ [])) (omega arith)
given_length n true (Cut k) bytes all = rw (length-append all (bytes ∷ [])) (omega arith)
given_length n true (Boot k) bytes all = rw (length-append all (bytes ∷ [])) (omega arith)
given_length n true Refused bytes all = grind arith
given_length n false Whole bytes all = rw (length_extend all bytes) (grind arith)
given_length n false (Cut k) bytes all = rw (length_extend all bytes) (grind arith)
given_length n false (Boot k) bytes all = rw (length_extend all bytes) (grind arith)
given_length n false Refused bytes all = grind arith

-- one more block leaves how many children there were before the driver's own
pub given_same : (n m : ℕ) (opens : Bool) (fate : BlockFate) (bytes : List ℕ) (before now : Option (List (List ℕ))) → m ≡ n + births_by opens fate
    → IfSome now (λ ls. Some ls ≡ option_map (children_after opens fate bytes) before)
    → IfSome (option_map (λ ls. length ls - m) now) (λ k. Some k ≡ option_map (λ ls. length ls - n) before)
given_same n m opens fate bytes before None counted given = tt
given_same n m opens fate bytes None (Some now) counted given = absurd (let e : Some now ≡ None = given in cc)
given_same n m opens fate bytes (Some before) (Some now) counted given =
    let is : now ≡ children_after opens fate bytes before = let e : Some now ≡ Some (children_after opens fate bytes before) = given in cc in
    ap Some (ap (λ ls. length ls - m) is ∙ ap (λ k. length (children_after opens fate bytes before) - k) counted ∙ given_length n opens fate bytes before)
