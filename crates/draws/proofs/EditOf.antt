-- What a drawn edit does to a text of its length.
use Rattle.std.proofs.Common.{◌≡◌, ℕ, ◌+◌, ◌-◌, ◌/◌, ◌^◌, ◌<◌, ◌≤◌, Bool, true, false, ◌&&◌, nat_eq, nat_lt, List, [], ◌∷◌, ◌++◌, length, take, drop, refl, ap, ◌∙◌, subst, length-drop, drop-drop, arith}
use Rattle.std.proofs.lemmas.Bool.Decides.{nat_tests}
use Rattle.std.proofs.lemmas.Nat.{mod_below}
use Rattle.ot_text.specs.Change.{base, target, effect, plain, nothing, retain_then, insert_then, delete_then}
use Rattle.ot_text.proofs.Then.{base-retain_then, base-delete_then, target-retain_then, target-insert_then, target-delete_then}
use Rattle.ot_text.proofs.EffectOf.{effect-insert_then, effect-retain_then, effect-delete_then}
use Rattle.draws.specs.Numbers.{number_after_draw, drawn_below}
use Rattle.draws.specs.Edits.{drawn_letter, drawn_edit, drawn_place, takes_away, with_one, without_one}
use Rattle.draws.proofs.DrawnEdit.{by_test}

-- the sizes of an edit that takes one character away
without_sizes : (p n : ℕ) → p < n → (base (without_one p n) ≡ n) × (target (without_one p n) + 1 ≡ n)
without_sizes p n inside = (
  omega (arith, inside, base-retain_then p (delete_then 1 (retain_then (n - p - 1) nothing)), base-delete_then 1 (retain_then (n - p - 1) nothing), base-retain_then (n - p - 1) nothing),
  omega (arith, inside, target-retain_then p (delete_then 1 (retain_then (n - p - 1) nothing)), target-delete_then 1 (retain_then (n - p - 1) nothing), target-retain_then (n - p - 1) nothing),
)

-- the sizes of one that puts a letter in
with_sizes : (p letter n : ℕ) → p ≤ n → (base (with_one p letter n) ≡ n) × (target (with_one p letter n) ≡ n + 1)
with_sizes p letter n within = (
  omega (arith, within, base-retain_then p (insert_then (letter ∷ []) (retain_then (n - p) nothing)), base-retain_then (n - p) nothing),
  omega (arith, within, target-retain_then p (insert_then (letter ∷ []) (retain_then (n - p) nothing)), target-insert_then (letter ∷ []) (retain_then (n - p) nothing), target-retain_then (n - p) nothing),
)

all_kept : (text : List ℕ) → effect plain (retain_then (length text) nothing) text ≡ text
all_kept [] = refl
all_kept (x ∷ text) = ap (λ t. x ∷ t) (all_kept text)

kept : (k : ℕ) (text : List ℕ) → length text ≡ k → effect plain (retain_then k nothing) text ≡ text
kept k text is = subst (λ (n : ℕ). effect plain (retain_then n nothing) text ≡ text) is (all_kept text)

-- what one that takes away makes of a text
without_effect : (p n : ℕ) (text : List ℕ) → length text ≡ n → p < n → effect plain (without_one p n) text ≡ take p text ++ drop (p + 1) text
without_effect p n text is inside =
    effect-retain_then plain p (delete_then 1 (retain_then (n - p - 1) nothing)) text (omega (arith, is, inside))
    ∙ ap (λ t. take p text ++ t) (
    effect-delete_then plain 1 (retain_then (n - p - 1) nothing) (drop p text) (omega (arith, is, inside, length-drop p text))
    ∙ kept (n - p - 1) (drop 1 (drop p text)) (omega (arith, is, inside, length-drop p text, length-drop 1 (drop p text)))
    ∙ drop-drop 1 p text
    )

-- what one that puts a letter in makes of it
with_effect : (p letter n : ℕ) (text : List ℕ) → length text ≡ n → p ≤ n → effect plain (with_one p letter n) text ≡ take p text ++ (letter ∷ drop p text)
with_effect p letter n text is within =
    effect-retain_then plain p (insert_then (letter ∷ []) (retain_then (n - p) nothing)) text (omega (arith, is, within))
    ∙ ap (λ t. take p text ++ t) (
    effect-insert_then plain (letter ∷ []) (retain_then (n - p) nothing) (drop p text)
    ∙ ap (λ t. letter ∷ t) (kept (n - p) (drop p text) (omega (arith, is, within, length-drop p text)))
    )

-- the place is one of the text, or its end
pub place_within : (n number : ℕ) → drawn_place n number ≤ n
unfolding drawn_below
place_within n number = omega (arith, mod_below (number_after_draw number / 2 ^ 33) (n + 1) (omega arith))

inside_of : (a p n : ℕ) → (nat_eq a 0 && nat_lt p n) ≡ true → p < n
inside_of a p n both = grind (arith, nat_tests)

-- where a character goes, it is one of the text
pub place_inside : (n number : ℕ) → takes_away n number ≡ true → drawn_place n number < n
place_inside n number away = inside_of _ (drawn_place n number) n away

-- the sizes where a character goes
pub shorter : (n number : ℕ) → takes_away n number ≡ true → (base (drawn_edit n number) ≡ n) × (target (drawn_edit n number) + 1 ≡ n)
shorter n number away =
    let is = (by_test n number true away).0 in
    let sizes = without_sizes (drawn_place n number) n (place_inside n number away) in
    (ap base is ∙ sizes.0, ap (λ c. target c + 1) is ∙ sizes.1)

-- the sizes where a letter comes
pub longer : (n number : ℕ) → takes_away n number ≡ false → (base (drawn_edit n number) ≡ n) × (target (drawn_edit n number) ≡ n + 1)
longer n number comes =
    let is = (by_test n number false comes).0 in
    let sizes = with_sizes (drawn_place n number) (drawn_letter (number_after_draw (number_after_draw number))) n (place_within n number) in
    (ap base is ∙ sizes.0, ap target is ∙ sizes.1)

-- the length of the text that it applies to
pub base_is : (n number : ℕ) → base (drawn_edit n number) ≡ n
base_is n number = by_away (takes_away n number) refl
  where
    by_away : (b : Bool) → takes_away n number ≡ b → base (drawn_edit n number) ≡ n
    by_away true away = (shorter n number away).0
    by_away false comes = (longer n number comes).0

-- what becomes of a text where a character goes
pub goes : (n number : ℕ) (text : List ℕ) → length text ≡ n → takes_away n number ≡ true
    → effect plain (drawn_edit n number) text ≡ take (drawn_place n number) text ++ drop (drawn_place n number + 1) text
goes n number text is away = ap (λ c. effect plain c text) (by_test n number true away).0 ∙ without_effect (drawn_place n number) n text is (place_inside n number away)

-- what becomes of it where a letter comes
pub comes : (n number : ℕ) (text : List ℕ) → length text ≡ n → takes_away n number ≡ false
    → effect plain (drawn_edit n number) text ≡ take (drawn_place n number) text ++ (drawn_letter (number_after_draw (number_after_draw number)) ∷ drop (drawn_place n number) text)
comes n number text is stays =
    ap (λ c. effect plain c text) (by_test n number false stays).0
    ∙ with_effect (drawn_place n number) (drawn_letter (number_after_draw (number_after_draw number))) n text is (place_within n number)
