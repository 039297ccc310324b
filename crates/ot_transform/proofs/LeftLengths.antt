-- How much two transformed operations put in, and how long transformed and composed operations make a text.
use Rattle.std.proofs.Common.{◌≡◌, ℕ, ◌+◌, ◌≤◌, List, [], ◌∷◌, length, refl, sym, ap, ◌∙◌, arith}
use Rattle.ot_text.specs.Change.{Fate, Gone, Kept, Change, base, target, inserted, fates_inserted, text_behind, effect, Item, New, places_from, insert_then, retain_then}
use Rattle.ot_text.proofs.EffectOf.{length-effect}
use Rattle.ot_text.proofs.Then.{inserted-insert_then, inserted-retain_then, target-le}
use Rattle.ot_transform.specs.Composition.{comp}
use Rattle.ot_transform.specs.Transform.{place_then, left_gap_then, left_on, left, right_gap_then, right_on, right}
use Rattle.ot_transform.proofs.Comp.{effect-comp, base-comp}
use Rattle.ot_transform.proofs.EachGap.{length-places_from}
use Rattle.ot_transform.proofs.Merge.{effect-left, effect-right, base-left, base-right}

inserted-place_then : (f g : Fate) (c : Change) → inserted (place_then f g c) ≡ inserted c
inserted-place_then f Gone c = refl
inserted-place_then Gone (Kept t) c = refl
inserted-place_then (Kept s) (Kept t) c = omega arith

fates_inserted-cons : (f : Fate) (fs : List Fate)
    → fates_inserted (f ∷ fs) ≡ length (text_behind f) + fates_inserted fs
fates_inserted-cons Gone fs = omega arith
fates_inserted-cons (Kept s) fs = refl

-- of the two texts at a gap one is put in
inserted-left_gap_then : (s t : List ℕ) (c : Change)
    → inserted (insert_then s (retain_then (length t) c)) ≡ length s + inserted c
inserted-left_gap_then s t c = omega (arith, inserted-insert_then s (retain_then (length t) c), inserted-retain_then (length t) c)

inserted-right_gap_then : (s t : List ℕ) (c : Change)
    → inserted (retain_then (length s) (insert_then t c)) ≡ length t + inserted c
inserted-right_gap_then s t c = omega (arith, inserted-insert_then t c, inserted-retain_then (length s) (insert_then t c))

inserted-left_on : (fs gs : List Fate) → length fs ≡ length gs → inserted (left_on fs gs) ≡ fates_inserted fs
inserted-left_on [] gs p = refl
inserted-left_on (f ∷ fs) [] p = absurd (omega arith)
inserted-left_on (f ∷ fs) (g ∷ gs) p =
    omega (
      arith,
      inserted-place_then f g (left_gap_then (text_behind f) (text_behind g) (left_on fs gs)),
      inserted-left_gap_then (text_behind f) (text_behind g) (left_on fs gs),
      inserted-left_on fs gs (omega arith),
      fates_inserted-cons f fs,
    )

-- an operation moved as the first puts in as much as before
pub inserted-left : (a b : Change) → base a ≡ base b → inserted (left a b) ≡ inserted a
inserted-left a b p =
    omega (arith, inserted-left_gap_then a.start b.start (left_on a.places b.places), inserted-left_on a.places b.places p)

-- the target of an operation moved as the first
pub target-left-le : (a b : Change) → base a ≡ base b → target (left a b) ≤ target b + inserted a
target-left-le a b p = omega (arith, target-le (left a b), base-left a b p, inserted-left a b p)

inserted-right_on : (gs fs : List Fate) → length gs ≡ length fs → inserted (right_on gs fs) ≡ fates_inserted gs
inserted-right_on [] fs p = refl
inserted-right_on (g ∷ gs) [] p = absurd (omega arith)
inserted-right_on (g ∷ gs) (f ∷ fs) p =
    omega (
      arith,
      inserted-place_then g f (right_gap_then (text_behind f) (text_behind g) (right_on gs fs)),
      inserted-right_gap_then (text_behind f) (text_behind g) (right_on gs fs),
      inserted-right_on gs fs (omega arith),
      fates_inserted-cons g gs,
    )

-- an operation moved as the second puts in as much as before
pub inserted-right : (a b : Change) → base a ≡ base b → inserted (right b a) ≡ inserted b
inserted-right a b p =
    omega (
      arith,
      inserted-right_gap_then a.start b.start (right_on b.places a.places),
      inserted-right_on b.places a.places (sym p),
    )

-- the target of an operation moved as the second
pub target-right-le : (a b : Change) → base a ≡ base b → target (right b a) ≤ target a + inserted b
target-right-le a b p = omega (arith, target-le (right b a), base-right a b p, inserted-right a b p)

-- both ways round the text has one length
pub target-left : (a b : Change) → base a ≡ base b → target (left a b) ≡ target (right b a)
target-left a b p =
    let m : List Item = places_from 0 (base a) in
    let n : length m ≡ base a = length-places_from 0 (base a) in
    sym (length-effect New (left a b) (effect New b m) (length-effect New b m (n ∙ p) ∙ sym (base-left a b p)))
    ∙ ap length (effect-left New New a b m (sym n) (sym p ∙ sym n))
    ∙ sym (ap length (effect-right New New a b m (sym n) (sym p ∙ sym n)))
    ∙ length-effect New (right b a) (effect New a m) (length-effect New a m n ∙ sym (base-right a b p))

-- the composition makes a text as long as the second operation does
pub target-comp : (a b : Change) → target a ≡ base b → target (comp a b) ≡ target b
target-comp a b p =
    let m : List Item = places_from 0 (base a) in
    let n : length m ≡ base a = length-places_from 0 (base a) in
    sym (length-effect New (comp a b) m (n ∙ sym (base-comp a b p)))
    ∙ ap length (effect-comp New a b m (sym n))
    ∙ length-effect New b (effect New a m) (length-effect New a m n ∙ p)
