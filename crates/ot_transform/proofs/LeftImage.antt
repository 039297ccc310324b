-- The images of two transformed operations, gap by gap.
use Rattle.std.proofs.Common.{◌≡◌, ℕ, suc, ◌+◌, ◌&&◌, if◌then◌else◌, List, [], ◌∷◌, ◌++◌, length, map, refl, sym, ap, ◌∙◌, append-nil, arith}
use Rattle.ot_text.specs.Change.{Fate, Gone, Kept, Change, base, target, fates_target, stays, text_behind, ins, keeps_place, effect, Item, Old, New, places_from, image, nothing, insert_then, retain_then}
use Rattle.ot_text.proofs.EffectOf.{effect-insert_then, effect-retain_all}
use Rattle.ot_transform.specs.Merge.{each_from}
use Rattle.ot_transform.specs.Transform.{place_then, left_on, left, right_on, right, gap_place, left_image, right_image}
use Rattle.ot_transform.proofs.EachGap.{change, one_if_stays, each_from-suc, each_from-unchanged, append_of_three, gap_place-cons, length-places_from, places_from-add}
use Rattle.ot_transform.proofs.Merge.{base-left, base-right}

same_places : (i j n k : ℕ) → i ≡ j → n ≡ k → places_from i n ≡ places_from j k
same_places i j n k e d = ap (λ x. places_from x n) e ∙ ap (places_from j) d

-- retaining places
effect-retain_places : (j n k : ℕ) (c : Change)
    → effect New (retain_then n c) (places_from j (n + k)) ≡ places_from j n ++ effect New c (places_from (j + n) k)
effect-retain_places j n k c =
    ap (effect New (retain_then n c)) (places_from-add j n k)
    ∙ ap (λ len. effect New (retain_then len c) (places_from j n ++ places_from (j + n) k)) (sym (length-places_from j n))
    ∙ effect-retain_all New c (places_from j n) (places_from (j + n) k)

-- one place, which is place i of the other target if the other operation keeps it
abbrev if_both : Fate → Fate → ℕ → List Item
if_both f g i = if stays f && stays g then Old i ∷ [] else []

effect-place : (f g : Fate) (gs : List Fate) (c : Change) (i : ℕ)
    → effect New (place_then f g c) (places_from i (fates_target (g ∷ gs)))
    ≡ if_both f g i ++ effect New c (places_from (i + one_if_stays g) (target (change (text_behind g) gs)))
effect-place Gone Gone gs c i = ap (effect New c) (same_places _ _ _ _ (omega arith) (omega arith))
effect-place (Kept s) Gone gs c i = ap (effect New c) (same_places _ _ _ _ (omega arith) (omega arith))
effect-place Gone (Kept t) gs c i = ap (effect New c) (same_places _ _ _ _ (omega arith) refl)
effect-place (Kept s) (Kept t) gs c i = ap (λ rest. Old i ∷ effect New c rest) (same_places _ _ _ _ (omega arith) refl)

-- what `gap` gives for each gap and its place in the target, where the target's places begin at j
abbrev at_gap_places : (ℕ → ℕ → List Item) → Change → ℕ → ℕ → List Item
at_gap_places gap c j i = gap i (j + gap_place c i)

gap_places-cons : (gap : ℕ → ℕ → List Item) (t : List ℕ) (g : Fate) (gs : List Fate) (j n : ℕ)
    → each_from (at_gap_places gap (change t (g ∷ gs)) j) 0 (suc n)
    ≡ gap 0 j ++ each_from (at_gap_places (λ i. gap (suc i)) (change (text_behind g) gs) (j + length t + one_if_stays g)) 0 n
gap_places-cons gap t g gs j n =
    let b : Change = change t (g ∷ gs) in
    let b' : Change = change (text_behind g) gs in
    let j' : ℕ = j + length t + one_if_stays g in
    let e : j + 0 ≡ j = omega arith in
    ap (λ i. gap 0 i ++ each_from (at_gap_places gap b j) 1 n) e
    ∙ ap (λ rest. gap 0 j ++ rest)
    (each_from-suc (at_gap_places gap b j) 0 n
    ∙ each_from-unchanged (λ i. at_gap_places gap b j (suc i)) (at_gap_places (λ i. gap (suc i)) b' j')
    (λ i. let d : j + gap_place b (suc i) ≡ j' + gap_place b' i = omega (arith, gap_place-cons t g gs i) in
    ap (gap (suc i)) d)
    0 n)

gap_places-first : (gap : ℕ → ℕ → List Item) (c : Change) (n : ℕ)
    → each_from (at_gap_places gap c 0) 0 n ≡ each_from (λ i. gap i (gap_place c i)) 0 n
gap_places-first gap c n =
    each_from-unchanged (at_gap_places gap c 0) (λ i. gap i (gap_place c i))
    (λ i. let e : 0 + gap_place c i ≡ gap_place c i = omega arith in ap (gap i) e)
    0 n

-- what `left` leaves of gap i, where the second operation's text there begins at place j of its target
abbrev left_gap : Change → Change → ℕ → ℕ → List Item
left_gap a b i j =
    map New (ins a i)
    ++ (places_from j (length (ins b i)) ++ (if keeps_place a i && keeps_place b i then Old (j + length (ins b i)) ∷ [] else []))

left_images : (s t : List ℕ) (fs gs : List Fate) (j : ℕ) → length fs ≡ length gs
    → effect New (left (change s fs) (change t gs)) (places_from j (target (change t gs)))
    ≡ each_from (at_gap_places (left_gap (change s fs) (change t gs)) (change t gs) j) 0 (suc (length fs))
left_images s t [] [] j p =
    effect-insert_then New s (retain_then (length t) nothing) (places_from j (length t + 0))
    ∙ ap (λ rest. map New s ++ rest) (effect-retain_places j (length t) 0 nothing)
    ∙ ap (λ i. map New s ++ (places_from i (length t) ++ [])) (omega arith)
    ∙ sym (append-nil (map New s ++ (places_from (j + 0) (length t) ++ [])))
left_images s t [] (g ∷ gs) j p = absurd (omega arith)
left_images s t (f ∷ fs) [] j p = absurd (omega arith)
left_images s t (f ∷ fs) (g ∷ gs) j p =
    let c : Change = left (change (text_behind f) fs) (change (text_behind g) gs) in
    let places : List Item = places_from j (length t + fates_target (g ∷ gs)) in
    effect-insert_then New s (retain_then (length t) (left_on (f ∷ fs) (g ∷ gs))) places
    ∙ ap (λ rest. map New s ++ rest)
    (effect-retain_places j (length t) (fates_target (g ∷ gs)) (left_on (f ∷ fs) (g ∷ gs))
    ∙ ap (λ rest. places_from j (length t) ++ rest)
    (effect-place f g gs c (j + length t)
    ∙ ap (λ rest. if_both f g (j + length t) ++ rest)
    (left_images (text_behind f) (text_behind g) fs gs (j + length t + one_if_stays g) (omega arith))))
    ∙ sym (append_of_three (map New s) (places_from j (length t)) (if_both f g (j + length t)) _)
    ∙ sym (gap_places-cons (left_gap (change s (f ∷ fs)) (change t (g ∷ gs))) t g gs j (suc (length fs)))

-- the image of the first operation moved through the second, gap by gap
pub image-left : (a b : Change) → base a ≡ base b → image (left a b) ≡ left_image a b
image-left a b p =
    ap (λ n. effect New (left a b) (places_from 0 n)) (base-left a b p)
    ∙ left_images a.start b.start a.places b.places 0 p
    ∙ gap_places-first (left_gap a b) b (suc (base a))

-- what `right` leaves of gap i, where the first operation's text there begins at place j of its target
abbrev right_gap : Change → Change → ℕ → ℕ → List Item
right_gap b a i j =
    places_from j (length (ins a i))
    ++ (map New (ins b i) ++ (if keeps_place b i && keeps_place a i then Old (j + length (ins a i)) ∷ [] else []))

right_images : (s t : List ℕ) (fs gs : List Fate) (j : ℕ) → length fs ≡ length gs
    → effect New (right (change t gs) (change s fs)) (places_from j (target (change s fs)))
    ≡ each_from (at_gap_places (right_gap (change t gs) (change s fs)) (change s fs) j) 0 (suc (length fs))
right_images s t [] [] j p =
    effect-retain_places j (length s) 0 (insert_then t nothing)
    ∙ ap (λ rest. places_from j (length s) ++ rest) (effect-insert_then New t nothing [])
    ∙ ap (λ i. places_from i (length s) ++ (map New t ++ [])) (omega arith)
    ∙ sym (append-nil (places_from (j + 0) (length s) ++ (map New t ++ [])))
right_images s t [] (g ∷ gs) j p = absurd (omega arith)
right_images s t (f ∷ fs) [] j p = absurd (omega arith)
right_images s t (f ∷ fs) (g ∷ gs) j p =
    let c : Change = right (change (text_behind g) gs) (change (text_behind f) fs) in
    effect-retain_places j (length s) (fates_target (f ∷ fs)) (insert_then t (right_on (g ∷ gs) (f ∷ fs)))
    ∙ ap (λ rest. places_from j (length s) ++ rest)
    (effect-insert_then New t (right_on (g ∷ gs) (f ∷ fs)) (places_from (j + length s) (fates_target (f ∷ fs)))
    ∙ ap (λ rest. map New t ++ rest)
    (effect-place g f fs c (j + length s)
    ∙ ap (λ rest. if_both g f (j + length s) ++ rest)
    (right_images (text_behind f) (text_behind g) fs gs (j + length s + one_if_stays f) (omega arith))))
    ∙ sym (append_of_three (places_from j (length s)) (map New t) (if_both g f (j + length s)) _)
    ∙ sym (gap_places-cons (right_gap (change t (g ∷ gs)) (change s (f ∷ fs))) s f fs j (suc (length fs)))

-- the image of the second operation moved through the first, gap by gap
pub image-right : (a b : Change) → base a ≡ base b → image (right b a) ≡ right_image b a
image-right a b p =
    ap (λ n. effect New (right b a) (places_from 0 n)) (base-right a b p)
    ∙ right_images a.start b.start a.places b.places 0 p
    ∙ gap_places-first (right_gap b a) a (suc (base a))
