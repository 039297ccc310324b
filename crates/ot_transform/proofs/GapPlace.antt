-- What stands in an operation's target, gap by gap.
use Rattle.std.proofs.Common.{◌≡◌, inl, inr, ℕ, zero, suc, ◌+◌, ◌-◌, ◌≤◌, Bool, true, false, IsTrue, Some, if◌then◌else◌, List, [], ◌∷◌, ◌++◌, length, map, refl, sym, ap, ◌∙◌, append-nil, append_assoc, length-append, arith}
use Rattle.std.proofs.lemmas.Bool.{cases_lt, false≢true}
use Rattle.std.proofs.lemmas.List.{get_or_past, length-map}
use Rattle.ot_text.specs.Change.{Fate, Gone, Kept, Change, base, stays, text_behind, ins, keeps_place, effect_on, Item, Old, New, places_from, image, item_element}
use Rattle.ot_text.proofs.ItemElement.{fills, slice_get-at}
use Rattle.ot_transform.specs.Merge.{each_from, each_gap}
use Rattle.ot_transform.specs.Transform.{gap_place, image_at, ins_places, kept_place}
use Rattle.ot_transform.proofs.EachGap.{change, each_from-suc, each_from-unchanged}

-- place k, if it is kept
abbrev if_stays : Bool → ℕ → List Item
if_stays stays k = if stays then Old k ∷ [] else []

-- what stands at gap i of an operation whose places are numbered from j on
abbrev numbered_at : Change → ℕ → ℕ → List Item
numbered_at c j i = map New (ins c i) ++ if_stays (keeps_place c i) (j + i)

fate-effect : (f : Fate) (fates : List Fate) (j : ℕ) (m : List Item)
    → effect_on New (f ∷ fates) (Old j ∷ m) ≡ if_stays (stays f) j ++ (map New (text_behind f) ++ effect_on New fates m)
fate-effect Gone fates j m = refl
fate-effect (Kept t) fates j m = refl

numbered-gaps : (s : List ℕ) (fates : List Fate) (j : ℕ)
    → map New s ++ effect_on New fates (places_from j (length fates)) ≡ each_from (numbered_at (change s fates) j) 0 (suc (length fates))
numbered-gaps s [] j = sym (append-nil (map New s ++ []))
numbered-gaps s (f ∷ fates) j =
    let here : j ≡ j + 0 = omega arith in
    let rest : Change = change (text_behind f) fates in
    ap (λ more. map New s ++ more)
    (fate-effect f fates j (places_from (suc j) (length fates))
    ∙ ap (λ more. if_stays (stays f) j ++ more) (numbered-gaps (text_behind f) fates (suc j))
    ∙ ap (λ k. if_stays (stays f) k ++ each_from (numbered_at rest (suc j)) 0 (suc (length fates))) here)
    ∙ sym (append_assoc (map New s) (if_stays (stays f) (j + 0)) _)
    ∙ ap (λ more. numbered_at (change s (f ∷ fates)) j 0 ++ more)
    (sym (each_from-suc (numbered_at (change s (f ∷ fates)) j) 0 (suc (length fates))
    ∙ each_from-unchanged (λ i. numbered_at (change s (f ∷ fates)) j (suc i)) (numbered_at rest (suc j))
    (λ i. let there : j + suc i ≡ suc j + i = omega arith in
    ap (λ k. map New (ins rest i) ++ if_stays (keeps_place rest i) k) there)
    0 (suc (length fates))))

-- an operation's image is what stands at each of its gaps
pub image-gaps : (c : Change) → image c ≡ each_gap (image_at c) (base c)
image-gaps c =
    numbered-gaps c.start c.places 0
    ∙ each_from-unchanged (numbered_at c 0) (image_at c)
    (λ i. let here : 0 + i ≡ i = omega arith in ap (λ k. map New (ins c i) ++ if_stays (keeps_place c i) k) here)
    0 (suc (base c))

each_from-split : {X : Type 0} (f : ℕ → List X) (j i k : ℕ)
    → each_from f j (i + suc k) ≡ each_from f j i ++ (f (j + i) ++ each_from f (suc (j + i)) k)
each_from-split f j zero k =
    let all : 0 + suc k ≡ suc k = omega arith in
    let here : j ≡ j + 0 = omega arith in
    ap (each_from f j) all ∙ ap (λ i. f i ++ each_from f (suc i) k) here
each_from-split f j (suc i) k =
    let all : suc i + suc k ≡ suc (i + suc k) = omega arith in
    let there : suc j + i ≡ j + suc i = omega arith in
    ap (each_from f j) all
    ∙ ap (λ more. f j ++ more) (each_from-split f (suc j) i k)
    ∙ sym (append_assoc (f j) (each_from f (suc j) i) _)
    ∙ ap (λ n. (f j ++ each_from f (suc j) i) ++ (f n ++ each_from f (suc n) k)) there

length-image_at : (c : Change) (i : ℕ) → length (image_at c i) ≡ length (ins c i) + (if keeps_place c i then 1 else 0)
length-image_at c i =
    length-append (map New (ins c i)) (if_stays (keeps_place c i) i)
    ∙ omega (arith, length-map (ins c i) New, length-stays (keeps_place c i) i)
  where
    length-stays : (b : Bool) (k : ℕ) → length (if_stays b k) ≡ (if b then 1 else 0)
    length-stays true k = refl
    length-stays false k = refl

-- the place of a gap is the length of what the image has in front of it
pub gap_place-length : (c : Change) (i : ℕ) → gap_place c i ≡ length (each_from (image_at c) 0 i)
gap_place-length c zero = refl
gap_place-length c (suc i) =
    let last : i + 1 ≡ suc i = omega arith in
    let here : 0 + i ≡ i = omega arith in
    omega (
      arith,
      ap (λ n. length (each_from (image_at c) 0 n)) last,
      ap length (each_from-split (image_at c) 0 i 0),
      ap (λ n. length (image_at c n)) here,
      length-append (each_from (image_at c) 0 i) (image_at c (0 + i) ++ []),
      length-append (image_at c (0 + i)) [],
      length-image_at c i,
      gap_place-length c i,
    )

-- the image, with the texts of a gap between what stands in front of them and what stands behind them
image-round : (c : Change) (i : ℕ) → i ≤ base c
    → image c ≡ each_from (image_at c) 0 i ++ (map New (ins c i) ++ (if_stays (keeps_place c i) i ++ each_from (image_at c) (suc i) (base c - i)))
image-round c i within =
    let all : suc (base c) ≡ i + suc (base c - i) = omega arith in
    let here : 0 + i ≡ i = omega arith in
    image-gaps c
    ∙ ap (each_from (image_at c) 0) all
    ∙ each_from-split (image_at c) 0 i (base c - i)
    ∙ ap (λ n. each_from (image_at c) 0 i ++ (image_at c n ++ each_from (image_at c) (suc n) (base c - i))) here
    ∙ ap (λ more. each_from (image_at c) 0 i ++ more) (append_assoc (map New (ins c i)) (if_stays (keeps_place c i) i) _)

-- at the places of a gap's text the image has that text
pub item_element-ins_places : (c : Change) (i : ℕ) → map (item_element New (image c)) (ins_places c i) ≡ map Some (map New (ins c i))
item_element-ins_places c i = elim (cases_lt (base c) i) [
  | inr within ↦
      rw (image-round c i within, gap_place-length c i, ← length-map (ins c i) New)
      (fills New (each_from (image_at c) 0 i) (map New (ins c i)) (if_stays (keeps_place c i) i ++ each_from (image_at c) (suc i) (base c - i)))
  | inl past ↦
      let none : ins c i ≡ [] = get_or_past (c.start ∷ map text_behind c.places) i [] (omega (arith, length-map c.places text_behind)) in
      rw none refl
]

-- at a kept place's place the image has that place
pub item_element-kept_place : (c : Change) (i : ℕ) → IsTrue (keeps_place c i) → item_element New (image c) (kept_place c i) ≡ Some (Old i)
item_element-kept_place c i is_kept = elim (cases_lt (base c) i) [
  | inr within ↦
      let front : List Item = each_from (image_at c) 0 i ++ map New (ins c i) in
      let place : gap_place c i + length (ins c i) ≡ length front =
      omega (arith, gap_place-length c i, length-append (each_from (image_at c) 0 i) (map New (ins c i)), length-map (ins c i) New) in
      let whole : image c ≡ front ++ Old i ∷ each_from (image_at c) (suc i) (base c - i) =
      image-round c i within ∙ sym (append_assoc (each_from (image_at c) 0 i) (map New (ins c i)) _) ∙ rw is_kept refl in
      rw (place, whole) (slice_get-at front (Old i) (each_from (image_at c) (suc i) (base c - i)))
  | inl past ↦
      absurd (false≢true (sym (get_or_past (map stays c.places) i false (omega (arith, length-map c.places stays))) ∙ is_kept))
]
