-- The normal operation of a list of parts, by what the parts come to.
use Rattle.std.proofs.Common.{◌≡◌, ℕ, zero, suc, ◌+◌, List, [], ◌∷◌, ◌++◌, map, refl, ap, ◌∙◌, arith}
use Rattle.std.proofs.lemmas.List.Sums.{sum_by-cons}
use Rattle.ot_text.specs.declared.part.Part.{Part}
use Rattle.ot_text.specs.declared.part.Part.TheVariants.{Retain, Insert, Delete}
use Rattle.ot_text.specs.Change.{Change, base, target, inserted, effect_on, Old, New, Item, places_from, image, retain_then, delete_then}
use Rattle.ot_text.specs.Parts.{part_base, part_target, part_inserted, base_of, target_of, inserted_of, image_from, part_then, norm}
use Rattle.ot_text.proofs.AppliedSoFar.{base-part_then}
use Rattle.ot_text.proofs.EffectOf.{effect-insert_then}
use Rattle.ot_text.proofs.Then.{target-insert_then, target-retain_then, target-delete_then, inserted-insert_then, inserted-retain_then, inserted-delete_then}

-- the target of an operation with one part in front
pub target-part_then : (part : Part) (c : Change) → target (part_then part c) ≡ part_target part + target c
target-part_then (Retain k) c = target-retain_then k c
target-part_then (Insert t) c = target-insert_then t c
target-part_then (Delete k) c = omega (arith, target-delete_then k c)

-- the inserted characters of an operation with one part in front
pub inserted-part_then : (part : Part) (c : Change) → inserted (part_then part c) ≡ part_inserted part + inserted c
inserted-part_then (Retain k) c = omega (arith, inserted-retain_then k c)
inserted-part_then (Insert t) c = inserted-insert_then t c
inserted-part_then (Delete k) c = omega (arith, inserted-delete_then k c)

-- the base of a list of parts is the sum of what they go over
pub base-norm : (parts : List Part) → base (norm parts) ≡ base_of parts
base-norm [] = refl
base-norm (part ∷ parts) = omega (arith, base-part_then part (norm parts), base-norm parts, sum_by-cons part_base part parts)

-- the target of a list of parts is the sum of what they put there
pub target-norm : (parts : List Part) → target (norm parts) ≡ target_of parts
target-norm [] = refl
target-norm (part ∷ parts) = omega (arith, target-part_then part (norm parts), target-norm parts, sum_by-cons part_target part parts)

-- the number of inserted characters of a list of parts
pub inserted-norm : (parts : List Part) → inserted (norm parts) ≡ inserted_of parts
inserted-norm [] = refl
inserted-norm (part ∷ parts) = omega (arith, inserted-part_then part (norm parts), inserted-norm parts, sum_by-cons part_inserted part parts)

-- the image of an operation whose places are numbered from i on
abbrev image_at : ℕ → Change → List Item
image_at i c = map New c.start ++ effect_on New c.places (places_from i (base c))

image_at-retain_then : (k i : ℕ) (c : Change) → image_at i (retain_then k c) ≡ places_from i k ++ image_at (i + k) c
image_at-retain_then zero i c = let e : i ≡ i + 0 = omega arith in ap (λ n. image_at n c) e
image_at-retain_then (suc k) i c =
    let e : suc i + k ≡ i + suc k = omega arith in
    ap (λ rest. Old i ∷ rest) (image_at-retain_then k (suc i) c ∙ ap (λ n. places_from (suc i) k ++ image_at n c) e)

image_at-delete_then : (k i : ℕ) (c : Change) → image_at i (delete_then k c) ≡ image_at (i + k) c
image_at-delete_then zero i c = let e : i ≡ i + 0 = omega arith in ap (λ n. image_at n c) e
image_at-delete_then (suc k) i c =
    let e : suc i + k ≡ i + suc k = omega arith in
    image_at-delete_then k (suc i) c ∙ ap (λ n. image_at n c) e

image_at-norm : (i : ℕ) (parts : List Part) → image_at i (norm parts) ≡ image_from i parts
image_at-norm i [] = refl
image_at-norm i (Retain k ∷ parts) =
    image_at-retain_then k i (norm parts)
    ∙ ap (λ rest. places_from i k ++ rest) (image_at-norm (i + k) parts)
image_at-norm i (Insert t ∷ parts) =
    effect-insert_then New t (norm parts) (places_from i (base (norm parts)))
    ∙ ap (λ rest. map New t ++ rest) (image_at-norm i parts)
image_at-norm i (Delete k ∷ parts) = image_at-delete_then k i (norm parts) ∙ image_at-norm (i + k) parts

-- the image of a list of parts, part by part
pub image-norm : (parts : List Part) → image (norm parts) ≡ image_from 0 parts
image-norm parts = image_at-norm 0 parts
