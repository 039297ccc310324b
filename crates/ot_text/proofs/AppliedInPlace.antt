-- The parts of an operation, applied one after another to one list, in place.
use Rattle.std.proofs.Common.{◌≡◌, ℕ, ◌+◌, ◌<◌, ◌≤◌, List, ◌∷◌, ◌++◌, length, get_or, take, drop, refl, sym, ap, ◌∙◌, append_assoc, drop-drop, length-take, length-drop, length-append, arith}
use Rattle.std.proofs.lemmas.List.{length-map, length-take-le, take-append-drop, take_at, drop_at, drop_more}
use Rattle.ot_text.specs.declared.part.Part.{Part}
use Rattle.ot_text.specs.declared.part.Part.TheVariants.{Retain, Insert, Delete}
use Rattle.ot_text.specs.Change.{base, target, inserted, effect}
use Rattle.ot_text.specs.Parts.{norm, part_base, part_target, part_inserted}
use Rattle.ot_text.specs.Pieces.{piece_of, list_after_part}
use Rattle.std.specs.Prelude.{count_by}
use Rattle.std.proofs.lemmas.List.Sums.{sum_by-cons}
use Rattle.ot_text.specs.Ends.{is_insert}
use Rattle.ot_text.specs.Ready.{part_insert_count}
use Rattle.ot_text.proofs.AppliedSoFar.{effect-part_then, norm-drop, part_fits}
use Rattle.ot_text.proofs.Norm.{target-part_then, inserted-part_then}
use Rattle.ot_text.proofs.EffectOf.{length-effect}

-- how much the part makes
pub length-piece_of : {X : Type 0} (new : ℕ → X) (part : Part) (m : List X) → part_base part ≤ length m
    → length (piece_of new part m) ≡ part_target part
length-piece_of new (Retain k) m within = omega (arith, length-take k m)
length-piece_of new (Insert t) m within = length-map t new
length-piece_of new (Delete k) m within = refl

-- the first i parts made the first `place` elements of the list, and the rest of the parts makes the rest of the rest
pub record IsAppliedInPlace {X : Type 0} (new : ℕ → X) (parts : List Part) (items m : List X) (i place : ℕ) : Type 0 where
  pub fits : place + base (norm (drop i parts)) ≡ length m
  pub whole : take place m ++ effect new (norm (drop i parts)) (drop place m) ≡ effect new (norm parts) items

-- where the next part's elements lie
pub part_lies : {X : Type 0} (new : ℕ → X) (parts : List Part) (items m : List X) (i place : ℕ) (part : Part)
    → i < length parts → part ≡ get_or parts i part → IsAppliedInPlace new parts items m i place
    → place + part_base part ≤ length m
part_lies new parts items m i place part within is so_far =
    let fits = part_fits parts i place (length m) part within is so_far.fits in omega (arith, fits)

-- what the next part puts in is some of what all the rest puts in
pub part_inserts : (parts : List Part) (i : ℕ) (part : Part) → i < length parts → part ≡ get_or parts i part
    → inserted (norm (drop i parts)) ≡ part_inserted part + inserted (norm (drop (i + 1) parts))
part_inserts parts i part within is = ap inserted (norm-drop parts i part within is) ∙ inserted-part_then part (norm (drop (i + 1) parts))

-- one part further, the effect so far is that of the parts so far
pub applied_in_place : {X : Type 0} (new : ℕ → X) (parts : List Part) (items m : List X) (i place : ℕ) (part : Part)
    → i < length parts → part ≡ get_or parts i part → IsAppliedInPlace new parts items m i place
    → IsAppliedInPlace new parts items (list_after_part new part place m) (i + 1) (place + part_target part)
applied_in_place new parts items m i place part within is so_far =
    let fits : place + (part_base part + base (norm (drop (i + 1) parts))) ≡ length m = part_fits parts i place (length m) part within is so_far.fits in
    let room : part_base part ≤ length (drop place m) = omega (arith, length-drop place m) in
    let piece = piece_of new part (drop place m) in
    let rest = drop (place + part_base part) m in
    let made = take place m ++ piece in
    let long : length made ≡ place + part_target part =
    omega (arith, length-append (take place m) piece, length-take-le place m (omega arith), length-piece_of new part (drop place m) room) in
    let list : list_after_part new part place m ≡ made ++ rest = sym (append_assoc (take place m) piece rest) in
    let front : take (place + part_target part) (list_after_part new part place m) ≡ made = ap (take (place + part_target part)) list ∙ take_at made rest _ long in
    let behind : drop (place + part_target part) (list_after_part new part place m) ≡ rest = ap (drop (place + part_target part)) list ∙ drop_at made rest _ long in
    record {
      fits = omega (arith, ap length list, length-append made rest, long, length-drop (place + part_base part) m);
      whole =
          ap (λ t. t ++ effect new (norm (drop (i + 1) parts)) (drop (place + part_target part) (list_after_part new part place m))) front
          ∙ ap (λ t. made ++ effect new (norm (drop (i + 1) parts)) t) behind
          ∙ append_assoc (take place m) piece (effect new (norm (drop (i + 1) parts)) rest)
          ∙ ap (λ t. take place m ++ (piece ++ effect new (norm (drop (i + 1) parts)) t)) (sym (drop-drop (part_base part) place m))
          ∙ ap (λ t. take place m ++ t) (sym (effect-part_then new part (norm (drop (i + 1) parts)) (drop place m) room))
          ∙ ap (λ c. take place m ++ effect new c (drop place m)) (sym (norm-drop parts i part within is))
          ∙ so_far.whole;
    }

-- what the next part makes ends within the target
pub part_ends : {X : Type 0} (new : ℕ → X) (parts : List Part) (items m : List X) (i place : ℕ) (part : Part)
    → i < length parts → part ≡ get_or parts i part → base (norm parts) ≡ length items → IsAppliedInPlace new parts items m i place
    → place + part_target part ≤ target (norm parts)
part_ends new parts items m i place part within is all so_far =
    let rest = norm (drop i parts) in
    let fits = so_far.fits in
    omega (
      arith,
      ap target (norm-drop parts i part within is),
      target-part_then part (norm (drop (i + 1) parts)),
      ap length so_far.whole,
      length-effect new (norm parts) items (sym all),
      length-append (take place m) (effect new rest (drop place m)),
      length-take-le place m (omega arith),
      length-effect new rest (drop place m) (omega (arith, length-drop place m)),
    )

-- a retain changes nothing
pub list_after_part-Retain : {X : Type 0} (new : ℕ → X) (k place : ℕ) (m : List X) → list_after_part new (Retain k) place m ≡ m
list_after_part-Retain new k place m =
    ap (λ rest. take place m ++ (take k (drop place m) ++ rest)) (sym (drop-drop k place m))
    ∙ ap (λ rest. take place m ++ rest) (take-append-drop k (drop place m))
    ∙ take-append-drop place m

-- what the next part leaves of a list
pub length-list_after_part : {X : Type 0} (new : ℕ → X) (part : Part) (place : ℕ) (m : List X) → place + part_base part ≤ length m
    → length (list_after_part new part place m) + part_base part ≡ length m + part_target part
length-list_after_part new part place m within =
    let piece = piece_of new part (drop place m) in
    let rest = drop (place + part_base part) m in
    omega (
      arith,
      length-append (take place m) (piece ++ rest),
      length-append piece rest,
      length-take-le place m (omega arith),
      length-piece_of new part (drop place m) (omega (arith, length-drop place m)),
      length-drop (place + part_base part) m,
    )

-- a part leaves no more than it goes over and puts in
pub part_target-le : (part : Part) → part_target part ≤ part_base part + part_inserted part
part_target-le (Retain k) = omega arith
part_target-le (Insert t) = omega arith
part_target-le (Delete k) = omega arith

count_by-inserts : (part : Part) (parts : List Part) → count_by is_insert (part ∷ parts) ≡ part_insert_count part + count_by is_insert parts
count_by-inserts part parts = sum_by-cons (λ p. part_insert_count p) part parts

-- the texts of the next part and of the rest
pub part_inserts_count : (parts : List Part) (i : ℕ) (part : Part) → i < length parts → part ≡ get_or parts i part
    → count_by is_insert (drop i parts) ≡ part_insert_count part + count_by is_insert (drop (i + 1) parts)
part_inserts_count parts i part within is =
    ap (count_by is_insert) (drop_more parts i part within ∙ ap (λ p. p ∷ drop (i + 1) parts) (sym is)) ∙ count_by-inserts part (drop (i + 1) parts)
