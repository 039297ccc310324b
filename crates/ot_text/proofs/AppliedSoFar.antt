-- The parts of an operation, applied one after another.
use Rattle.std.proofs.Common.{◌≡◌, ℕ, ◌+◌, ◌<◌, ◌≤◌, List, ◌∷◌, ◌++◌, length, get_or, drop, sym, ap, ◌∙◌, append_assoc, length-drop, drop-drop, arith}
use Rattle.std.proofs.lemmas.List.{drop_more}
use Rattle.ot_text.specs.declared.part.Part.{Part}
use Rattle.ot_text.specs.declared.part.Part.TheVariants.{Retain, Insert, Delete}
use Rattle.ot_text.specs.Change.{Change, base, effect}
use Rattle.ot_text.specs.Parts.{norm, part_then, part_base}
use Rattle.ot_text.specs.Pieces.{piece_of}
use Rattle.ot_text.proofs.EffectOf.{effect-insert_then, effect-retain_then, effect-delete_then}
use Rattle.ot_text.proofs.Then.{base-retain_then, base-delete_then}

-- the base of an operation with one part in front
pub base-part_then : (part : Part) (c : Change) → base (part_then part c) ≡ part_base part + base c
base-part_then (Retain k) c = base-retain_then k c
base-part_then (Insert t) c = omega arith
base-part_then (Delete k) c = base-delete_then k c

-- the effect of an operation with one part in front
pub effect-part_then : {X : Type 0} (new : ℕ → X) (part : Part) (c : Change) (m : List X) → part_base part ≤ length m
    → effect new (part_then part c) m ≡ piece_of new part m ++ effect new c (drop (part_base part) m)
effect-part_then new (Retain k) c m within = effect-retain_then new k c m within
effect-part_then new (Insert t) c m within = effect-insert_then new t c m
effect-part_then new (Delete k) c m within = effect-delete_then new k c m within

-- the first i parts go over `at` elements and made `made`; the rest of the parts makes the rest of the rest
pub record IsAppliedSoFar {X : Type 0} (new : ℕ → X) (parts : List Part) (items made : List X) (i at : ℕ) : Type 0 where
  pub fits : at + base (norm (drop i parts)) ≡ length items
  pub whole : made ++ effect new (norm (drop i parts)) (drop at items) ≡ effect new (norm parts) items

-- the operation of a part and of those behind it
pub norm-drop : (parts : List Part) (i : ℕ) (part : Part) → i < length parts → part ≡ get_or parts i part
    → norm (drop i parts) ≡ part_then part (norm (drop (i + 1) parts))
norm-drop parts i part within is = ap norm (drop_more parts i part within ∙ ap (λ p. p ∷ drop (i + 1) parts) (sym is))

-- what a part goes over, and the rest, is what was left of the base
pub part_fits : (parts : List Part) (i at n : ℕ) (part : Part) → i < length parts → part ≡ get_or parts i part
    → at + base (norm (drop i parts)) ≡ n
    → at + (part_base part + base (norm (drop (i + 1) parts))) ≡ n
part_fits parts i at n part within is fits =
    omega (arith, ap base (norm-drop parts i part within is), base-part_then part (norm (drop (i + 1) parts)))

-- one part further, the effect so far is that of the parts so far
pub part_applied : {X : Type 0} (new : ℕ → X) (parts : List Part) (items made : List X) (i at : ℕ) (part : Part)
    → i < length parts → part ≡ get_or parts i part
    → IsAppliedSoFar new parts items made i at → IsAppliedSoFar new parts items (made ++ piece_of new part (drop at items)) (i + 1) (at + part_base part)
part_applied new parts items made i at part within is so_far =
    let fits : at + (part_base part + base (norm (drop (i + 1) parts))) ≡ length items = part_fits parts i at (length items) part within is so_far.fits in
    let room : part_base part ≤ length (drop at items) = omega (arith, length-drop at items) in
    record {
      fits = omega arith;
      whole =
          append_assoc made (piece_of new part (drop at items)) _
          ∙ ap (λ rest. made ++ (piece_of new part (drop at items) ++ effect new (norm (drop (i + 1) parts)) rest)) (sym (drop-drop (part_base part) at items))
          ∙ ap (λ rest. made ++ rest) (sym (effect-part_then new part (norm (drop (i + 1) parts)) (drop at items) room))
          ∙ ap (λ c. made ++ effect new c (drop at items)) (sym (norm-drop parts i part within is))
          ∙ so_far.whole;
    }
