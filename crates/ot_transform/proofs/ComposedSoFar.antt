-- What holds between the runs of one part of the first operation, and between its parts.
use Rattle.std.proofs.Common.{◌≡◌, ℕ, ◌+◌, ◌-◌, ◌<◌, ◌≤◌, List, ◌∷◌, length, get_or, drop, sym, ap, ◌∙◌, arith}
use Rattle.std.proofs.lemmas.List.{drop_more, drop_all}
use Rattle.ot_text.specs.declared.part.Part.{Part}
use Rattle.ot_text.specs.declared.part.Part.TheVariants.{Retain, Insert, Delete}
use Rattle.ot_text.specs.declared.op.TheConstants.{MAX_LEN}
use Rattle.ot_text.specs.Change.{Change, base, target, nothing, insert_then, retain_then, then}
use Rattle.ot_text.specs.Parts.{norm, part_then, part_base, part_target, IsNormal}
use Rattle.ot_text.proofs.AppliedSoFar.{base-part_then}
use Rattle.ot_text.proofs.Then.{then-nothing, target-insert_then, target-retain_then, target-delete_then}
use Rattle.ot_transform.specs.declared.composite.Composer.{Composer}
use Rattle.ot_transform.specs.Composition.{comp}
use Rattle.ot_transform.specs.Progress.{unchanged, GoesOn, HasRoomFor}
use Rattle.ot_transform.specs.Rest.{HasNoTextFirst}
use Rattle.ot_transform.proofs.Shortened.{end_of_untexted}

-- of the characters, those from `at` on are still to come
pub record IsTextSoFar (chars : List ℕ) (at : ℕ) (old now : Composer) : Type 0 where
  pub within : at ≤ length chars
  pub goes_on : GoesOn 0 at (insert_then chars) (insert_then (drop at chars)) old now

-- of the k places, `left` are still to come
pub record ArePlacesSoFar (k left : ℕ) (old now : Composer) : Type 0 where
  pub within : left ≤ k
  pub goes_on : GoesOn (k - left) (k - left) (retain_then k) (retain_then left) old now

-- of the parts, those from i on are still to come
pub record IsComposedSoFar (parts : List Part) (i : ℕ) (a b : Change) (now : Composer) : Type 0 where
  pub fits : target (norm (drop i parts)) ≡ base (norm now.rest)
  pub whole : then now.made (comp (norm (drop i parts)) (norm now.rest)) ≡ comp a b
  pub over : base now.made + base (norm (drop i parts)) ≡ base a
  pub room : target now.made + target (norm now.rest) ≡ target b

target-part_then : (part : Part) (c : Change) → target (part_then part c) ≡ part_target part + target c
target-part_then (Retain k) c = target-retain_then k c
target-part_then (Insert t) c = target-insert_then t c
target-part_then (Delete k) c = target-delete_then k c ∙ omega arith

split : (parts : List Part) (i : ℕ) (part : Part) → i < length parts → part ≡ get_or parts i part
    → norm (drop i parts) ≡ part_then part (norm (drop (i + 1) parts))
split parts i part within is = ap norm (drop_more parts i part within ∙ ap (λ p. p ∷ drop (i + 1) parts) (sym is))

-- there is room for what the composition does over one part
pub part_room : (parts : List Part) (i : ℕ) (part : Part) (a b : Change) (now : Composer) → i < length parts
    → part ≡ get_or parts i part → base a ≤ MAX_LEN → target b ≤ MAX_LEN → IsComposedSoFar parts i a b now
    → HasRoomFor (part_base part) (part_target part) now
part_room parts i part a b now within is short_a short_b s =
    let e : norm (drop i parts) ≡ part_then part (norm (drop (i + 1) parts)) = split parts i part within is in
    record {
      of_base = omega (arith, ap base e, base-part_then part (norm (drop (i + 1) parts)), s.over);
      enough = omega (arith, ap target e, target-part_then part (norm (drop (i + 1) parts)), s.fits);
      of_target = omega (arith, s.room);
    }

-- one part further, what is made and what is to come are still the composition
pub part_composed : (parts : List Part) (i : ℕ) (part : Part) (a b : Change) (old new : Composer) → i < length parts
    → part ≡ get_or parts i part → IsComposedSoFar parts i a b old
    → GoesOn (part_base part) (part_target part) (part_then part) unchanged old new
    → IsComposedSoFar parts (i + 1) a b new
part_composed parts i part a b old new within is s g =
    let others : Change = norm (drop (i + 1) parts) in
    let e : norm (drop i parts) ≡ part_then part others = split parts i part within is in
    record {
      fits = omega (arith, ap target e, s.fits, target-part_then part others, g.used_up);
      whole = sym (g.whole others) ∙ ap (λ c. then old.made (comp c (norm old.rest))) (sym e) ∙ s.whole;
      over = omega (arith, ap base e, base-part_then part others, s.over, g.over_made);
      room = omega (arith, g.room, s.room);
    }

-- at the end what is made is the composition
pub composed_at_end : (parts : List Part) (i : ℕ) (a b : Change) (old new : Composer) → length parts ≤ i
    → IsComposedSoFar parts i a b old → GoesOn 0 0 unchanged unchanged old new → HasNoTextFirst new.rest → IsNormal new.rest
    → new.made ≡ comp a b
composed_at_end parts i a b old new past s g none normal =
    let e : norm (drop i parts) ≡ nothing = ap norm (drop_all i parts past) in
    let used : base (norm new.rest) ≡ 0 = omega (arith, g.used_up, s.fits, ap target e) in
    let at_end : norm new.rest ≡ nothing = end_of_untexted new.rest normal none used in
    sym (then-nothing new.made) ∙ ap (λ c. then new.made (comp nothing c)) (sym at_end)
    ∙ sym (g.whole nothing) ∙ ap (λ c. then old.made (comp c (norm old.rest))) (sym e) ∙ s.whole
