-- The composition has the effect of the two operations in a row, and both ways round are one operation.
use Rattle.std.proofs.Common.{◌≡◌, ℕ, suc, Some, List, [], ◌∷◌, ◌++◌, length, drop, map, refl, sym, ap, ◌∙◌, append_assoc, map-id, length-drop, arith}
use Rattle.std.proofs.lemmas.List.{map-append}
use Rattle.ot_text.specs.Change.{Fate, Gone, Kept, Change, base, target, fates_target, plain, effect_on, effect, New, places_from, image, item_element, insert_then}
use Rattle.ot_text.proofs.EffectOf.{effect-insert_then, length-effect}
use Rattle.ot_text.proofs.ItemElement.{effect_by_image}
use Rattle.ot_text.proofs.Image.{change_from_image}
use Rattle.ot_transform.specs.Composition.{comp_on, comp}
use Rattle.ot_transform.specs.Transform.{left, right}
use Rattle.ot_transform.proofs.EachGap.{length-places_from}
use Rattle.ot_transform.proofs.Merge.{effect-left, effect-right, base-left, base-right}

effect_on-nil : {X : Type 0} (new : ℕ → X) (gs : List Fate) → effect_on new gs [] ≡ []
effect_on-nil new [] = refl
effect_on-nil new (g ∷ gs) = refl

-- what fates make of a new text and of the rest behind it
effect_on-text : {X : Type 0} (new : ℕ → X) (gs : List Fate) (t : List ℕ) (m : List X)
    → effect_on new gs (map new t ++ m) ≡ map new (effect_on plain gs t) ++ effect_on new (drop (length t) gs) m
effect_on-text new gs [] m = ap (λ s. map new s ++ effect_on new gs m) (sym (effect_on-nil plain gs))
effect_on-text new [] (c ∷ t) m = refl
effect_on-text new (Gone ∷ gs) (c ∷ t) m = effect_on-text new gs t m
effect_on-text new (Kept u ∷ gs) (c ∷ t) m =
    ap (λ rest. new c ∷ rest)
    (ap (λ rest. map new u ++ rest) (effect_on-text new gs t m)
    ∙ sym (append_assoc (map new u) (map new (effect_on plain gs t)) (effect_on new (drop (length t) gs) m))
    ∙ ap (λ s. s ++ effect_on new (drop (length t) gs) m)
    (sym (map-append new u (effect_on plain gs t)) ∙ ap (λ s. map new (s ++ effect_on plain gs t)) (sym (map-id u))))

-- the same, with c behind the text
text_then : {X : Type 0} (new : ℕ → X) (gs : List Fate) (t : List ℕ) (c : Change) (m rest : List X)
    → effect new c m ≡ effect_on new (drop (length t) gs) rest
    → effect new (insert_then (effect_on plain gs t) c) m ≡ effect_on new gs (map new t ++ rest)
text_then new gs t c m rest e =
    effect-insert_then new (effect_on plain gs t) c m
    ∙ ap (λ more. map new (effect_on plain gs t) ++ more) e
    ∙ sym (effect_on-text new gs t rest)

effect-comp_on : {X : Type 0} (new : ℕ → X) (fs gs : List Fate) (m : List X) → length fs ≡ length m
    → effect new (comp_on fs gs) m ≡ effect_on new gs (effect_on new fs m)
effect-comp_on new [] gs [] p = sym (effect_on-nil new gs)
effect-comp_on new [] gs (x ∷ m) p = absurd (omega arith)
effect-comp_on new (f ∷ fs) gs [] p = absurd (omega arith)
effect-comp_on new (Gone ∷ fs) gs (x ∷ m) p = effect-comp_on new fs gs m (omega arith)
effect-comp_on new (Kept t ∷ fs) [] (x ∷ m) p = refl
effect-comp_on new (Kept t ∷ fs) (Gone ∷ gs) (x ∷ m) p =
    let gs' : List Fate = drop (length t) gs in
    text_then new gs t (comp_on fs gs') m (effect_on new fs m) (effect-comp_on new fs gs' m (omega arith))
effect-comp_on new (Kept t ∷ fs) (Kept u ∷ gs) (x ∷ m) p =
    let gs' : List Fate = drop (length t) gs in
    ap (λ rest. x ∷ rest)
    (effect-insert_then new u (insert_then (effect_on plain gs t) (comp_on fs gs')) m
    ∙ ap (λ rest. map new u ++ rest)
    (text_then new gs t (comp_on fs gs') m (effect_on new fs m) (effect-comp_on new fs gs' m (omega arith))))

-- the composition has the effect of both operations in a row
pub effect-comp : {X : Type 0} (new : ℕ → X) (a b : Change) (m : List X) → base a ≡ length m
    → effect new (comp a b) m ≡ effect new b (effect new a m)
effect-comp new a b m p =
    let gs : List Fate = drop (length a.start) b.places in
    let c : Change = comp_on a.places gs in
    effect-insert_then new b.start (insert_then (effect_on plain b.places a.start) c) m
    ∙ ap (λ rest. map new b.start ++ rest)
    (text_then new b.places a.start c m (effect_on new a.places m) (effect-comp_on new a.places gs m p))

base-comp_on : (fs gs : List Fate) → fates_target fs ≡ length gs → base (comp_on fs gs) ≡ length fs
base-comp_on [] gs p = refl
base-comp_on (Gone ∷ fs) gs p = ap suc (base-comp_on fs gs p)
base-comp_on (Kept t ∷ fs) [] p = absurd (omega arith)
base-comp_on (Kept t ∷ fs) (Gone ∷ gs) p =
    ap suc (base-comp_on fs (drop (length t) gs) (omega (arith, length-drop (length t) gs)))
base-comp_on (Kept t ∷ fs) (Kept u ∷ gs) p =
    ap suc (base-comp_on fs (drop (length t) gs) (omega (arith, length-drop (length t) gs)))

-- the composition has the first one's base
pub base-comp : (a b : Change) → target a ≡ base b → base (comp a b) ≡ base a
base-comp a b p =
    base-comp_on a.places (drop (length a.start) b.places) (omega (arith, length-drop (length a.start) b.places))

-- what the composition leaves is what the second operation makes of what the first leaves
image-comp : (a b : Change) → target a ≡ base b → image (comp a b) ≡ effect New b (image a)
image-comp a b p =
    ap (λ n. effect New (comp a b) (places_from 0 n)) (base-comp a b p)
    ∙ effect-comp New a b (places_from 0 (base a)) (sym (length-places_from 0 (base a)))

-- the image of a composition is the second one's, filled from the first one's
pub image-comp-item_element : (a b : Change) → target a ≡ base b
    → map Some (image (comp a b)) ≡ map (item_element New (image a)) (image b)
image-comp-item_element a b p =
    let long : length (image a) ≡ target a = length-effect New a (places_from 0 (base a)) (length-places_from 0 (base a)) in
    ap (map Some) (image-comp a b p) ∙ sym (effect_by_image New b (image a) (sym p ∙ sym long))

-- both ways round two operations compose to one
pub comp-both_ways : (a b : Change) → base a ≡ base b → comp a (right b a) ≡ comp b (left a b)
comp-both_ways a b p =
    let fit_a : target a ≡ base (right b a) = sym (base-right a b p) in
    let fit_b : target b ≡ base (left a b) = sym (base-left a b p) in
    let la : base a ≡ length (places_from 0 (base a)) = sym (length-places_from 0 (base a)) in
    let lb : base b ≡ length (places_from 0 (base a)) = sym p ∙ la in
    change_from_image _ _
    (base-comp a (right b a) fit_a ∙ p ∙ sym (base-comp b (left a b) fit_b))
    (image-comp a (right b a) fit_a
    ∙ effect-right New New a b (places_from 0 (base a)) la lb
    ∙ sym (effect-left New New a b (places_from 0 (base a)) la lb)
    ∙ ap (λ n. effect New (left a b) (effect New b (places_from 0 n))) p
    ∙ sym (image-comp b (left a b) fit_b))
