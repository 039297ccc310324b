-- The effect, by the image.
use Rattle.std.proofs.Common.{◌≡◌, ℕ, suc, Some, List, [], ◌∷◌, ◌++◌, length, map, slice_get, refl, sym, ap, ◌∙◌, append_assoc, append-nil, length-append, arith}
use Rattle.ot_text.specs.Change.{Change, base, effect, New, places_from, image, item_element}
use Rattle.ot_text.proofs.EffectOf.{map-effect}

-- the element behind the first of two lists
pub slice_get-at : {X : Type 0} (front : List X) (x : X) (m : List X) → slice_get (front ++ x ∷ m) (length front) ≡ Some x
slice_get-at [] x m = refl
slice_get-at (y ∷ front) x m = slice_get-at front x m

-- the places that these elements have, filled with the elements that stand there
pub fills : {X : Type 0} (new : ℕ → X) (front m behind : List X)
    → map (item_element new (front ++ (m ++ behind))) (places_from (length front) (length m)) ≡ map Some m
fills new front [] behind = refl
fills new front (x ∷ m) behind =
    let len : suc (length front) ≡ length (front ++ x ∷ []) = omega (arith, length-append front (x ∷ [])) in
    ap (λ here. here ∷ map (item_element new (front ++ x ∷ (m ++ behind))) (places_from (suc (length front)) (length m))) (slice_get-at front x (m ++ behind))
    ∙ ap (λ rest. Some x ∷ rest)
    (ap (λ ys. map (item_element new ys) (places_from (suc (length front)) (length m))) (sym (append_assoc front (x ∷ []) (m ++ behind)))
    ∙ ap (λ i. map (item_element new ((front ++ x ∷ []) ++ (m ++ behind))) (places_from i (length m))) len
    ∙ fills new (front ++ x ∷ []) m behind)

-- the effect is the image with its places filled
pub effect_by_image : {X : Type 0} (new : ℕ → X) (c : Change) (m : List X) → base c ≡ length m
    → map (item_element new m) (image c) ≡ map Some (effect new c m)
effect_by_image new c m fit =
    map-effect (item_element new m) New c (places_from 0 (base c))
    ∙ ap (λ n. effect (λ k. Some (new k)) c (map (item_element new m) (places_from 0 n))) fit
    ∙ ap (effect (λ k. Some (new k)) c) (ap (λ ys. map (item_element new ys) (places_from 0 (length m))) (sym (append-nil m)) ∙ fills new [] m [])
    ∙ sym (map-effect Some new c m)
