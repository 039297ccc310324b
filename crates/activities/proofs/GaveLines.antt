-- Lines that were given, one after the other.
use Rattle.std.proofs.Common.{◌≡◌, ℕ, List, [], ◌∷◌, ◌++◌, map, Option, None, Some, refl, sym, ap, ◌∙◌, subst, append_assoc, append-nil}
use Rattle.seat_lock.specs.Lists.{Begins}
use Rattle.troop_ports.specs.Bytes.{in_front}
use Rattle.wire_lines.specs.Lines.{lines}
use Rattle.activities.specs.Lines.{GaveLines, AreReadAs}

pub gave_none : (told : Option (List ℕ)) → GaveLines told [] told
gave_none None = refl
gave_none (Some bytes) = refl

gave_rest : (a b c : List ℕ) (xs ys : List (List ℕ)) → lines a ≡ xs ++ lines b → lines b ≡ ys ++ lines c → lines a ≡ (xs ++ ys) ++ lines c
gave_rest a b c xs ys h g = h ∙ ap (λ l. xs ++ l) g ∙ sym (append_assoc xs ys (lines c))

pub gave_more : (told mid left : Option (List ℕ)) (xs ys : List (List ℕ)) → GaveLines told xs mid → GaveLines mid ys left → GaveLines told (xs ++ ys) left
gave_more None None None xs ys h g = refl
gave_more None None (Some c) xs ys h g = absurd (cc)
gave_more None (Some b) left xs ys h g = absurd (cc)
gave_more (Some a) None left xs ys h g = absurd (cc)
gave_more (Some a) (Some b) None xs ys h g = absurd (cc)
gave_more (Some a) (Some b) (Some c) xs ys h g =
    let one : lines a ≡ xs ++ lines b = cc in
    let two : lines b ≡ ys ++ lines c = cc in
    ap Some (gave_rest a b c xs ys one two)

map-append : {A B : Type 0} (f : A → B) (xs ys : List A) → map f (xs ++ ys) ≡ map f xs ++ map f ys
map-append f [] ys = refl
map-append f (x ∷ xs) ys = ap (λ rest. f x ∷ rest) (map-append f xs ys)

pub mean_more : {T : Type 0} (read : List ℕ → Option T) (xs : List (List ℕ)) (vs : List T) (x : List ℕ) (v : T) → AreReadAs read xs vs → read x ≡ Some v
    → AreReadAs read (xs ++ x ∷ []) (vs ++ v ∷ [])
mean_more read xs vs x v h e =
    map-append read xs (x ∷ []) ∙ ap (λ l. l ++ read x ∷ []) h ∙ ap (λ o. map Some vs ++ o ∷ []) e ∙ sym (map-append Some vs (v ∷ []))

pub begins_on : {A : Type 0} (xs ys zs : List A) → Begins xs ys → Begins ys zs → Begins xs zs
begins_on xs ys zs h g = (h.0 ++ g.0, sym (append_assoc xs h.0 g.0) ∙ ap (λ l. l ++ g.0) h.1 ∙ g.1)

pub begins_same : {A : Type 0} (xs : List A) → Begins xs xs
begins_same xs = ([], append-nil xs)

pub gave_kept : (told left : Option (List ℕ)) → left ≡ told → GaveLines told [] left
gave_kept told left same = subst (λ (l : Option (List ℕ)). GaveLines told [] l) (sym same) (gave_none told)

-- a fresh reader holds nothing
pub fresh : (remaining : Option (List ℕ)) → in_front [] remaining ≡ remaining
fresh None = refl
fresh (Some bytes) = refl
