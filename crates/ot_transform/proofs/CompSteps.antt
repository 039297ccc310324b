-- What a run of one kind does to the composition.
use Rattle.std.proofs.Common.{◌≡◌, ℕ, zero, suc, ◌+◌, ◌-◌, ◌≤◌, List, [], ◌∷◌, ◌++◌, length, take, drop, refl, sym, ap, ◌∙◌, map-id, take-append-drop, arith}
use Rattle.ot_text.specs.Change.{Change, plain, effect_on, insert_then, retain_then, delete_then}
use Rattle.ot_text.proofs.Then.{insert_then-append, retain_then-add}
use Rattle.std.proofs.lemmas.List.{length-take-le}
use Rattle.ot_transform.specs.Composition.{comp_on, comp}

-- a text that the second operation puts in at the front
pub comp-second_text : (t : List ℕ) (a b : Change) → comp a (insert_then t b) ≡ insert_then t (comp a b)
comp-second_text t a b =
    let rest : Change = comp_on a.places (drop (length a.start) b.places) in
    insert_then-append t b.start (insert_then (effect_on plain b.places a.start) rest)

comp-text_kept : (s t : List ℕ) (a b : Change)
    → comp (insert_then (s ++ t) a) (retain_then (length s) b) ≡ insert_then s (comp (insert_then t a) b)
comp-text_kept [] t a b = refl
comp-text_kept (c ∷ s) t a b =
    let d : Change = retain_then (length s) b in
    let left : List ℕ = effect_on plain d.places ((s ++ t) ++ a.start) in
    let c' : Change = comp_on a.places (drop (length ((s ++ t) ++ a.start)) d.places) in
    ap (λ u. insert_then (c ∷ (u ++ left)) c') (map-id d.start)
    ∙ insert_then-append (c ∷ d.start) left c'
    ∙ ap (insert_then (c ∷ [])) (comp-text_kept s t a b)

comp-text_gone : (s t : List ℕ) (a b : Change)
    → comp (insert_then (s ++ t) a) (delete_then (length s) b) ≡ comp (insert_then t a) b
comp-text_gone [] t a b = refl
comp-text_gone (c ∷ s) t a b = comp-text_gone s t a b

comp-keeps_place : (n : ℕ) (a b : Change) → comp (retain_then n a) (retain_then n b) ≡ retain_then n (comp a b)
comp-keeps_place zero a b = refl
comp-keeps_place (suc n) a b = ap (retain_then 1) (comp-keeps_place n a b)

comp-gone : (n : ℕ) (a b : Change) → comp (retain_then n a) (delete_then n b) ≡ delete_then n (comp a b)
comp-gone zero a b = refl
comp-gone (suc n) a b = ap (delete_then 1) (comp-gone n a b)

-- places that the first operation removes at the front
pub comp-removed : (k : ℕ) (a b : Change) → comp (delete_then k a) b ≡ delete_then k (comp a b)
comp-removed zero a b = refl
comp-removed (suc k) a b = ap (delete_then 1) (comp-removed k a b)

split_places : (n k : ℕ) (a : Change) → n ≤ k → retain_then k a ≡ retain_then n (retain_then (k - n) a)
split_places n k a within =
    let e : k ≡ n + (k - n) = omega arith in
    ap (λ m. retain_then m a) e ∙ retain_then-add n (k - n) a

-- the first n characters of a text of the first operation, which the second keeps
pub comp-characters_kept : (n : ℕ) (t : List ℕ) (a b : Change) → n ≤ length t
    → comp (insert_then t a) (retain_then n b) ≡ insert_then (take n t) (comp (insert_then (drop n t) a) b)
comp-characters_kept n t a b within =
    ap (λ s. comp (insert_then s a) (retain_then n b)) (sym (take-append-drop n t))
    ∙ ap (λ k. comp (insert_then (take n t ++ drop n t) a) (retain_then k b)) (sym (length-take-le n t within))
    ∙ comp-text_kept (take n t) (drop n t) a b

-- the first n characters of a text of the first operation, which the second removes
pub comp-characters_gone : (n : ℕ) (t : List ℕ) (a b : Change) → n ≤ length t
    → comp (insert_then t a) (delete_then n b) ≡ comp (insert_then (drop n t) a) b
comp-characters_gone n t a b within =
    ap (λ s. comp (insert_then s a) (delete_then n b)) (sym (take-append-drop n t))
    ∙ ap (λ k. comp (insert_then (take n t ++ drop n t) a) (delete_then k b)) (sym (length-take-le n t within))
    ∙ comp-text_gone (take n t) (drop n t) a b

-- the first n of k places that the first operation keeps, which the second keeps
pub comp-places_kept : (n k : ℕ) (a b : Change) → n ≤ k
    → comp (retain_then k a) (retain_then n b) ≡ retain_then n (comp (retain_then (k - n) a) b)
comp-places_kept n k a b within =
    ap (λ x. comp x (retain_then n b)) (split_places n k a within) ∙ comp-keeps_place n (retain_then (k - n) a) b

-- the first n of k places that the first operation keeps, which the second removes
pub comp-places_gone : (n k : ℕ) (a b : Change) → n ≤ k
    → comp (retain_then k a) (delete_then n b) ≡ delete_then n (comp (retain_then (k - n) a) b)
comp-places_gone n k a b within =
    ap (λ x. comp x (delete_then n b)) (split_places n k a within) ∙ comp-gone n (retain_then (k - n) a) b
