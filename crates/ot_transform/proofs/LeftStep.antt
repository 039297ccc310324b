-- What a step of the walk does to `left` and `right`.
use Rattle.std.proofs.Common.{◌≡◌, ℕ, zero, suc, List, [], ◌++◌, length, refl, sym, ap, ◌∙◌, length-append}
use Rattle.ot_text.specs.Change.{Change, nothing, insert_then, retain_then, delete_then, then}
use Rattle.ot_text.proofs.Then.{insert_then-append, retain_then-add, then-insert_then, then-retain_then, then-delete_then}
use Rattle.ot_text.proofs.IsNormal.{start-delete_then}
use Rattle.ot_transform.specs.declared.step.Step.{Step}
use Rattle.ot_transform.specs.declared.step.Step.TheVariants.{First, Second, Keep, FirstDeletes, SecondDeletes, BothDelete}
use Rattle.ot_transform.specs.Step.{left_step, right_step}
use Rattle.ot_transform.specs.Transform.{left_on, left, right_on, right}
use Rattle.ot_transform.specs.Walk.{Leads}

retain_more : (s t : List ℕ) (c : Change)
    → retain_then (length (s ++ t)) c ≡ retain_then (length s) (retain_then (length t) c)
retain_more s t c = ap (λ n. retain_then n c) (length-append s t) ∙ retain_then-add (length s) (length t) c

-- nothing is put in in front of places that are removed either
start_behind : (n : ℕ) (b c : Change) → c ≡ delete_then n b → c.start ≡ [] → b.start ≡ []
start_behind n b c e none = sym (start-delete_then n b) ∙ sym (ap (λ (x : Change). x.start) e) ∙ none

left-first : (t : List ℕ) (a b : Change) → left (insert_then t a) b ≡ insert_then t (left a b)
left-first t a b = insert_then-append t a.start (retain_then (length b.start) (left_on a.places b.places))

left-second : (t : List ℕ) (a b : Change) → a.start ≡ []
    → left a (insert_then t b) ≡ retain_then (length t) (left a b)
left-second t a b none =
    ap (λ s. insert_then s (retain_then (length (t ++ b.start)) (left_on a.places b.places))) none
    ∙ retain_more t b.start (left_on a.places b.places)
    ∙ ap (λ s. retain_then (length t) (insert_then s (retain_then (length b.start) (left_on a.places b.places)))) (sym none)

left-keep : (n : ℕ) (a b : Change) → left (retain_then n a) (retain_then n b) ≡ retain_then n (left a b)
left-keep zero a b = refl
left-keep (suc n) a b = ap (retain_then 1) (left-keep n a b)

left-first_deletes : (n : ℕ) (a b : Change) → left (delete_then n a) (retain_then n b) ≡ delete_then n (left a b)
left-first_deletes zero a b = refl
left-first_deletes (suc n) a b = ap (delete_then 1) (left-first_deletes n a b)

left-second_deletes : (n : ℕ) (a b : Change) → b.start ≡ [] → left (retain_then n a) (delete_then n b) ≡ left a b
left-second_deletes zero a b none = refl
left-second_deletes (suc n) a b none =
    let a' : Change = retain_then n a in
    let b' : Change = delete_then n b in
    let e : b'.start ≡ [] = start-delete_then n b ∙ none in
    ap (λ s. retain_then (length s) (insert_then a'.start (left_on a'.places b'.places))) e
    ∙ ap (λ s. insert_then a'.start (retain_then (length s) (left_on a'.places b'.places))) (sym e)
    ∙ left-second_deletes n a b none

left-both_delete : (n : ℕ) (a b : Change) → left (delete_then n a) (delete_then n b) ≡ left a b
left-both_delete zero a b = refl
left-both_delete (suc n) a b = left-both_delete n a b

right-first : (t : List ℕ) (a b : Change) → right b (insert_then t a) ≡ retain_then (length t) (right b a)
right-first t a b = retain_more t a.start (insert_then b.start (right_on b.places a.places))

right-second : (t : List ℕ) (a b : Change) → a.start ≡ [] → right (insert_then t b) a ≡ insert_then t (right b a)
right-second t a b none =
    ap (λ s. retain_then (length s) (insert_then (t ++ b.start) (right_on b.places a.places))) none
    ∙ insert_then-append t b.start (right_on b.places a.places)
    ∙ ap (λ s. insert_then t (retain_then (length s) (insert_then b.start (right_on b.places a.places)))) (sym none)

right-keep : (n : ℕ) (a b : Change) → right (retain_then n b) (retain_then n a) ≡ retain_then n (right b a)
right-keep zero a b = refl
right-keep (suc n) a b = ap (retain_then 1) (right-keep n a b)

right-first_deletes : (n : ℕ) (a b : Change) → right (retain_then n b) (delete_then n a) ≡ right b a
right-first_deletes zero a b = refl
right-first_deletes (suc n) a b = right-first_deletes n a b

right-second_deletes : (n : ℕ) (a b : Change) → b.start ≡ []
    → right (delete_then n b) (retain_then n a) ≡ delete_then n (right b a)
right-second_deletes zero a b none = refl
right-second_deletes (suc n) a b none =
    let a' : Change = retain_then n a in
    let b' : Change = delete_then n b in
    let e : b'.start ≡ [] = start-delete_then n b ∙ none in
    ap (λ s. insert_then s (delete_then 1 (retain_then (length a'.start) (right_on b'.places a'.places)))) e
    ∙ ap (λ s. delete_then 1 (retain_then (length a'.start) (insert_then s (right_on b'.places a'.places)))) (sym e)
    ∙ ap (delete_then 1) (right-second_deletes n a b none)

right-both_delete : (n : ℕ) (a b : Change) → right (delete_then n b) (delete_then n a) ≡ right b a
right-both_delete zero a b = refl
right-both_delete (suc n) a b = right-both_delete n a b

-- two operations, by what they were before the step
before : {X : Type 0} (f : Change → Change → X) (a b c d : Change) → a ≡ c → b ≡ d → f a b ≡ f c d
before f a b c d p q = ap (λ x. f x b) p ∙ ap (f c) q

-- what puts nothing in before the step puts nothing in behind it
start_kept : (a b : Change) → a ≡ b → a.start ≡ [] → b.start ≡ []
start_kept a b e none = sym (ap (λ (x : Change). x.start) e) ∙ none

-- a step does its share of `left`
pub left-step : (step : Step) (a b a' b' : Change) → Leads step a b a' b' → left a b ≡ then (left_step step) (left a' b')
left-step (First t) a b a' b' h =
    before left a b _ _ h.first h.second
    ∙ left-first t.now a' b'
    ∙ sym (then-insert_then t.now nothing (left a' b'))
left-step (Second t) a b a' b' h =
    before left a b _ _ h.first h.second
    ∙ left-second t.now a' b' (start_kept a a' h.first h.none_first)
    ∙ sym (then-retain_then (length t.now) nothing (left a' b'))
left-step (Keep n) a b a' b' h =
    before left a b _ _ h.first h.second
    ∙ left-keep n a' b'
    ∙ sym (then-retain_then n nothing (left a' b'))
left-step (FirstDeletes n) a b a' b' h =
    before left a b _ _ h.first h.second
    ∙ left-first_deletes n a' b'
    ∙ sym (then-delete_then n nothing (left a' b'))
left-step (SecondDeletes n) a b a' b' h =
    before left a b _ _ h.first h.second
    ∙ left-second_deletes n a' b' (start_behind n b' b h.second h.none_second)
left-step (BothDelete n) a b a' b' h =
    before left a b _ _ h.first h.second
    ∙ left-both_delete n a' b'

-- a step does its share of `right`
pub right-step : (step : Step) (a b a' b' : Change) → Leads step a b a' b' → right b a ≡ then (right_step step) (right b' a')
right-step (First t) a b a' b' h =
    before right b a _ _ h.second h.first
    ∙ right-first t.now a' b'
    ∙ sym (then-retain_then (length t.now) nothing (right b' a'))
right-step (Second t) a b a' b' h =
    before right b a _ _ h.second h.first
    ∙ right-second t.now a' b' (start_kept a a' h.first h.none_first)
    ∙ sym (then-insert_then t.now nothing (right b' a'))
right-step (Keep n) a b a' b' h =
    before right b a _ _ h.second h.first
    ∙ right-keep n a' b'
    ∙ sym (then-retain_then n nothing (right b' a'))
right-step (FirstDeletes n) a b a' b' h =
    before right b a _ _ h.second h.first
    ∙ right-first_deletes n a' b'
right-step (SecondDeletes n) a b a' b' h =
    before right b a _ _ h.second h.first
    ∙ right-second_deletes n a' b' (start_behind n b' b h.second h.none_second)
    ∙ sym (then-delete_then n nothing (right b' a'))
right-step (BothDelete n) a b a' b' h =
    before right b a _ _ h.second h.first
    ∙ right-both_delete n a' b'
