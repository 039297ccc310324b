-- The performer of a number, and one that is changed.
use Rattle.std.proofs.Common.{◌≡◌, ◌≢◌, ℕ, Bool, true, false, if◌then◌else◌, Option, None, Some, List, [], ◌∷◌, map, refl, sym, ap, ◌∙◌, subst, option_map}
use Rattle.std.specs.Prelude.{◌==◌, All}
use Rattle.std.proofs.lemmas.List.Elements.{All-nil, All-cons, All-head, All-tail}
use Rattle.log_model.proofs.Lists.{true_equal, equal_true}
use Rattle.world_core.specs.States.{PerformerState, performer_with, with_performer}

-- the number of a performer
abbrev pub own_of : PerformerState → ℕ
own_of p = p.staged.own

-- a change that leaves a performer's number
abbrev pub KeepsOwn : (PerformerState → PerformerState) → Type 0
KeepsOwn f = (p : PerformerState) → own_of (f p) ≡ own_of p

-- the numbers stay
pub numbers_kept : (who : ℕ) (f : PerformerState → PerformerState) (ps : List PerformerState) → KeepsOwn f → map own_of (with_performer who f ps) ≡ map own_of ps
numbers_kept who f [] keeps = refl
numbers_kept who f (p ∷ ps) keeps = by_test (own_of p == who) (numbers_kept who f ps keeps)
  where
    by_test : (b : Bool) → map own_of (with_performer who f ps) ≡ map own_of ps → map own_of (if b then f p ∷ ps else p ∷ with_performer who f ps) ≡ map own_of (p ∷ ps)
    by_test true rest = ap (λ n. n ∷ map own_of ps) (keeps p)
    by_test false rest = ap (λ l. own_of p ∷ l) rest

-- what each performer keeps through the change, each of them keeps
pub all_changed : (P : PerformerState → Type 0) (who : ℕ) (f : PerformerState → PerformerState) (ps : List PerformerState) → ((p : PerformerState) → P p → P (f p)) → All P ps → All P (with_performer who f ps)
all_changed P who f [] keeps all = all
all_changed P who f (p ∷ ps) keeps all = by_test (own_of p == who) (all_changed P who f ps keeps (All-tail P p ps all))
  where
    by_test : (b : Bool) → All P (with_performer who f ps) → All P (if b then f p ∷ ps else p ∷ with_performer who f ps)
    by_test true rest = All-cons P (f p) ps (keeps p (All-head P p ps all)) (All-tail P p ps all)
    by_test false rest = All-cons P p (with_performer who f ps) (All-head P p ps all) rest

-- what holds of each performer holds of the one of a number
pub found_keeps : (P : PerformerState → Type 0) (who : ℕ) (ps : List PerformerState) (p : PerformerState) → All P ps → performer_with who ps ≡ Some p → P p
found_keeps P who [] p all is = absurd (cc)
found_keeps P who (q ∷ ps) p all is = by_test (own_of q == who) refl (λ e. found_keeps P who ps p (All-tail P q ps all) e)
  where
    by_test : (b : Bool) → (own_of q == who) ≡ b → (performer_with who ps ≡ Some p → P p) → P p
    by_test true here later =
        let same : Some q ≡ Some p = sym (ap (λ b. if b then Some q else performer_with who ps) here) ∙ is in
        let one : q ≡ p = cc in
        subst P one (All-head P q ps all)
    by_test false here later = later (sym (ap (λ b. if b then Some q else performer_with who ps) here) ∙ is)

-- the changed performer is the one of its number
pub changed_found : (who : ℕ) (f : PerformerState → PerformerState) (ps : List PerformerState) → KeepsOwn f → performer_with who (with_performer who f ps) ≡ option_map f (performer_with who ps)
changed_found who f [] keeps = refl
changed_found who f (p ∷ ps) keeps = by_test (own_of p == who) refl (changed_found who f ps keeps)
  where
    by_test : (b : Bool) → (own_of p == who) ≡ b → performer_with who (with_performer who f ps) ≡ option_map f (performer_with who ps)
        → performer_with who (if own_of p == who then f p ∷ ps else p ∷ with_performer who f ps) ≡ option_map f (if own_of p == who then Some p else performer_with who ps)
    by_test true here rest =
        let still : (own_of (f p) == who) ≡ true = ap (λ n. n == who) (keeps p) ∙ here in
        rw (here, still) refl
    by_test false here rest = rw (here, here) rest

-- and any other performer is what it was
pub changed_other : (who j : ℕ) (f : PerformerState → PerformerState) (ps : List PerformerState) → KeepsOwn f → j ≢ who → performer_with j (with_performer who f ps) ≡ performer_with j ps
changed_other who j f [] keeps other = refl
changed_other who j f (p ∷ ps) keeps other = by_test (own_of p == who) refl (changed_other who j f ps keeps other)
  where
    not_j : own_of p ≡ who → (own_of p == j) ≡ false
    not_j is = by_eq (own_of p == j) refl
      where
        by_eq : (b : Bool) → (own_of p == j) ≡ b → b ≡ false
        by_eq true same = absurd (other (sym (true_equal (own_of p) j same) ∙ is))
        by_eq false same = refl

    by_test : (b : Bool) → (own_of p == who) ≡ b → performer_with j (with_performer who f ps) ≡ performer_with j ps
        → performer_with j (if own_of p == who then f p ∷ ps else p ∷ with_performer who f ps) ≡ performer_with j (p ∷ ps)
    by_test true here rest =
        let no : (own_of p == j) ≡ false = not_j (true_equal (own_of p) who here) in
        let still : (own_of (f p) == j) ≡ false = ap (λ n. n == j) (keeps p) ∙ no in
        rw (here, still, no) refl
    by_test false here rest = rw here (ap (λ o. if own_of p == j then Some p else o) rest)

-- the first performer is the one of its number
pub here_is : (who : ℕ) (p : PerformerState) (ps : List PerformerState) → own_of p ≡ who → performer_with who (p ∷ ps) ≡ Some p
here_is who p ps is = ap (λ b. if b then Some p else performer_with who ps) (equal_true (own_of p) who is)

differ_false : (m n : ℕ) → (m ≡ n → ⊥) → (m == n) ≡ false
differ_false m n other = by_test (m == n) refl
  where
    by_test : (b : Bool) → (m == n) ≡ b → b ≡ false
    by_test true e = absurd (other (true_equal m n e))
    by_test false e = refl

-- and else it is passed over
pub passed_over : (who : ℕ) (p : PerformerState) (ps : List PerformerState) → (own_of p ≡ who → ⊥) → performer_with who (p ∷ ps) ≡ performer_with who ps
passed_over who p ps other = ap (λ b. if b then Some p else performer_with who ps) (differ_false (own_of p) who other)

-- three performers with these numbers: what holds of the one of each number holds of each
pub all_three : (P : PerformerState → Type 0) (ps : List PerformerState) → map own_of ps ≡ 1 ∷ 2 ∷ 3 ∷ []
    → ((p : PerformerState) → performer_with 1 ps ≡ Some p → P p) → ((p : PerformerState) → performer_with 2 ps ≡ Some p → P p) → ((p : PerformerState) → performer_with 3 ps ≡ Some p → P p) → All P ps
all_three P [] is one two three = absurd (cc)
all_three P (p ∷ []) is one two three = absurd (cc)
all_three P (p ∷ q ∷ []) is one two three = absurd (cc)
all_three P (p ∷ q ∷ r ∷ s ∷ ps) is one two three = absurd (cc)
all_three P (p ∷ q ∷ r ∷ []) is one two three =
    let first : own_of p ≡ 1 = cc in
    let second : own_of q ≡ 2 = cc in
    let third : own_of r ≡ 3 = cc in
    All-cons P p (q ∷ r ∷ []) (one p (rw first refl))
    (All-cons P q (r ∷ []) (two q (rw (first, second) refl))
    (All-cons P r [] (three r (rw (first, second, third) refl)) (All-nil P)))
