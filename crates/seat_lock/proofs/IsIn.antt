-- Numbers in lists.
use Rattle.std.proofs.Common.{◌≡◌, ◌≢◌, ◌⊎◌, ℕ, ◌<◌, ◌≤◌, eqb, eq-eqb, ne_eqb, cond, List, [], ◌∷◌, ◌++◌, length, sym, refl, ap, ◌∙◌, subst, inl, inr, ⊎_elim, arith, zero, suc}
use mathlib.Core.Logic.{dite}
use native.Mathlib.Decide.{ℕ_discrete}
use Rattle.seat_lock.specs.Lists.{IsIn}

-- a number is in a list that goes on
pub is_in_more : (k : ℕ) (xs ys : List ℕ) → IsIn k xs → IsIn k (xs ++ ys)
is_in_more k [] ys p = absurd p
is_in_more k (x ∷ xs) ys p = ⊎_elim (λ e. inl e) (λ t. inr (is_in_more k xs ys t)) p

-- the last number is in the list
pub is_in_last : (k : ℕ) (xs : List ℕ) → IsIn k (xs ++ k ∷ [])
is_in_last k [] = inl refl
is_in_last k (x ∷ xs) = inr (is_in_last k xs)

-- a number is in the list in front of the last, or is the last
pub is_in_snoc : (k y : ℕ) (xs : List ℕ) → IsIn k (xs ++ y ∷ []) → IsIn k xs ⊎ (y ≡ k)
is_in_snoc k y [] p = ⊎_elim (λ e. inr e) (λ t. absurd t) p
is_in_snoc k y (x ∷ xs) p = ⊎_elim (λ e. inl (inl e)) (λ t. ⊎_elim (λ i. inl (inr i)) (λ e. inr e) (is_in_snoc k y xs t)) p

-- the list without the first k
abbrev without : ℕ → List ℕ → List ℕ
without k [] = []
without k (x ∷ xs) = cond (eqb x k) xs (x ∷ without k xs)

length-without : (k : ℕ) (xs : List ℕ) → IsIn k xs → suc (length (without k xs)) ≡ length xs
length-without k [] i = absurd i
length-without k (x ∷ xs) i = dite (ℕ_discrete x k) (λ e. ap (λ b. suc (length (cond b xs (x ∷ without k xs)))) (eq-eqb x k e))
    (λ ne. ap (λ b. suc (length (cond b xs (x ∷ without k xs)))) (ne_eqb x k ne) ∙ ap suc (length-without k xs (⊎_elim (λ e. absurd (ne e)) (λ t. t) i)))

is_in_without : (j k : ℕ) (xs : List ℕ) → IsIn j xs → j ≢ k → IsIn j (without k xs)
is_in_without j k [] i apart = i
is_in_without j k (x ∷ xs) i apart = dite (ℕ_discrete x k) (λ e. subst (λ b. IsIn j (cond b xs (x ∷ without k xs))) (sym (eq-eqb x k e)) (⊎_elim (λ f. absurd (apart (sym f ∙ e))) (λ t. t) i))
    (λ ne. subst (λ b. IsIn j (cond b xs (x ∷ without k xs))) (sym (ne_eqb x k ne)) (⊎_elim (λ f. inl f) (λ t. inr (is_in_without j k xs t apart)) i))

-- a list that has each number below n has at least n elements
pub all_fit : (n : ℕ) (xs : List ℕ) → ((k : ℕ) → k < n → IsIn k xs) → n ≤ length xs
all_fit zero xs f = omega arith
all_fit (suc n) xs f = let e = length-without n xs (f n (omega arith)) in let h = all_fit n (without n xs) (λ k l. is_in_without k n xs (f k (omega arith)) (λ is. omega arith)) in omega arith
