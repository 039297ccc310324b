-- The rows that carry a number.
use Rattle.std.proofs.Common.{◌≡◌, ◌≢◌, ℕ, eqb, eq-eqb, ne_eqb, cond, true, false, List, [], ◌∷◌, ◌++◌, refl, ap, ◌∙◌}
use Rattle.seat_lock.specs.Lists.{AllOf, rows_of}

module _ {R : Type 0} (number : R → ℕ) (k : ℕ) where
  -- of two lists, one behind the other
  pub rows_of-append : (xs ys : List R) → rows_of number k (xs ++ ys) ≡ rows_of number k xs ++ rows_of number k ys
  rows_of-append [] ys = refl
  rows_of-append (x ∷ xs) ys = elim (eqb (number x) k) as (λ b. cond b (x ∷ rows_of number k (xs ++ ys)) (rows_of number k (xs ++ ys)) ≡ cond b (x ∷ rows_of number k xs) (rows_of number k xs) ++ rows_of number k ys) [
    | true ↦ ap (λ l. x ∷ l) (rows_of-append xs ys)
    | false ↦ rows_of-append xs ys
  ]

  -- of a row with the number
  pub rows_of_one : (r : R) → number r ≡ k → rows_of number k (r ∷ []) ≡ r ∷ []
  rows_of_one r e = ap (λ b. cond b (r ∷ []) []) (eq-eqb (number r) k e)

  -- of a row with another number
  pub rows_of_other : (r : R) → number r ≢ k → rows_of number k (r ∷ []) ≡ []
  rows_of_other r e = ap (λ b. cond b (r ∷ []) []) (ne_eqb (number r) k e)

  -- of rows with other numbers
  pub rows_of_none : (rs : List R) → AllOf (λ r. number r ≢ k) rs → rows_of number k rs ≡ []
  rows_of_none [] p = refl
  rows_of_none (r ∷ rs) p = ap (λ b. cond b (r ∷ rows_of number k rs) (rows_of number k rs)) (ne_eqb (number r) k p.0) ∙ rows_of_none rs p.1
