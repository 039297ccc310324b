-- The first index at which a test passes.
use Rattle.std.proofs.Common.{◌≡◌, ℕ, zero, suc, ◌+◌, ◌≤◌, Bool, true, false, ◌||◌, cond, List, [], ◌∷◌, take, refl, sym, ap, ◌∙◌, subst, arith, Option, Some, None, slice_get}
use Rattle.std.specs.List.{list_any, position_from}

-- no such index is lower than this one
abbrev pub IsNotBelow : ℕ → Option ℕ → Type 0
IsNotBelow n None = Unit {0}
IsNotBelow n (Some at) = n ≤ at

module _ {A : Type 0} (p : A → Bool) where
  -- where no such index is lower, no element of the front passes
  pub none_in_front : (k n : ℕ) (xs : List A) → IsNotBelow (k + n) (position_from p k xs) → list_any p (take n xs) ≡ false
  none_in_front k zero xs h = refl
  none_in_front k (suc n) [] h = refl
  none_in_front k (suc n) (x ∷ xs) h = by (p x) refl h (none_in_front (k + 1) n xs)
    where
      by : (b : Bool) → p x ≡ b → IsNotBelow (k + suc n) (cond b (Some k) (position_from p (k + 1) xs)) → (IsNotBelow ((k + 1) + n) (position_from p (k + 1) xs) → list_any p (take n xs) ≡ false) → (p x || list_any p (take n xs)) ≡ false
      by true e g more = absurd (omega (arith, g))
      by false e g more =
          let same : k + suc n ≡ (k + 1) + n = omega arith in
          ap (λ b. b || list_any p (take n xs)) e ∙ more (subst (λ m. IsNotBelow m (position_from p (k + 1) xs)) same g)

  -- where there is none, no element passes
  pub none_at_all : (k : ℕ) (xs : List A) → position_from p k xs ≡ None → list_any p xs ≡ false
  none_at_all k [] e = refl
  none_at_all k (x ∷ xs) e = by (p x) refl e (none_at_all (k + 1) xs)
    where
      by : (b : Bool) → p x ≡ b → cond b (Some k) (position_from p (k + 1) xs) ≡ None → (position_from p (k + 1) xs ≡ None → list_any p xs ≡ false) → (p x || list_any p xs) ≡ false
      by true q g more = absurd (cc)
      by false q g more = ap (λ b. b || list_any p xs) q ∙ more g

  -- the element at the index passes
  pub passes_at : (k at : ℕ) (xs : List A) → position_from p k xs ≡ Some at → (i : ℕ) × (at ≡ k + i) × ((x : A) × (slice_get xs i ≡ Some x) × (p x ≡ true))
  passes_at k at [] e = absurd (cc)
  passes_at k at (x ∷ xs) e = by (p x) refl e (passes_at (k + 1) at xs)
    where
      by : (b : Bool) → p x ≡ b → cond b (Some k) (position_from p (k + 1) xs) ≡ Some at → (position_from p (k + 1) xs ≡ Some at → (i : ℕ) × (at ≡ (k + 1) + i) × ((y : A) × (slice_get xs i ≡ Some y) × (p y ≡ true)))
          → (i : ℕ) × (at ≡ k + i) × ((y : A) × (slice_get (x ∷ xs) i ≡ Some y) × (p y ≡ true))
      by true q g more = let same : k ≡ at = cc in (0, omega (arith, same), (x, refl, q))
      by false q g more = let r = more g in (suc r.0, (let s = r.1 in omega (arith, s)), r.2)

  -- where each such index is at or past this one, no element of the front passes
  pub none_before : (n : ℕ) (xs : List A) (o : Option ℕ) → o ≡ position_from p 0 xs → ((at : ℕ) → o ≡ Some at → n ≤ at) → list_any p (take n xs) ≡ false
  none_before n xs o is f =
      let same : 0 + n ≡ n = omega arith in
      none_in_front 0 n xs (subst (λ m. IsNotBelow m (position_from p 0 xs)) (sym same) (subst (IsNotBelow n) is (not_below o f)))
    where
      not_below : (o : Option ℕ) → ((at : ℕ) → o ≡ Some at → n ≤ at) → IsNotBelow n o
      not_below None f = tt
      not_below (Some at) f = f at refl
