-- Functions that are changed at one point, a list of views that is changed at one index, and numbers modulo 2 ^ 64.
use Rattle.std.proofs.Common.{◌≡◌, ◌≢◌, ◌⊎◌, ℕ, ◌+◌, ◌%◌, ◌^◌, ◌<◌, eqb, eq-eqb, ne_eqb, cond, Bool, true, false, List, [], ◌∷◌, ◌++◌, length, set, sym, refl, ap, ◌∙◌, subst, inl, inr, ⊎_elim, arith, zero, suc}
use mathlib.Core.Option.{some, some-injective, some-ne-none}
use lib.ListN.{get_elem?}
use Rattle.atomic_table.proofs.Lists.{at_set}

-- the function with another value at a point
abbrev pub updated : (ℕ → ℕ) → ℕ → ℕ → ℕ → ℕ
updated f k x n = cond (eqb n k) x (f n)

-- at that point
pub updated_here : (f : ℕ → ℕ) (k x n : ℕ) → n ≡ k → updated f k x n ≡ x
updated_here f k x n e = ap (λ b. cond b x (f n)) (eq-eqb n k e)

-- at another point
pub updated_else : (f : ℕ → ℕ) (k x n : ℕ) → n ≢ k → updated f k x n ≡ f n
updated_else f k x n e = ap (λ b. cond b x (f n)) (ne_eqb n k e)

-- a test that is not true is false
pub not_true : (b : Bool) → (b ≡ true → ⊥) → b ≡ false
not_true true n = absurd (n refl)
not_true false n = refl

-- no test is both
pub true_false : {A : Type 0} → (b : Bool) → b ≡ true → b ≡ false → A
true_false b t f = let e : true ≡ false = sym t ∙ f in absurd (cc)

-- a small number is its own
pub small_mod : (n : ℕ) → n < 2 ^ 64 → n % 2 ^ 64 ≡ n
small_mod n h = omega arith

-- the next number
pub next_mod : (n : ℕ) → (n % 2 ^ 64 + 1) % 2 ^ 64 ≡ (n + 1) % 2 ^ 64
next_mod n = omega arith

module _ {A : Type 0} where
  -- what stands in a list, or at its end
  pub at_end : (l : List A) (a b : A) (j : ℕ) → get_elem? (l ++ a ∷ []) j ≡ some b → (get_elem? l j ≡ some b) ⊎ ((j ≡ length l) × (a ≡ b))
  at_end [] a b zero e = inr (refl, some-injective a b e)
  at_end [] a b (suc j) e = absurd (some-ne-none b (sym e))
  at_end (x ∷ xs) a b zero e = inl e
  at_end (x ∷ xs) a b (suc j) e = ⊎_elim (λ t. inl t) (λ t. inr (ap suc t.0, t.1)) (at_end xs a b j e)

  -- what is known of each seat, after a change of one seat's view
  pub seats_stay : (K : ℕ → A → Type 0) (vs : List A) (me : ℕ) (w : A) → K me w → ((j : ℕ) (d : A) → j ≢ me → get_elem? vs j ≡ some d → K j d)
      → (j : ℕ) (d : A) → get_elem? (set vs me w) j ≡ some d → K j d
  seats_stay K vs me w mine others j d e = ⊎_elim (λ (t : (j ≡ me) × (w ≡ d)). subst (λ (x : ℕ × A). K x.0 x.1) (λ i. (sym t.0 i, t.1 i)) mine)
      (λ (t : (j ≢ me) × (get_elem? vs j ≡ some d)). others j d t.0 t.1) (at_set vs me j w d e)
