-- What holds of the rows that carry a number.
use Rattle.std.proofs.Common.{◌≡◌, ℕ, eq-eqb, Bool, true, false, if◌then◌else◌, List, [], ◌∷◌, ◌++◌, refl}
use Rattle.std.specs.Prelude.{◌==◌}
use Rattle.seat_lock.specs.Lists.{AllOf, rows_of}

module _ {A : Type 0} where
  -- what holds of both parts of a list
  pub all_parts : (P : A → Type 0) (xs ys : List A) → AllOf P (xs ++ ys) → AllOf P xs × AllOf P ys
  all_parts P [] ys h = (tt, h)
  all_parts P (x ∷ xs) ys h = let r = all_parts P xs ys h.1 in ((h.0, r.0), r.1)

  -- two things that hold of each
  pub all_both : (P Q : A → Type 0) (xs : List A) → AllOf P xs → AllOf Q xs → AllOf (λ x. P x × Q x) xs
  all_both P Q [] h k = tt
  all_both P Q (x ∷ xs) h k = ((h.0, k.0), all_both P Q xs h.1 k.1)

  -- where they exclude one another, there is none
  pub none_both : (P Q : A → Type 0) (xs : List A) → ((x : A) → P x → Q x → ⊥) → AllOf P xs → AllOf Q xs → xs ≡ []
  none_both P Q [] never h k = refl
  none_both P Q (x ∷ xs) never h k = absurd (never x h.0 k.0)

module _ {R : Type 0} (number : R → ℕ) (k : ℕ) where
  by_test : (P : R → Type 0) (r : R) (rs : List R) (b : Bool) → (number r == k) ≡ b → AllOf P (if b then r ∷ rows_of number k rs else rows_of number k rs)
      → (number r ≡ k → P r) × AllOf P (rows_of number k rs)
  by_test P r rs true e h = (λ _. h.0, h.1)
  by_test P r rs false e h = (λ same. let other : (number r == k) ≡ true = eq-eqb (number r) k same in absurd (cc), h)

  -- what holds of the rows with the number holds of each row that has it
  pub rows_all : (P : R → Type 0) (rs : List R) → AllOf P (rows_of number k rs) → AllOf (λ r. number r ≡ k → P r) rs
  rows_all P [] h = tt
  rows_all P (r ∷ rs) h = let t = by_test P r rs (number r == k) refl h in (t.0, rows_all P rs t.1)

  keeps_test : (P : R → Type 0) (r : R) (rs : List R) (b : Bool) → P r → AllOf P rs → AllOf P (if b then r ∷ rs else rs)
  keeps_test P r rs true p h = (p, h)
  keeps_test P r rs false p h = h

  -- what holds of each row holds of those with the number
  pub rows_keep : (P : R → Type 0) (rs : List R) → AllOf P rs → AllOf P (rows_of number k rs)
  rows_keep P [] h = tt
  rows_keep P (r ∷ rs) h = keeps_test P r (rows_of number k rs) (number r == k) h.0 (rows_keep P rs h.1)
