-- Lists of rows, and of numbers.
use Rattle.std.specs.Prelude.{◌≡◌, ◌⊎◌, ℕ, ◌==◌, if◌then◌else◌, List, [], ◌∷◌, ◌++◌}

-- the second list begins with the first
abbrev pub Begins : {A : Type 0} → List A → List A → Type 0
Begins xs ys = (others : List _) × (xs ++ others ≡ ys)

-- this holds of each element
abbrev pub AllOf : {A : Type 0} → (A → Type 0) → List A → Type 0
AllOf P [] = Unit {0}
AllOf P (x ∷ xs) = P x × AllOf P xs

-- the number is in the list
abbrev pub IsIn : ℕ → List ℕ → Type 0
IsIn k [] = ⊥
IsIn k (x ∷ xs) = (x ≡ k) ⊎ IsIn k xs

-- the rows that carry this number
abbrev pub rows_of : {R : Type 0} → (R → ℕ) → ℕ → List R → List R
rows_of number k [] = []
rows_of number k (r ∷ rs) = if number r == k then r ∷ rows_of number k rs else rows_of number k rs
