-- An element behind the first ones of a list.
use Rattle.std.proofs.Common.{◌≡◌, ℕ, zero, suc, ◌+◌, List, [], ◌∷◌, drop, slice_get, refl, ap, arith}

-- the element at an index behind the first b ones
pub get_drop : {A : Type 0} (xs : List A) (b i k : ℕ) → k ≡ b + i → slice_get (drop b xs) i ≡ slice_get xs k
get_drop xs zero i k e = let same : i ≡ k = omega arith in ap (slice_get xs) same
get_drop [] (suc b) i k e = refl
get_drop (x ∷ xs) (suc b) i zero e = absurd (omega arith)
get_drop (x ∷ xs) (suc b) i (suc k) e = get_drop xs b i k (omega arith)
