-- A part of two lists, one behind the other.
use Rattle.std.proofs.Common.{◌≡◌, ℕ, ◌-◌, ◌≤◌, List, ◌++◌, length, min, arith}
use Rattle.std.proofs.lemmas.List.{same_lists, places}
use Rattle.std.specs.Prelude.{max, slice_range}

-- a range of two lists, one behind the other, is what each of them has of it
pub slice_of_two : (xs ys : List ℕ) (start end n : ℕ) → n ≡ length xs → start ≤ end → end ≤ length (xs ++ ys)
    → slice_range xs (min start n) (min end n) ++ slice_range ys (max start n - n) (max end n - n) ≡ slice_range (xs ++ ys) start end
slice_of_two xs ys start end n e h within = same_lists _ _ (grind (arith, places)) (λ k d l. grind (arith, places))
