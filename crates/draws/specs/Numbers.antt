-- The generator: a linear congruential one, modulo 2^64.
use Rattle.std.specs.Prelude.{ℕ, ◌+◌, ◌*◌, ◌/◌, ◌%◌, ◌^◌}

-- the number held after a draw
unfoldable pub number_after_draw : ℕ → ℕ
number_after_draw number = (number * 6364136223846793005 + 1442695040888963407) % 2 ^ 64

-- what is drawn below n
unfoldable pub drawn_below : ℕ → ℕ → ℕ
drawn_below n number = number_after_draw number / 2 ^ 33 % n
