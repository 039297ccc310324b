-- A text whose characters carry the numbers of those who put them in.
use Rattle.std.specs.Prelude.{ℕ, List}
use Rattle.ot_text.specs.Ready.{Room}

-- each character with its performer's number, and the room for what the next operation puts in without memory
pub record Document : Type 0 where
  pub pairs : List (ℕ × ℕ)
  pub ready : Room
