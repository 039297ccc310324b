-- Texts with spare room.
use Rattle.std.specs.Prelude.{ℕ, List}

-- the characters of a text, and how many more there is room for without memory
pub record SpacedText : Type 0 where
  pub chars : List ℕ
  pub spare : ℕ
