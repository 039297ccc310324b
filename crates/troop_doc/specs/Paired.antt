-- What a document keeps: characters and marks stand side by side.
use Rattle.std.specs.Prelude.{◌≡◌, ◌≤◌, length}
use Rattle.ot_text.specs.Ready.{Room, IsAsLarge}
use Rattle.gap_text.specs.SpacedText.{SpacedText}
use Rattle.author_marks.specs.Authorship.{Authorship}

-- each character has a mark, and text and marks have room for what may be put in
pub record ArePaired (characters : SpacedText) (authorship : Authorship) (ready : Room) : Type 0 where
  pub even : length characters.chars ≡ length authorship.marks
  pub chars_ready : ready.characters ≤ characters.spare
  pub marks_ready : IsAsLarge authorship.ready ready
