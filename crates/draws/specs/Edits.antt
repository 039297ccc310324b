-- Edits drawn for a text.
use Rattle.std.specs.Prelude.{ℕ, ◌+◌, ◌-◌, ◌==◌, ◌&&◌, nat_lt, Bool, List, [], ◌∷◌, slice_index, codes, if◌then◌else◌}
use Rattle.ot_text.specs.Change.{Change}
use Rattle.ot_text.specs.Parts.{norm}
use Rattle.ot_text.specs.declared.part.Part.TheVariants.{Retain, Insert, Delete}
use Rattle.draws.specs.Numbers.{number_after_draw, drawn_below}

-- the letters, of which the last are a space and a line feed
abbrev pub letters : List ℕ
letters = codes "abcdefghij \n"

-- the letter that is drawn
abbrev pub drawn_letter : ℕ → ℕ
drawn_letter number = slice_index letters (drawn_below 12 number)

-- of a text of n characters, the one at this place goes
abbrev pub without_one : ℕ → ℕ → Change
without_one place n = norm (Retain place ∷ Delete 1 ∷ Retain (n - place - 1) ∷ [])

-- in a text of n characters, this one is put in at this place
abbrev pub with_one : ℕ → ℕ → ℕ → Change
with_one place letter n = norm (Retain place ∷ Insert (letter ∷ []) ∷ Retain (n - place) ∷ [])

-- the place of the edit that is drawn first
abbrev pub drawn_place : ℕ → ℕ → ℕ
drawn_place n number = drawn_below (n + 1) number

-- whether the edit takes a character away: where 0 is drawn next, unless the place is the end
abbrev pub takes_away : ℕ → ℕ → Bool
takes_away n number = (drawn_below 3 (number_after_draw number) == 0) && nat_lt (drawn_place n number) n

-- the edit drawn for a text of n characters: a character goes, or the letter drawn last is put in
unfoldable pub drawn_edit : ℕ → ℕ → Change
drawn_edit n number =
    if takes_away n number then without_one (drawn_place n number) n
    else with_one (drawn_place n number) (drawn_letter (number_after_draw (number_after_draw number))) n

-- the number held after it: a letter is drawn only where one is put in
unfoldable pub number_after_edit : ℕ → ℕ → ℕ
number_after_edit n number =
    if takes_away n number then number_after_draw (number_after_draw number)
    else number_after_draw (number_after_draw (number_after_draw number))
