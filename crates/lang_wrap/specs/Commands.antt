-- The line grammar by which bytes are one command.
use Rattle.std.specs.Prelude.{◌≡◌, ◌⊎◌, ℕ, ◌+◌, List, [], ◌∷◌, ◌++◌, length, Bool, true, false, ◌==◌, Option, None, Some, option_map, if◌then◌else◌}
use Rattle.std.specs.List.{list_any}
use Rattle.troop_entry.specs.declared.call.Lang.{Lang}
use Rattle.troop_entry.specs.declared.call.Lang.TheVariants as lang
use Rattle.lang_wrap.specs.Wraps.{opens, closes}

-- whether a line feed is among the characters, or the bytes
abbrev pub has_feed : List ℕ → Bool
has_feed bytes = list_any (λ b. b == 10) bytes

-- these are lines, each written without its line feed
abbrev pub AreLines : List (List ℕ) → Type 0
AreLines [] = Unit {0}
AreLines (line ∷ lines) = (has_feed line ≡ false) × AreLines lines

-- the bytes of the lines, each with its line feed behind it
abbrev pub bytes_of_lines : List (List ℕ) → List ℕ
bytes_of_lines [] = []
bytes_of_lines (line ∷ lines) = line ++ 10 ∷ bytes_of_lines lines

-- the last line closes, and none before it
abbrev pub IsClosed : List (List ℕ) → Type 0
IsClosed [] = ⊥
IsClosed (line ∷ []) = closes line ≡ true
IsClosed (line ∷ next ∷ lines) = (closes line ≡ false) × IsClosed (next ∷ lines)

-- the lines are one command: one line, which for Ghci doesn't open; or for Ghci two or more lines, of which the first opens,
-- the last closes, and none between closes
abbrev pub AreCommand : Lang → List (List ℕ) → Type 0
AreCommand lang [] = ⊥
AreCommand lang.Lines (line ∷ []) = Unit {0}
AreCommand lang.Lines (line ∷ next ∷ lines) = ⊥
AreCommand lang.Ghci (line ∷ []) = opens line ≡ false
AreCommand lang.Ghci (line ∷ next ∷ lines) = (opens line ≡ true) × IsClosed (next ∷ lines)

-- the bytes are one command: those of lines that are one
pub record IsCommand (lang : Lang) (bytes : List ℕ) : Type 0 where
  pub lines : List (List ℕ)
  pub are_lines : AreLines lines
  pub bytes_are : bytes ≡ bytes_of_lines lines
  pub command : AreCommand lang lines

-- ## Where the first command ends

-- the lines of the bytes, where `front` is the beginning of the first one
abbrev pub lines_with_front : List ℕ → List ℕ → List (List ℕ)
lines_with_front front [] = []
lines_with_front front (b ∷ bytes) = if b == 10 then front ∷ lines_with_front [] bytes else lines_with_front (front ++ b ∷ []) bytes

-- the lines of the bytes, without what stands behind the last line feed
abbrev pub lines_in : List ℕ → List (List ℕ)
lines_in bytes = lines_with_front [] bytes

-- the number of bytes of these lines up to and with the first line that closes
abbrev pub closing_end : List (List ℕ) → Option ℕ
closing_end [] = None
closing_end (line ∷ lines) = if closes line then Some (length line + 1) else option_map (λ n. length line + 1 + n) (closing_end lines)

-- the number of bytes of the first command: the first line, or for Ghci, where that opens, up to and with the next line that
-- closes
abbrev pub command_end : Lang → List (List ℕ) → Option ℕ
command_end lang [] = None
command_end lang.Lines (line ∷ lines) = Some (length line + 1)
command_end lang.Ghci (line ∷ lines) = if opens line then option_map (λ n. length line + 1 + n) (closing_end lines) else Some (length line + 1)

-- ## What is wrapped to a command

-- the text, or the bytes, are one line, with or without its line feed
abbrev pub IsOneLine : List ℕ → Type 0
IsOneLine bytes = (has_feed bytes ≡ false) ⊎ ((line : List ℕ) × (has_feed line ≡ false) × (bytes ≡ line ++ 10 ∷ []))
