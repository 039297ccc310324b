-- The lines of bytes: the pieces between line feeds, and what stands behind the last one where that isn't empty.
use Rattle.std.specs.Prelude.{◌≡◌, ℕ, List, [], ◌∷◌, ◌++◌, ◌==◌, false, All, if◌then◌else◌}
use Rattle.std.specs.List.{list_any}

-- the byte that ends a line
abbrev pub line_feed : ℕ
line_feed = 10

-- the byte in front of the first line
abbrev pub onto_first_line : ℕ → List (List ℕ) → List (List ℕ)
onto_first_line b [] = (b ∷ []) ∷ []
onto_first_line b (line ∷ others) = (b ∷ line) ∷ others

-- the lines of bytes
abbrev pub lines : List ℕ → List (List ℕ)
lines [] = []
lines (b ∷ bytes) = if b == line_feed then [] ∷ lines bytes else onto_first_line b (lines bytes)

-- The same in the words of the rule, for the law that ties them.

-- no byte of the piece is a line feed
abbrev pub HasNoFeed : List ℕ → Type 0
HasNoFeed piece = list_any (λ b. b == line_feed) piece ≡ false

-- the pieces, with a line feed behind each
abbrev pub with_feeds : List (List ℕ) → List ℕ
with_feeds [] = []
with_feeds (piece ∷ pieces) = piece ++ line_feed ∷ with_feeds pieces

-- the piece behind the last line feed is a line where it isn't empty
abbrev pub last_line : List ℕ → List (List ℕ)
last_line [] = []
last_line (b ∷ bytes) = (b ∷ bytes) ∷ []

-- whatever the pieces between line feeds are, and the last one behind them, these are the lines
abbrev pub LinesArePieces : Type 0
LinesArePieces = (pieces : List (List ℕ)) (last : List ℕ) → All HasNoFeed pieces → HasNoFeed last → lines (with_feeds pieces ++ last) ≡ pieces ++ last_line last

-- ---- Lines that end at a line feed.

-- the byte in front of the first line, where there is one
abbrev pub onto_whole_line : ℕ → List (List ℕ) → List (List ℕ)
onto_whole_line b [] = []
onto_whole_line b (line ∷ others) = (b ∷ line) ∷ others

-- the lines that end at a line feed, without what stands behind the last one
abbrev pub whole_lines : List ℕ → List (List ℕ)
whole_lines [] = []
whole_lines (b ∷ bytes) = if b == line_feed then [] ∷ whole_lines bytes else onto_whole_line b (whole_lines bytes)

-- whatever the pieces between line feeds are, and the last one behind them, the pieces are the lines that end at one
abbrev pub WholeLinesArePieces : Type 0
WholeLinesArePieces = (pieces : List (List ℕ)) (last : List ℕ) → All HasNoFeed pieces → HasNoFeed last → whole_lines (with_feeds pieces ++ last) ≡ pieces
