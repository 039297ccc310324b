-- The lines are the pieces between line feeds, and what stands behind the last one.
use Rattle.std.proofs.Common.{◌≡◌, ℕ, false, List, [], ◌∷◌, ◌++◌, refl, ◌∙◌, ap, append_assoc}
use Rattle.std.specs.Prelude.{◌==◌}
use Rattle.std.specs.List.{list_any}
use Rattle.std.proofs.lemmas.Bool.{or_parts}
use Rattle.std.proofs.lemmas.List.Elements.{All-head, All-tail}
use Rattle.wire_lines.specs.Lines.{line_feed, onto_first_line, lines, HasNoFeed, with_feeds, last_line, LinesArePieces, onto_whole_line, whole_lines, WholeLinesArePieces}

-- what stands behind the last line feed is a line where it isn't empty
pub lines_of_last : (last : List ℕ) → HasNoFeed last → lines last ≡ last_line last
lines_of_last [] none = refl
lines_of_last (b ∷ []) none =
    let test = or_parts (b == line_feed) false none in rw test.0
lines_of_last (b ∷ c ∷ bytes) none =
    let test = or_parts (b == line_feed) (list_any (λ d. d == line_feed) (c ∷ bytes)) none in
    rw test.0 (ap (onto_first_line b) (lines_of_last (c ∷ bytes) test.1))

-- what stands in front of the first line feed is the first line
pub lines_of_piece : (piece rest : List ℕ) → HasNoFeed piece → lines (piece ++ line_feed ∷ rest) ≡ piece ∷ lines rest
lines_of_piece [] rest none = refl
lines_of_piece (b ∷ piece) rest none =
    let test = or_parts (b == line_feed) (list_any (λ d. d == line_feed) piece) none in
    rw test.0 (ap (onto_first_line b) (lines_of_piece piece rest test.1))

-- the law of lines
pub lines_are_pieces : LinesArePieces
lines_are_pieces [] last all none = lines_of_last last none
lines_are_pieces (piece ∷ pieces) last all none =
    ap lines (append_assoc piece (line_feed ∷ with_feeds pieces) last)
    ∙ lines_of_piece piece (with_feeds pieces ++ last) (All-head HasNoFeed piece pieces all)
    ∙ ap (λ ls. piece ∷ ls) (lines_are_pieces pieces last (All-tail HasNoFeed piece pieces all) none)

-- ---- The lines that end at a line feed.

-- without a line feed there is none
pub none_whole : (last : List ℕ) → HasNoFeed last → whole_lines last ≡ []
none_whole [] none = refl
none_whole (b ∷ bytes) none =
    let test = or_parts (b == line_feed) (list_any (λ d. d == line_feed) bytes) none in
    rw test.0 (ap (onto_whole_line b) (none_whole bytes test.1))

-- what stands in front of the first line feed is the first of them
pub whole_piece : (piece rest : List ℕ) → HasNoFeed piece → whole_lines (piece ++ line_feed ∷ rest) ≡ piece ∷ whole_lines rest
whole_piece [] rest none = refl
whole_piece (b ∷ piece) rest none =
    let test = or_parts (b == line_feed) (list_any (λ d. d == line_feed) piece) none in
    rw test.0 (ap (onto_whole_line b) (whole_piece piece rest test.1))

-- their law
pub whole_are_pieces : WholeLinesArePieces
whole_are_pieces [] last all none = none_whole last none
whole_are_pieces (piece ∷ pieces) last all none =
    ap whole_lines (append_assoc piece (line_feed ∷ with_feeds pieces) last)
    ∙ whole_piece piece (with_feeds pieces ++ last) (All-head HasNoFeed piece pieces all)
    ∙ ap (λ ls. piece ∷ ls) (whole_are_pieces pieces last (All-tail HasNoFeed piece pieces all) none)
