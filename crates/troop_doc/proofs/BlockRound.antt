-- How a block grows, line by line.
use Rattle.std.proofs.Common.{◌≡◌, ℕ, suc, ◌+◌, ◌-◌, ◌≤◌, Bool, true, false, not, cond, List, [], ◌∷◌, ◌++◌, length, refl, sym, ap, ◌∙◌, append_assoc, append-nil, length-append, arith}
use Rattle.std.specs.Prelude.{flat_map, Option, Some, None, if◌then◌else◌, ◌||◌, nat_lt}
use Rattle.std.specs.List.{before_first, after_last, suffix_len, prefix_len, position_or_len, join_with_byte}
use Rattle.std.proofs.lemmas.Bool.{le-ltb}
use Rattle.std.proofs.lemmas.Grind.{flat_map-append}
use Rattle.std.proofs.lemmas.List.{take_at, drop_at, get_or_at, drop-append-le, reverse-append, drop_all}
use Rattle.troop_doc.specs.declared.block.TheConstants.{LINE_FEED}
use Rattle.troop_doc.specs.Lines.{lines_of, line_at, line_of}
use Rattle.troop_doc.specs.Blocks.{is_blank, lines_round, block_round}
use Rattle.troop_doc.specs.BlockEnds.{lines_before, lines_behind, last_lines, first_lines}
use Rattle.troop_doc.proofs.LinesOf.{IsLineIn, lines_before-more, lines_behind-more, lines_of-round, line_at-round}

abbrev Lines : Type 0
Lines = List (List ℕ)

-- each line with its line feed, and each behind its line feed
abbrev ended : Lines → List ℕ
ended lines = flat_map (λ line. line ++ LINE_FEED ∷ []) lines

abbrev begun : Lines → List ℕ
begun lines = flat_map (λ line. LINE_FEED ∷ line) lines

joined : (line : List ℕ) (below : Lines) → join_with_byte LINE_FEED (line ∷ below) ≡ line ++ begun below
joined line [] = sym (append-nil line)
joined line (next ∷ below) = ap (λ rest. line ++ (LINE_FEED ∷ rest)) (joined next below)

-- one more line in front of those above
joined_more : (first rest above behind : List ℕ) → rest ≡ above ++ behind
    → first ++ (LINE_FEED ∷ rest) ≡ ((first ++ LINE_FEED ∷ []) ++ above) ++ behind
joined_more first rest above behind e =
    ap (λ r. first ++ (LINE_FEED ∷ r)) e
    ∙ sym (append_assoc (first ++ LINE_FEED ∷ []) above behind ∙ append_assoc first (LINE_FEED ∷ []) (above ++ behind))

joined_round : (above : Lines) (line : List ℕ) (below : Lines)
    → join_with_byte LINE_FEED (above ++ line ∷ below) ≡ ended above ++ (line ++ begun below)
joined_round [] line below = joined line below
joined_round (first ∷ []) line below = joined_more first _ [] (line ++ begun below) (joined line below)
joined_round (first ∷ next ∷ above) line below =
    joined_more first _ (ended (next ∷ above)) (line ++ begun below) (joined_round (next ∷ above) line below)

suffix_len-push : {X : Type 0} (p : X → Bool) (xs : List X) (x : X) → suffix_len p (xs ++ x ∷ []) ≡ cond (p x) (1 + suffix_len p xs) 0
suffix_len-push p xs x = ap (prefix_len p) (reverse-append xs (x ∷ []))

after_last-blank : (lines : Lines) (line : List ℕ) → is_blank line ≡ true → after_last is_blank (lines ++ line ∷ []) ≡ []
after_last-blank lines line blank =
    rw (suffix_len-push (λ x. not (is_blank x)) lines line, blank) (drop_all _ (lines ++ line ∷ []) (omega arith))

after_last-more : (lines : Lines) (line : List ℕ) → is_blank line ≡ false
    → after_last is_blank (lines ++ line ∷ []) ≡ after_last is_blank lines ++ line ∷ []
after_last-more lines line some =
    let s = suffix_len (λ x. not (is_blank x)) lines in
    let one_more : length (lines ++ line ∷ []) - (1 + s) ≡ length lines - s = omega (arith, length-append lines (line ∷ [])) in
    rw (suffix_len-push (λ x. not (is_blank x)) lines line, some, one_more) (drop-append-le (length lines - s) lines (line ∷ []) (omega arith))

before_first-blank : (line : List ℕ) (lines : Lines) → is_blank line ≡ true → before_first is_blank (line ∷ lines) ≡ []
before_first-blank line lines blank = rw blank refl

before_first-more : (line : List ℕ) (lines : Lines) → is_blank line ≡ false
    → before_first is_blank (line ∷ lines) ≡ line ∷ before_first is_blank lines
before_first-more line lines some =
    let one_more : 1 + position_or_len is_blank lines ≡ suc (position_or_len is_blank lines) = omega arith in
    rw (some, one_more) refl

-- behind a blank line no line above belongs to the block
pub last_lines-blank : (above line below : List ℕ) → IsLineIn above line below → is_blank line ≡ true
    → last_lines (above ++ (line ++ LINE_FEED ∷ [])) ≡ []
last_lines-blank above line below is blank =
    ap (λ lines. ended (after_last is_blank lines)) (lines_before-more above line below is)
    ∙ ap ended (after_last-blank (lines_before above) line blank)

-- a line that isn't blank joins those above
pub last_lines-more : (above line below : List ℕ) → IsLineIn above line below → is_blank line ≡ false
    → last_lines (above ++ (line ++ LINE_FEED ∷ [])) ≡ last_lines above ++ (line ++ LINE_FEED ∷ [])
last_lines-more above line below is some =
    ap (λ lines. ended (after_last is_blank lines)) (lines_before-more above line below is)
    ∙ ap ended (after_last-more (lines_before above) line some)
    ∙ flat_map-append (λ l. l ++ LINE_FEED ∷ []) (after_last is_blank (lines_before above)) (line ∷ [])
    ∙ ap (λ rest. last_lines above ++ rest) (append-nil (line ++ LINE_FEED ∷ []))

-- in front of a blank line no line below belongs to the block
pub first_lines-blank : (above line below : List ℕ) → IsLineIn above line below → is_blank line ≡ true
    → first_lines (LINE_FEED ∷ (line ++ below)) ≡ []
first_lines-blank above line below is blank =
    ap (λ lines. begun (before_first is_blank lines)) (lines_behind-more above line below is)
    ∙ ap begun (before_first-blank line (lines_behind below) blank)

-- a line that isn't blank joins those below
pub first_lines-more : (above line below : List ℕ) → IsLineIn above line below → is_blank line ≡ false
    → first_lines (LINE_FEED ∷ (line ++ below)) ≡ (LINE_FEED ∷ line) ++ first_lines below
first_lines-more above line below is some =
    ap (λ lines. begun (before_first is_blank lines)) (lines_behind-more above line below is)
    ∙ ap begun (before_first-more line (lines_behind below) some)

-- `block_round`, by the test of the place, the line's number and the lines
abbrev pub block_in : Bool → ℕ → Lines → Option (List ℕ)
block_in past n lines =
    if past || is_blank (line_of lines n) then None else Some (join_with_byte LINE_FEED (lines_round n lines))

block_in-line : (above : Lines) (line : List ℕ) (below : Lines) → is_blank line ≡ false
    → block_in false (length above) (above ++ line ∷ below)
    ≡ Some (ended (after_last is_blank above) ++ (line ++ begun (before_first is_blank below)))
block_in-line above line below some =
    let is = get_or_at above line below [] (length above) refl in
    rw (is, some, take_at above (line ∷ below) (length above) refl, drop_at above (line ∷ below) (length above) refl)
    (ap Some (ap (λ lines. join_with_byte LINE_FEED (after_last is_blank above ++ lines)) (before_first-more line below some)
    ∙ joined_round (after_last is_blank above) line (before_first is_blank below)))

block_in-blank : (above : Lines) (line : List ℕ) (below : Lines) → is_blank line ≡ true
    → block_in false (length above) (above ++ line ∷ below) ≡ None
block_in-blank above line below blank = rw (get_or_at above line below [] (length above) refl, blank) refl

block_round-in : (above line below : List ℕ) (k : ℕ) → IsLineIn above line below → k ≤ length line
    → block_round (above ++ (line ++ below)) (length above + k)
    ≡ block_in false (length (lines_before above)) (lines_before above ++ line ∷ lines_behind below)
block_round-in above line below k is within =
    let text = above ++ (line ++ below) in
    let in_text : nat_lt (length text) (length above + k) ≡ false =
    le-ltb (length text) (length above + k) (omega (arith, length-append above (line ++ below), length-append line below)) in
    ap (λ past. block_in past (line_at text (length above + k)) (lines_of text)) in_text
    ∙ ap (λ n. block_in false n (lines_of text)) (line_at-round above line below k is within)
    ∙ ap (block_in false (length (lines_before above))) (lines_of-round above line below is)

-- the block round a line that isn't blank, by what stands above and below it
pub block_round-line : (above line below : List ℕ) (k : ℕ) → IsLineIn above line below → k ≤ length line → is_blank line ≡ false
    → block_round (above ++ (line ++ below)) (length above + k) ≡ Some (last_lines above ++ (line ++ first_lines below))
block_round-line above line below k is within some =
    block_round-in above line below k is within ∙ block_in-line (lines_before above) line (lines_behind below) some

-- round a blank line there is no block
pub block_round-blank : (above line below : List ℕ) (k : ℕ) → IsLineIn above line below → k ≤ length line → is_blank line ≡ true
    → block_round (above ++ (line ++ below)) (length above + k) ≡ None
block_round-blank above line below k is within blank =
    block_round-in above line below k is within ∙ block_in-blank (lines_before above) line (lines_behind below) blank
