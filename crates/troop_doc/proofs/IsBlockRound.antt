-- The block round a place, and that there is no other.
use Rattle.std.proofs.Common.{◌≡◌, inl, inr, ℕ, ◌+◌, ◌-◌, ◌<◌, ◌≤◌, true, false, Some, None, List, [], ◌++◌, length, take, drop, refl, sym, ap, ◌∙◌, append_assoc, length-append, arith}
use Rattle.std.specs.Prelude.{nat_lt}
use Rattle.std.specs.List.{join_with_byte}
use Rattle.std.proofs.lemmas.Bool.{cases_Bool, cases_order, false≢true, le-ltb, ltb-false}
use Rattle.std.proofs.lemmas.List.{take_at, drop_at, get_or_append_left, get_or-append_right}
use Rattle.troop_doc.specs.declared.block.TheConstants.{LINE_FEED}
use Rattle.troop_doc.specs.Lines.{lines_of, line_at, line_of}
use Rattle.troop_doc.specs.Blocks.{is_blank, lines_round, block_round, IsBlockRound}
use Rattle.troop_doc.proofs.BlockRound.{block_in}
use Rattle.troop_doc.proofs.IsLargestRound.{lines_round-block}
use Rattle.troop_doc.proofs.LiesOn.{lies_on_line, lies_on_one, lies_within}

abbrev end_of : {text block : List ℕ} {place : ℕ} → IsBlockRound text place block → ℕ
end_of round = length round.above + length round.run

-- line k of three lists of lines, where it is one of the second list
line_between : (xs ys zs : List (List ℕ)) (k : ℕ) → length xs ≤ k → k < length xs + length ys
    → line_of (xs ++ ys ++ zs) k ≡ line_of ys (k - length xs)
line_between xs ys zs k from to =
    get_or_append_left (xs ++ ys) zs [] k (omega (arith, length-append xs ys))
    ∙ get_or-append_right xs ys (length xs) k [] refl from

inside : {text block : List ℕ} {place : ℕ} (round : IsBlockRound text place block) (k : ℕ)
    → length round.above ≤ k → k < end_of round → is_blank (line_of (lines_of text) k) ≡ false
inside round k from to =
    rw (round.are, line_between round.above round.run round.below k from to)
    (round.none_blank (k - length round.above) [] (omega arith))

above_it : {text block : List ℕ} {place : ℕ} (round : IsBlockRound text place block)
    → 0 < length round.above → is_blank (line_of (lines_of text) (length round.above - 1)) ≡ true
above_it round some =
    rw (
      round.are,
      get_or_append_left (round.above ++ round.run) round.below [] (length round.above - 1) (omega (arith, length-append round.above round.run)),
      get_or_append_left round.above round.run [] (length round.above - 1) (omega arith),
    )
    (round.blank_above some)

below_it : {text block : List ℕ} {place : ℕ} (round : IsBlockRound text place block)
    → end_of round < length (lines_of text) → is_blank (line_of (lines_of text) (end_of round)) ≡ true
below_it round some =
    let len : length (round.above ++ round.run) ≡ end_of round = length-append round.above round.run in
    let first : end_of round - length (round.above ++ round.run) ≡ 0 = omega (arith, len) in
    rw (
      round.are,
      get_or-append_right (round.above ++ round.run) round.below (length (round.above ++ round.run)) (end_of round) [] refl (omega (arith, len)),
      first,
    )
    (round.blank_below (omega (arith, some, ap length round.are, length-append (round.above ++ round.run) round.below, len)))

one_line : {text block other : List ℕ} {place : ℕ} (round : IsBlockRound text place block) (another : IsBlockRound text place other)
    → round.line ≡ another.line
one_line {text} {place = place} round another = lies_on_one text round.line place round.lies_on ∙ sym (lies_on_one text another.line place another.lies_on)

starts_no_later : {text block other : List ℕ} {place : ℕ} (round : IsBlockRound text place block) (another : IsBlockRound text place other)
    → length round.above < length another.above → ⊥
starts_no_later round another later =
    let k = length another.above - 1 in
    false≢true (sym (inside round k (omega arith) (omega (arith, another.from, round.to, one_line round another))) ∙ above_it another (omega arith))

ends_no_earlier : {text block other : List ℕ} {place : ℕ} (round : IsBlockRound text place block) (another : IsBlockRound text place other)
    → end_of another < end_of round → ⊥
ends_no_earlier {text} round another earlier =
    let k = end_of another in
    let within : end_of round ≤ length (lines_of text) =
    omega (arith, ap length round.are, length-append (round.above ++ round.run) round.below, length-append round.above round.run) in
    false≢true (sym (inside round k (omega (arith, round.from, another.to, one_line round another)) earlier) ∙ below_it another (omega arith))

same_number : (n m : ℕ) → (n < m → ⊥) → (m < n → ⊥) → n ≡ m
same_number n m no_less no_more = elim (cases_order n m) [
  | inl same ↦ same
  | inr (inl less) ↦ absurd (no_less less)
  | inr (inr more) ↦ absurd (no_more more)
]

run_is : {text block : List ℕ} {place : ℕ} (round : IsBlockRound text place block)
    → take (length round.run) (drop (length round.above) (lines_of text)) ≡ round.run
run_is round =
    ap (λ lines. take (length round.run) (drop (length round.above) lines)) (round.are ∙ append_assoc round.above round.run round.below)
    ∙ ap (take (length round.run)) (drop_at round.above (round.run ++ round.below) (length round.above) refl)
    ∙ take_at round.run round.below (length round.run) refl

-- no other block stands round the place
one_block : {text block other : List ℕ} {place : ℕ} → IsBlockRound text place block → IsBlockRound text place other → block ≡ other
one_block {text} round another =
    let starts : length round.above ≡ length another.above = same_number _ _ (starts_no_later round another) (starts_no_later another round) in
    let ends : end_of round ≡ end_of another = same_number _ _ (ends_no_earlier another round) (ends_no_earlier round another) in
    let long : length round.run ≡ length another.run = omega arith in
    let runs : round.run ≡ another.run =
    sym (run_is round) ∙ ap (λ n. take n (drop (length round.above) (lines_of text))) long
    ∙ ap (λ n. take (length another.run) (drop n (lines_of text))) starts ∙ run_is another in
    round.joined ∙ ap (join_with_byte LINE_FEED) runs ∙ sym another.joined

place_in_text : {text block : List ℕ} {place : ℕ} → IsBlockRound text place block → place ≤ length text
place_in_text {text} {place = place} round = lies_within text round.line place round.lies_on

block_round-some : (text : List ℕ) (place : ℕ) → place ≤ length text → is_blank (line_of (lines_of text) (line_at text place)) ≡ false
    → block_round text place ≡ Some (join_with_byte LINE_FEED (lines_round (line_at text place) (lines_of text)))
block_round-some text place within some =
    let in_text : nat_lt (length text) place ≡ false = le-ltb (length text) place within in
    ap (λ past. block_in past (line_at text place) (lines_of text)) in_text ∙ rw some refl

-- the block round a place is the text of the largest run of lines round it
pub some-is_block : (text block : List ℕ) (place : ℕ) → block_round text place ≡ Some block → IsBlockRound text place block
some-is_block text block place h =
    let n = line_at text place in
    let lines = lines_of text in
    elim (cases_Bool (nat_lt (length text) place)) [
      | inl past ↦ let none : None ≡ Some block = sym (ap (λ is. block_in is n lines) past) ∙ h in absurd cc
      | inr in_text ↦ elim (cases_Bool (is_blank (line_of lines n))) [
        | inl blank ↦
            let none : None ≡ Some block = sym (ap (λ is. block_in is n lines) in_text ∙ rw blank refl) ∙ h in absurd cc
        | inr some ↦
            let within : place ≤ length text = ltb-false (length text) place in_text in
            let are : Some (join_with_byte LINE_FEED (lines_round n lines)) ≡ Some block = sym (block_round-some text place within some) ∙ h in
            let is : join_with_byte LINE_FEED (lines_round n lines) ≡ block = cc in
            rw (← is) (lines_round-block text place (lies_on_line text place within) some)
      ]
    ]

-- the text of the largest run of lines round a place is the block round it
pub block-is_some : (text block : List ℕ) (place : ℕ) → IsBlockRound text place block → block_round text place ≡ Some block
block-is_some text block place round =
    let within = place_in_text round in
    let n_is = lies_on_one text round.line place round.lies_on in
    let some : is_blank (line_of (lines_of text) (line_at text place)) ≡ false =
    rw (← n_is) (inside round round.line round.from round.to) in
    block_round-some text place within some
    ∙ ap Some (one_block (lines_round-block text place (lies_on_line text place within) some) round)
