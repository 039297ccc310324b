-- A text in UTF-8 has the lines of the text: no byte of a character past ASCII is a line feed, a blank, a colon or a brace.
use Rattle.std.proofs.Common.{◌≡◌, ℕ, ◌+◌, ◌<◌, ◌≤◌, ◌/◌, ◌%◌, List, [], ◌∷◌, ◌++◌, map, Bool, true, false, ◌||◌, ◌&&◌, ◌==◌, nat_lt, ◌⊎◌, refl, sym, ◌∙◌, ap, arith, inl, inr}
use Rattle.std.specs.Prelude.{if◌then◌else◌}
use Rattle.std.specs.List.{list_any, list_all}
use Rattle.std.specs.Char.{encode_utf8}
use Rattle.std.specs.Str.{encode_utf8_all}
use Rattle.std.proofs.lemmas.Bool.{cases_lt}
use Rattle.std.proofs.lemmas.Grind.{common_steps}
use Rattle.std.proofs.lemmas.Str.{encode_ascii, encodes-append}
use Rattle.troop_entry.specs.declared.call.Lang.TheVariants as lang
use Rattle.lang_wrap.specs.Wraps.{is_blank_byte, behind_blanks, ends_with_brace, begins_with_brace, opens, closes, pieces, has_brace_line, plain_form, braced_form, wrap}
use Rattle.lang_wrap.specs.Commands.{has_feed, IsOneLine}
use Rattle.lang_wrap.proofs.CommandEnd.{first_no, rest_no}

AreHigh : List ℕ → Type 0
AreHigh [] = Unit {0}
AreHigh (b ∷ bs) = (128 ≤ b) × AreHigh bs

-- the bytes of a character past ASCII
record IsHigh (c : ℕ) : Type 0 where
  high : 128 ≤ c
  first : ℕ
  later : List ℕ
  bytes_are : encode_utf8 c ≡ first ∷ later
  first_is : 128 ≤ first
  later_are : AreHigh later

not_below : (c low : ℕ) → low ≤ c → nat_lt c low ≡ false
not_below c low h = grind (arith, common_steps)

is_below : (c high : ℕ) → c < high → nat_lt c high ≡ true
is_below c high h = grind (arith, common_steps)

two : (c : ℕ) → 128 ≤ c → c < 2048 → encode_utf8 c ≡ (192 + c / 64) ∷ (128 + c % 64) ∷ []
unfolding encode_utf8
two c high low = rw (not_below c 128 high, is_below c 2048 low) refl

three : (c : ℕ) → 2048 ≤ c → c < 65536 → encode_utf8 c ≡ (224 + c / 4096) ∷ (128 + (c / 64) % 64) ∷ (128 + c % 64) ∷ []
unfolding encode_utf8
three c high low = rw (not_below c 128 (omega arith), not_below c 2048 high, is_below c 65536 low) refl

four : (c : ℕ) → 65536 ≤ c → encode_utf8 c ≡ (240 + c / 262144) ∷ (128 + (c / 4096) % 64) ∷ (128 + (c / 64) % 64) ∷ (128 + c % 64) ∷ []
unfolding encode_utf8
four c high = rw (not_below c 128 (omega arith), not_below c 2048 (omega arith), not_below c 65536 high) refl

past_ascii : (c : ℕ) → 128 ≤ c → IsHigh c
unfolding AreHigh
past_ascii c high = elim (cases_lt c 2048) [
  | inl low ↦ record { high = high; first = 192 + c / 64; later = (128 + c % 64) ∷ []; bytes_are = two c high low; first_is = omega arith; later_are = (omega arith, tt) }
  | inr more ↦ elim (cases_lt c 65536) [
    | inl low ↦ record {
      high = high;
      first = 224 + c / 4096;
      later = (128 + (c / 64) % 64) ∷ (128 + c % 64) ∷ [];
      bytes_are = three c more low;
      first_is = omega arith;
      later_are = (omega arith, (omega arith, tt));
    }
    | inr most ↦ record {
      high = high;
      first = 240 + c / 262144;
      later = (128 + (c / 4096) % 64) ∷ (128 + (c / 64) % 64) ∷ (128 + c % 64) ∷ [];
      bytes_are = four c most;
      first_is = omega arith;
      later_are = (omega arith, (omega arith, (omega arith, tt)));
    }
  ]
]

-- a character's bytes are itself, or all past ASCII
encoded : (c : ℕ) → ((c < 128) × (encode_utf8 c ≡ c ∷ [])) ⊎ IsHigh c
encoded c = elim (cases_lt c 128) [ inl low ↦ inl (low, encode_ascii c low) | inr high ↦ inr (past_ascii c high) ]

not_low : (b low : ℕ) → 128 ≤ b → low < 128 → (b == low) ≡ false
not_low b low high h = grind (arith, common_steps)

not_blank : (b : ℕ) → 128 ≤ b → is_blank_byte b ≡ false
not_blank b high = rw (not_low b 32 high (omega arith), not_low b 9 high (omega arith)) refl

-- ## Single lines

all_blank : (cs : List ℕ) → list_all is_blank_byte (encode_utf8_all cs) ≡ list_all is_blank_byte cs
all_blank [] = refl
all_blank (c ∷ cs) = elim (encoded c) [
  | inl low ↦ rw low.1 (ap (λ b. is_blank_byte c && b) (all_blank cs))
  | inr past ↦ rw (past.bytes_are, not_blank past.first past.first_is, not_blank c past.high) refl
]

ends_same : (brace : ℕ) (cs : List ℕ) → brace < 128 → ends_with_brace brace (encode_utf8_all cs) ≡ ends_with_brace brace cs
ends_same brace [] h = refl
ends_same brace (c ∷ cs) h = elim (encoded c) [
  | inl low ↦ rw low.1 (ap (λ b. (c == brace) && b) (all_blank cs))
  | inr past ↦ rw (past.bytes_are, not_low past.first brace past.first_is h, not_low c brace past.high h) refl
]

begins_same : (brace : ℕ) (cs : List ℕ) → brace < 128 → begins_with_brace brace (encode_utf8_all cs) ≡ begins_with_brace brace cs
begins_same brace [] h = refl
begins_same brace (c ∷ cs) h = elim (encoded c) [
  | inl low ↦ rw low.1 (ap (λ b. (c == 58) && b) (ends_same brace cs h))
  | inr past ↦ rw (past.bytes_are, not_low past.first 58 past.first_is (omega arith), not_low c 58 past.high (omega arith)) refl
]

low_behind : (c : ℕ) (cs : List ℕ) (blank : Bool) → encode_utf8 c ≡ c ∷ [] → behind_blanks (encode_utf8_all cs) ≡ encode_utf8_all (behind_blanks cs)
    → (if blank then behind_blanks (encode_utf8_all cs) else c ∷ encode_utf8_all cs) ≡ encode_utf8_all (if blank then behind_blanks cs else c ∷ cs)
low_behind c cs true same later = later
low_behind c cs false same later = ap (λ bs. bs ++ encode_utf8_all cs) (sym same)

behind_same : (cs : List ℕ) → behind_blanks (encode_utf8_all cs) ≡ encode_utf8_all (behind_blanks cs)
behind_same [] = refl
behind_same (c ∷ cs) = elim (encoded c) [
  | inl low ↦ ap (λ bs. behind_blanks (bs ++ encode_utf8_all cs)) low.1 ∙ low_behind c cs (is_blank_byte c) low.1 (behind_same cs)
  | inr past ↦ rw (not_blank c past.high, past.bytes_are, not_blank past.first past.first_is) refl
]

marked_same : (brace : ℕ) (line : List ℕ) → brace < 128 → begins_with_brace brace (behind_blanks (encode_utf8_all line)) ≡ begins_with_brace brace (behind_blanks line)
marked_same brace line h = ap (begins_with_brace brace) (behind_same line) ∙ begins_same brace (behind_blanks line) h

brace_same : (line : List ℕ) → (opens (encode_utf8_all line) || closes (encode_utf8_all line)) ≡ (opens line || closes line)
brace_same line = rw (marked_same 123 line (omega arith), marked_same 125 line (omega arith)) refl

-- ## The lines of a text

feed_append : (xs ys : List ℕ) → has_feed xs ≡ false → has_feed (xs ++ ys) ≡ has_feed ys
feed_append [] ys none = refl
feed_append (x ∷ xs) ys none = rw (first_no (x == 10) (has_feed xs) none) (feed_append xs ys (rest_no (x == 10) (has_feed xs) none))

high_no_feed : (bs : List ℕ) → AreHigh bs → has_feed bs ≡ false
unfolding AreHigh
high_no_feed [] high = refl
high_no_feed (b ∷ bs) high = rw (not_low b 10 high.0 (omega arith)) (high_no_feed bs high.1)

-- but for a line feed no character's bytes have one
no_feed : (c : ℕ) → (c == 10) ≡ false → has_feed (encode_utf8 c) ≡ false
no_feed c other = elim (encoded c) [
  | inl low ↦ rw (low.1, other) refl
  | inr past ↦ rw (past.bytes_are, not_low past.first 10 past.first_is (omega arith)) (high_no_feed past.later past.later_are)
]

feed_at : (c : ℕ) (cs : List ℕ) (feed : Bool) → (c == 10) ≡ feed → has_feed (encode_utf8_all cs) ≡ has_feed cs → has_feed (encode_utf8_all (c ∷ cs)) ≡ has_feed (c ∷ cs)
feed_at c cs false other later = feed_append (encode_utf8 c) (encode_utf8_all cs) (no_feed c other) ∙ later ∙ ap (λ b. b || has_feed cs) (sym other)
feed_at c cs true feed later =
    let is : c ≡ 10 = grind (arith, common_steps) in
    rw (is, encode_ascii 10 (omega arith)) refl

-- a text in UTF-8 has a line feed exactly where the text has one
pub feed_same : (cs : List ℕ) → has_feed (encode_utf8_all cs) ≡ has_feed cs
feed_same [] = refl
feed_same (c ∷ cs) = feed_at c cs (c == 10) refl (feed_same cs)

record HasPieces (cs : List ℕ) : Type 0 where
  piece : List ℕ
  later : List (List ℕ)
  are : pieces cs ≡ piece ∷ later

pieces_behind : (c : ℕ) (cs : List ℕ) (feed : Bool) → (c == 10) ≡ feed → HasPieces cs → HasPieces (c ∷ cs)
pieces_behind c cs true feed some = record { piece = []; later = pieces cs; are = rw feed refl }
pieces_behind c cs false feed some = record { piece = c ∷ some.piece; later = some.later; are = rw (feed, some.are) refl }

pieces_some : (cs : List ℕ) → HasPieces cs
pieces_some [] = record { piece = []; later = []; are = refl }
pieces_some (c ∷ cs) = pieces_behind c cs (c == 10) refl (pieces_some cs)

-- bytes without a line feed stand in front of the first piece
front_piece : (bs rest piece : List ℕ) (later : List (List ℕ)) → has_feed bs ≡ false → pieces rest ≡ piece ∷ later → pieces (bs ++ rest) ≡ (bs ++ piece) ∷ later
front_piece [] rest piece later none are = are
front_piece (b ∷ bs) rest piece later none are =
    rw (first_no (b == 10) (has_feed bs) none, front_piece bs rest piece later (rest_no (b == 10) (has_feed bs) none) are) refl

pieces_at : (c : ℕ) (cs : List ℕ) (feed : Bool) → (c == 10) ≡ feed → pieces (encode_utf8_all cs) ≡ map encode_utf8_all (pieces cs)
    → pieces (encode_utf8_all (c ∷ cs)) ≡ map encode_utf8_all (pieces (c ∷ cs))
pieces_at c cs true feed later =
    let is : c ≡ 10 = grind (arith, common_steps) in
    rw (is, encode_ascii 10 (omega arith)) (ap (λ ps. [] ∷ ps) later)
pieces_at c cs false other later =
    let some : HasPieces cs = pieces_some cs in
    front_piece (encode_utf8 c) (encode_utf8_all cs) (encode_utf8_all some.piece) (map encode_utf8_all some.later) (no_feed c other) (later ∙ ap (map encode_utf8_all) some.are)
    ∙ ap (map encode_utf8_all) (sym (front_piece (c ∷ []) cs some.piece some.later (rw other refl) some.are))

pieces_same : (cs : List ℕ) → pieces (encode_utf8_all cs) ≡ map encode_utf8_all (pieces cs)
pieces_same [] = refl
pieces_same (c ∷ cs) = pieces_at c cs (c == 10) refl (pieces_same cs)

any_same : (ps : List (List ℕ)) → list_any (λ piece. opens piece || closes piece) (map encode_utf8_all ps) ≡ list_any (λ piece. opens piece || closes piece) ps
any_same [] = refl
any_same (p ∷ ps) = rw (brace_same p, any_same ps) refl

-- a text in UTF-8 has a line that opens or closes exactly where the text has one
pub brace_line_same : (cs : List ℕ) → has_brace_line (encode_utf8_all cs) ≡ has_brace_line cs
brace_line_same cs = ap (list_any (λ piece. opens piece || closes piece)) (pieces_same cs) ∙ any_same (pieces cs)

-- a text of one line is one line in UTF-8
pub one_line_encoded : (text : List ℕ) → IsOneLine text → IsOneLine (encode_utf8_all text)
one_line_encoded text one = elim one [
  | inl none ↦ inl (feed_same text ∙ none)
  | inr line ↦ inr (
    encode_utf8_all line.0,
    feed_same line.0 ∙ line.1,
    ap encode_utf8_all line.2 ∙ encodes-append line.0 (10 ∷ []) ∙ ap (λ bs. encode_utf8_all line.0 ++ (bs ++ [])) (encode_ascii 10 (omega arith)),
  )
]

-- ## The wrap, by the bytes of the text

-- a Ghci text of which some line opens or closes goes in the plain form
pub wrap_plain : (text bytes : List ℕ) → bytes ≡ encode_utf8_all text → has_brace_line bytes ≡ true → wrap lang.Ghci text ≡ plain_form bytes
unfolding wrap
wrap_plain text bytes are found = rw (sym (brace_line_same text) ∙ ap has_brace_line (sym are) ∙ found, are) refl

-- and any other in the braced form
pub wrap_braced : (text bytes : List ℕ) → bytes ≡ encode_utf8_all text → has_brace_line bytes ≡ false → wrap lang.Ghci text ≡ braced_form bytes
unfolding wrap
wrap_braced text bytes are none = rw (sym (brace_line_same text) ∙ ap has_brace_line (sym are) ∙ none, are) refl
