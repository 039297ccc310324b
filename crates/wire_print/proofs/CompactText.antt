-- The text of sound data is UTF-8, and the text of any data is one line.
use Rattle.std.proofs.Common.{◌≡◌, ℕ, ◌+◌, ◌<◌, pos, negsuc, List, [], ◌∷◌, ◌++◌, Bool, true, false, IsUtf8, refl, arith, zero, suc, ◌&&◌, decimal, inl, inr, ap, ◌∙◌}
use Rattle.std.proofs.lemmas.Fmt.{IsAscii-decimal, IsAscii-signed}
use Rattle.std.proofs.lemmas.Str.{IsUtf8-append, IsUtf8-from_ascii}
use Rattle.json.proofs.Printed.Utf8.{IsUtf8-are_ascii, IsUtf8-quoted, IsUtf8-boolean}
use Rattle.serde_json.specs.Data.{Data, null, boolean, number, unsigned, negative, float, string, array, object, Items, no_items, item, Members, no_members, member}
use Rattle.serde_json.specs.Written.{comma_if, compact_text, items_text, members_text}
use Rattle.wire_print.proofs.IsSound.{IsSound, ItemsAreSound, MembersAreSound}
use Rattle.std.specs.Prelude.{◌==◌, not, ◌/◌, ◌%◌, if◌then◌else◌}
use Rattle.std.specs.Fmt.{digit_glyph, digits_onto, digits}
use Rattle.std.proofs.lemmas.Bool.{and_parts, cases_lt, cases_eq, ne_eqb, lt-ltb}
use Rattle.std.proofs.lemmas.List.Folds.{list_any-append}
use Rattle.json.specs.Print.{escape_byte, escape, quoted}
use Rattle.json.proofs.Printed.Strings.{escape_byte_plain}
use Rattle.wire_print.specs.Printed.{has_line_feed}

one : (x : ℕ) (xs : List ℕ) → IsUtf8 (x ∷ []) → IsUtf8 xs → IsUtf8 (x ∷ xs)
one x xs first rest = IsUtf8-append (x ∷ []) xs first rest

IsUtf8-comma_if : (later : Bool) → IsUtf8 (comma_if later)
IsUtf8-comma_if true = IsUtf8-are_ascii _ refl
IsUtf8-comma_if false = IsUtf8-are_ascii _ refl

mutual
  -- the text of sound data is UTF-8
  pub IsUtf8-compact : (d : Data) → IsSound d → IsUtf8 (compact_text d)
  IsUtf8-compact null h = IsUtf8-are_ascii _ refl
  IsUtf8-compact (boolean b) h = IsUtf8-boolean b
  IsUtf8-compact (number (unsigned n)) h = IsUtf8-from_ascii _ (IsAscii-decimal n h)
  IsUtf8-compact (number (negative (pos n))) h = absurd h
  IsUtf8-compact (number (negative (negsuc n))) h = IsUtf8-from_ascii _ (IsAscii-signed (negsuc n) h)
  IsUtf8-compact (number (float x)) h = absurd h
  IsUtf8-compact (string s) h = IsUtf8-quoted s h
  IsUtf8-compact (array ds) h = one 91 _ (IsUtf8-are_ascii _ refl) (IsUtf8-items false ds h)
  IsUtf8-compact (object ms) h = one 123 _ (IsUtf8-are_ascii _ refl) (IsUtf8-members false ms h.1)

  IsUtf8-items : (later : Bool) (ds : Items) → ItemsAreSound ds → IsUtf8 (items_text later ds)
  IsUtf8-items later no_items h = IsUtf8-are_ascii _ refl
  IsUtf8-items later (item d ds) h = IsUtf8-append _ _ (IsUtf8-comma_if later) (IsUtf8-append _ _ (IsUtf8-compact d h.0) (IsUtf8-items true ds h.1))

  IsUtf8-members : (later : Bool) (ms : Members) → MembersAreSound ms → IsUtf8 (members_text later ms)
  IsUtf8-members later no_members h = IsUtf8-are_ascii _ refl
  IsUtf8-members later (member k d ms) h =
      IsUtf8-append _ _ (IsUtf8-comma_if later) (IsUtf8-append _ _ (IsUtf8-quoted k h.0) (one 58 _ (IsUtf8-are_ascii _ refl) (IsUtf8-append _ _ (IsUtf8-compact d h.1) (IsUtf8-members true ms h.2))))

-- ---- No line feed.

none_append : (xs ys : List ℕ) → has_line_feed xs ≡ false → has_line_feed ys ≡ false → has_line_feed (xs ++ ys) ≡ false
none_append xs ys none none' = list_any-append (λ b. b == 10) xs ys ∙ rw (none, none')

abbrev escapes_below : ℕ → Bool
escapes_below zero = true
escapes_below (suc n) = not (has_line_feed (escape_byte n)) && escapes_below n

not_false : (b : Bool) → not b ≡ true → b ≡ false
not_false true h = absurd cc
not_false false h = refl

escape_below : (n : ℕ) → escapes_below n ≡ true → (x : ℕ) → x < n → has_line_feed (escape_byte x) ≡ false
escape_below zero e x h = absurd (omega arith)
escape_below (suc n) e x h =
    let p = and_parts _ _ e in
    elim (cases_eq x n) [ inl same ↦ rw same (not_false _ p.0) | inr other ↦ escape_below n p.1 x (omega arith) ]

all_small : escapes_below 128 ≡ true
unfolding escape_byte
all_small = refl

escape_one : (x : ℕ) → has_line_feed (escape_byte x) ≡ false
escape_one x = elim (cases_lt x 128) [
  | inl small ↦ escape_below 128 all_small x small
  | inr big ↦ ap has_line_feed (escape_byte_plain x (λ e. omega arith) (λ e. omega arith) (omega arith)) ∙ rw (ne_eqb x 10 (λ e. omega arith)) refl
]

escape_none : (s : List ℕ) → has_line_feed (escape s) ≡ false
escape_none [] = refl
escape_none (x ∷ s) = none_append (escape_byte x) (escape s) (escape_one x) (escape_none s)

quoted_none : (s : List ℕ) → has_line_feed (quoted s) ≡ false
quoted_none s = none_append (escape s) (34 ∷ []) (escape_none s) refl

glyph_none : (d : ℕ) (ds : List ℕ) → d < 10 → has_line_feed ds ≡ false → has_line_feed (digit_glyph false d ∷ ds) ≡ false
glyph_none d ds small none = rw (lt-ltb d 10 small, ne_eqb (48 + d) 10 (λ e. omega (arith, e))) none

digits_none : (k n : ℕ) (ds : List ℕ) → has_line_feed ds ≡ false → has_line_feed (digits_onto k 10 false n ds) ≡ false
digits_none zero n ds none = none
digits_none (suc k) n ds none =
    let more = glyph_none (n % 10) ds (omega arith) none in
    either (n / 10 == 0) _ _ more (digits_none k (n / 10) _ more)
  where
    either : (b : Bool) (xs ys : List ℕ) → has_line_feed xs ≡ false → has_line_feed ys ≡ false → has_line_feed (if b then xs else ys) ≡ false
    either true xs ys p q = p
    either false xs ys p q = q

decimal_none : (n : ℕ) → has_line_feed (decimal n) ≡ false
unfolding digits
decimal_none n = digits_none 64 n [] refl

comma_none : (later : Bool) → has_line_feed (comma_if later) ≡ false
comma_none true = refl
comma_none false = refl

mutual
  -- no text of data has a line feed
  pub compact_none : (d : Data) → has_line_feed (compact_text d) ≡ false
  compact_none null = refl
  compact_none (boolean true) = refl
  compact_none (boolean false) = refl
  compact_none (number (unsigned n)) = decimal_none n
  compact_none (number (negative (pos n))) = decimal_none n
  compact_none (number (negative (negsuc n))) = decimal_none (suc n)
  compact_none (number (float x)) = refl
  compact_none (string s) = quoted_none s
  compact_none (array ds) = items_none false ds
  compact_none (object ms) = members_none false ms

  items_none : (later : Bool) (ds : Items) → has_line_feed (items_text later ds) ≡ false
  items_none later no_items = refl
  items_none later (item d ds) = none_append (comma_if later) _ (comma_none later) (none_append (compact_text d) _ (compact_none d) (items_none true ds))

  members_none : (later : Bool) (ms : Members) → has_line_feed (members_text later ms) ≡ false
  members_none later no_members = refl
  members_none later (member k d ms) =
      none_append (comma_if later) _ (comma_none later) (none_append (quoted k) _ (quoted_none k) (none_append (compact_text d) _ (compact_none d) (members_none true ms)))
