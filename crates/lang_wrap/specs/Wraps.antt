-- The wrap of a block. A line feed is the character 10, a colon 58, the braces are 123 and 125; each is one byte in UTF-8.
use Rattle.std.specs.Option.{option_map_or}
use Rattle.std.specs.Prelude.{ℕ, ◌-◌, length, slice_get, List, [], ◌∷◌, ◌++◌, Bool, false, ◌||◌, ◌&&◌, ◌==◌, if◌then◌else◌}
use Rattle.std.specs.List.{list_any, list_all, slice_split}
use Rattle.std.specs.Str.{encode_utf8_all}
use Rattle.troop_entry.specs.declared.call.Lang.{Lang}
use Rattle.troop_entry.specs.declared.call.Lang.TheVariants as lang

-- a space or a tab
abbrev pub is_blank_byte : ℕ → Bool
is_blank_byte b = (b == 32) || (b == 9)

-- what stands behind the blanks at the front of a line
abbrev pub behind_blanks : List ℕ → List ℕ
behind_blanks [] = []
behind_blanks (b ∷ bs) = if is_blank_byte b then behind_blanks bs else b ∷ bs

-- whether the bytes are this brace, and blanks alone behind it
abbrev pub ends_with_brace : ℕ → List ℕ → Bool
ends_with_brace brace [] = false
ends_with_brace brace (b ∷ bs) = (b == brace) && list_all is_blank_byte bs

-- whether the bytes are a colon and this brace, and blanks alone behind both
abbrev pub begins_with_brace : ℕ → List ℕ → Bool
begins_with_brace brace [] = false
begins_with_brace brace (b ∷ bs) = (b == 58) && ends_with_brace brace bs

-- whether a line opens: without its line feed it is `:{`, blanks at its ends ignored
abbrev pub opens : List ℕ → Bool
opens line = begins_with_brace 123 (behind_blanks line)

-- whether a line closes: without its line feed it is `:}`, blanks at its ends ignored
abbrev pub closes : List ℕ → Bool
closes line = begins_with_brace 125 (behind_blanks line)

-- the lines of a text, or of bytes: the pieces between line feeds, and what stands behind the last one
abbrev pub pieces : List ℕ → List (List ℕ)
pieces bytes = slice_split (λ b. b == 10) bytes

-- whether some line of a text, or of bytes, opens or closes
abbrev pub has_brace_line : List ℕ → Bool
has_brace_line bytes = list_any (λ piece. opens piece || closes piece) (pieces bytes)

-- whether the last byte is a line feed
abbrev pub ends_with_feed : List ℕ → Bool
ends_with_feed bytes = option_map_or (λ b. b == 10) (slice_get bytes (length bytes - 1)) false

-- the plain form: the bytes, and a line feed unless they end with one
abbrev pub plain_form : List ℕ → List ℕ
plain_form bytes = if ends_with_feed bytes then bytes else bytes ++ 10 ∷ []

-- the braced form: the bytes, with a line feed behind them, between a line `:{` and a line `:}`
abbrev pub braced_form : List ℕ → List ℕ
braced_form bytes = (58 ∷ 123 ∷ 10 ∷ []) ++ bytes ++ (10 ∷ 58 ∷ 125 ∷ 10 ∷ [])

-- the wrap of a text, of which it is given whether some line opens or closes, and the UTF-8: for Ghci the braced form, unless
-- one does, and else the plain form
abbrev pub wrap_bytes : Lang → Bool → List ℕ → List ℕ
wrap_bytes lang.Lines has_one bytes = plain_form bytes
wrap_bytes lang.Ghci has_one bytes = if has_one then plain_form bytes else braced_form bytes

-- the wrap of a block's text: the bytes that an interpreter of this language gets
unfoldable pub wrap : Lang → List ℕ → List ℕ
wrap lang text = wrap_bytes lang (has_brace_line text) (encode_utf8_all text)
