-- Lines and where a command ends, line by line.
use Rattle.std.proofs.Common.{◌≡◌, ℕ, ◌+◌, ◌<◌, List, [], ◌∷◌, ◌++◌, length, take, drop, Bool, true, false, ◌||◌, ◌==◌, refl, sym, ◌∙◌, ap, arith, append_assoc, append-nil}
use Rattle.std.specs.Prelude.{Option, None, Some, option_map, if◌then◌else◌}
use Rattle.std.proofs.lemmas.Grind.{common_steps}
use Rattle.std.proofs.lemmas.List.{drop-drop}
use Rattle.troop_entry.specs.declared.call.Lang.{Lang}
use Rattle.troop_entry.specs.declared.call.Lang.TheVariants as lang
use Rattle.lang_wrap.specs.Wraps.{opens, closes}
use Rattle.lang_wrap.specs.Commands.{has_feed, lines_with_front, lines_in, closing_end, command_end}

-- where neither of two holds, the first does not
pub first_no : (p q : Bool) → (p || q) ≡ false → p ≡ false
first_no false q none = refl
first_no true q none = none

-- nor does the second
pub rest_no : (p q : Bool) → (p || q) ≡ false → q ≡ false
rest_no false q none = none
rest_no true q none = absurd (let e : true ≡ false = none in cc)

behind_line : (front line rest : List ℕ) → has_feed line ≡ false → lines_with_front front (line ++ 10 ∷ rest) ≡ (front ++ line) ∷ lines_in rest
behind_line front [] rest none = ap (λ l. l ∷ lines_in rest) (sym (append-nil front))
behind_line front (b ∷ line) rest none =
    rw (first_no (b == 10) (has_feed line) none)
    (behind_line (front ++ b ∷ []) line rest (rest_no (b == 10) (has_feed line) none)
    ∙ ap (λ l. l ∷ lines_in rest) (append_assoc front (b ∷ []) line))

-- a line in front of other bytes is the first of their lines
pub first_line : (line rest : List ℕ) → has_feed line ≡ false → lines_in (line ++ 10 ∷ rest) ≡ line ∷ lines_in rest
first_line line rest none = behind_line [] line rest none

behind_none : (front bytes : List ℕ) → has_feed bytes ≡ false → lines_with_front front bytes ≡ []
behind_none front [] none = refl
behind_none front (b ∷ bytes) none =
    rw (first_no (b == 10) (has_feed bytes) none) (behind_none (front ++ b ∷ []) bytes (rest_no (b == 10) (has_feed bytes) none))

-- bytes without a line feed have no line
pub no_line : (bytes : List ℕ) → has_feed bytes ≡ false → lines_in bytes ≡ []
no_line bytes none = behind_none [] bytes none

-- the lines from a place on, where the next line feed is known
pub lines_at : (bytes : List ℕ) (at : ℕ) → at < length bytes → has_feed (take at bytes) ≡ false → bytes ≡ take at bytes ++ 10 ∷ drop (at + 1) bytes
    → lines_in bytes ≡ take at bytes ∷ lines_in (drop (at + 1) bytes)
lines_at bytes at within none is = ap lines_in is ∙ first_line (take at bytes) (drop (at + 1) bytes) none

-- a line that ends at this place is so long
pub length_line : (bytes : List ℕ) (at : ℕ) → at < length bytes → length (take at bytes) ≡ at
length_line bytes at within = grind (arith, common_steps)

-- the first line behind this place that closes
pub close_here : (bytes : List ℕ) (at count : ℕ) → count < length (drop at bytes) → has_feed (take count (drop at bytes)) ≡ false
    → drop at bytes ≡ take count (drop at bytes) ++ 10 ∷ drop (count + 1) (drop at bytes) → closes (take count (drop at bytes)) ≡ true
    → option_map (λ n. at + n) (closing_end (lines_in (drop at bytes))) ≡ Some (at + count + 1)
close_here bytes at count within none is found =
    let rest : List ℕ = drop at bytes in
    let line : List ℕ = take count rest in
    ap (λ ls. option_map (λ n. at + n) (closing_end ls)) (lines_at rest count within none is)
    ∙ ap (λ b. option_map (λ n. at + n) (if b then Some (length line + 1) else option_map (λ n. length line + 1 + n) (closing_end (lines_in (drop (count + 1) rest))))) found
    ∙ ap Some (let e : length line ≡ count = length_line rest count within in omega (arith, e))

option_map_map : (o : Option ℕ) (a b c : ℕ) → a + b ≡ c → option_map (λ n. a + n) (option_map (λ n. b + n) o) ≡ option_map (λ n. c + n) o
option_map_map None a b c is = refl
option_map_map (Some n) a b c is = ap Some (omega arith)

-- and a line that doesn't close is passed over
pub close_later : (bytes : List ℕ) (at count : ℕ) → count < length (drop at bytes) → has_feed (take count (drop at bytes)) ≡ false
    → drop at bytes ≡ take count (drop at bytes) ++ 10 ∷ drop (count + 1) (drop at bytes) → closes (take count (drop at bytes)) ≡ false
    → option_map (λ n. (at + (count + 1)) + n) (closing_end (lines_in (drop (at + (count + 1)) bytes))) ≡ option_map (λ n. at + n) (closing_end (lines_in (drop at bytes)))
close_later bytes at count within none is passed =
    let rest : List ℕ = drop at bytes in
    let line : List ℕ = take count rest in
    let behind : drop (count + 1) rest ≡ drop (at + (count + 1)) bytes = drop-drop (count + 1) at bytes ∙ ap (λ n. drop n bytes) (omega arith) in
    let sum : at + (length line + 1) ≡ at + (count + 1) = let e : length line ≡ count = length_line rest count within in omega (arith, e) in
    sym (ap (λ ls. option_map (λ n. at + n) (closing_end ls)) (lines_at rest count within none is)
    ∙ ap (λ b. option_map (λ n. at + n) (if b then Some (length line + 1) else option_map (λ n. length line + 1 + n) (closing_end (lines_in (drop (count + 1) rest))))) passed
    ∙ option_map_map (closing_end (lines_in (drop (count + 1) rest))) at (length line + 1) (at + (count + 1)) sum
    ∙ ap (λ bs. option_map (λ n. (at + (count + 1)) + n) (closing_end (lines_in bs))) behind)

-- where no line is left, none closes
pub close_never : (bytes : List ℕ) (at : ℕ) → has_feed (drop at bytes) ≡ false → option_map (λ n. at + n) (closing_end (lines_in (drop at bytes))) ≡ None
close_never bytes at none = ap (λ ls. option_map (λ n. at + n) (closing_end ls)) (no_line (drop at bytes) none)

-- without a line there is no command
pub command_none : (lang : Lang) (bytes : List ℕ) → has_feed bytes ≡ false → command_end lang (lines_in bytes) ≡ None
command_none lang bytes none = ap (command_end lang) (no_line bytes none)

-- for Lines the first line is the first command
pub command_line : (bytes : List ℕ) (at : ℕ) → at < length bytes → has_feed (take at bytes) ≡ false → bytes ≡ take at bytes ++ 10 ∷ drop (at + 1) bytes
    → command_end lang.Lines (lines_in bytes) ≡ Some (at + 1)
command_line bytes at within none is =
    ap (command_end lang.Lines) (lines_at bytes at within none is) ∙ ap (λ n. Some (n + 1)) (length_line bytes at within)

-- for Ghci too, where it doesn't open
pub command_plain : (bytes : List ℕ) (at : ℕ) → at < length bytes → has_feed (take at bytes) ≡ false → bytes ≡ take at bytes ++ 10 ∷ drop (at + 1) bytes
    → opens (take at bytes) ≡ false → command_end lang.Ghci (lines_in bytes) ≡ Some (at + 1)
command_plain bytes at within none is plain =
    let line : List ℕ = take at bytes in
    ap (command_end lang.Ghci) (lines_at bytes at within none is)
    ∙ ap (λ b. if b then option_map (λ n. length line + 1 + n) (closing_end (lines_in (drop (at + 1) bytes))) else Some (length line + 1)) plain
    ∙ ap (λ n. Some (n + 1)) (length_line bytes at within)

-- where it opens, the first command ends with the next line that closes
pub command_open : (bytes : List ℕ) (at : ℕ) → at < length bytes → has_feed (take at bytes) ≡ false → bytes ≡ take at bytes ++ 10 ∷ drop (at + 1) bytes
    → opens (take at bytes) ≡ true → command_end lang.Ghci (lines_in bytes) ≡ option_map (λ n. at + 1 + n) (closing_end (lines_in (drop (at + 1) bytes)))
command_open bytes at within none is open_line =
    let line : List ℕ = take at bytes in
    ap (command_end lang.Ghci) (lines_at bytes at within none is)
    ∙ ap (λ b. if b then option_map (λ n. length line + 1 + n) (closing_end (lines_in (drop (at + 1) bytes))) else Some (length line + 1)) open_line
    ∙ ap (λ m. option_map (λ n. m + 1 + n) (closing_end (lines_in (drop (at + 1) bytes)))) (length_line bytes at within)
