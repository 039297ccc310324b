-- The kinds of JSON values that the grammars name.
use Rattle.std.specs.Prelude.{ℕ, List, [], ◌∷◌, codes, bytes_eq, Option, Some, None, option_map, option_and_then, if◌then◌else◌, length, ◌&&◌, nat_le, chars}
use Rattle.serde_json.specs.Data.{Data, Items, item, no_items}
use Rattle.serde_json.specs.Find.{as_str, as_number, as_u64}
use Rattle.troop_entry.specs.declared.call.Lang.{Lang}
use Rattle.troop_entry.specs.declared.call.Lang.TheVariants as lang

-- the largest count, and the largest sum of the numbers of an operation: 2^53 - 1
abbrev pub most_count : ℕ
most_count = 9007199254740991

-- the largest number of a performer: 2^32 - 1
abbrev pub most_who : ℕ
most_who = 4294967295

-- the number, where it is no more than the limit
abbrev pub at_most : ℕ → ℕ → Option ℕ
at_most limit n = if nat_le n limit then Some n else None

-- a number without a point and an exponent that isn't below 0
abbrev pub whole_of : Data → Option ℕ
whole_of d = option_and_then as_u64 (as_number d)

-- a count
abbrev pub count_of : Data → Option ℕ
count_of d = option_and_then (at_most most_count) (whole_of d)

-- the number of a performer
abbrev pub who_of : Data → Option ℕ
who_of d = option_and_then (at_most most_who) (whole_of d)

-- a string, by its characters
abbrev pub text_value : Data → Option (List ℕ)
text_value d = option_map chars (as_str d)

-- a string of 1 to 32 characters
abbrev pub name_of : Data → Option (List ℕ)
name_of d = option_and_then (λ s. if nat_le 1 (length (chars s)) && nat_le (length (chars s)) 32 then Some (chars s) else None) (as_str d)

-- the string `lines` or the string `ghci`
abbrev pub lang_of : Data → Option Lang
lang_of d = option_and_then (λ s. if bytes_eq s (codes "lines") then Some lang.Lines else (if bytes_eq s (codes "ghci") then Some lang.Ghci else None)) (as_str d)

-- the elements of an array
abbrev pub elements : Items → List Data
elements no_items = []
elements (item d ds) = d ∷ elements ds

-- the number, where it is at least 1
abbrev pub from_one : ℕ → Option ℕ
from_one n = if nat_le 1 n then Some n else None

-- the number of a performer, which is at least 1
abbrev pub performer_of : Data → Option ℕ
performer_of d = option_and_then from_one (who_of d)
