-- The value of a line, and the fields of an object. Keys that no grammar names are ignored.
use Rattle.std.specs.Prelude.{ℕ, List, Bool, ◌||◌, ◌==◌, Option, None, option_and_then, if◌then◌else◌}
use Rattle.std.specs.List.{list_all}
use Rattle.std.specs.Str.{is_utf8}
use Rattle.serde_json.specs.Data.{Data}
use Rattle.serde_json.specs.Read.{read}
use Rattle.serde_json.specs.Find.{get}

-- the JSON value of a line in UTF-8, if it is one
unfoldable pub value_of : List ℕ → Option Data
value_of line = if is_utf8 line then read line else None

-- what stands at a key, where it is of the kind
abbrev pub field : {A : Type 0} → (Data → Option A) → List ℕ → Data → Option A
field kind key d = option_and_then kind (get key d)

-- white space of JSON (RFC 8259): space, tab, line feed, carriage return
abbrev pub is_space : ℕ → Bool
is_space b = (b == 32) || (b == 9) || (b == 10) || (b == 13)

-- white space alone
abbrev pub is_blank_line : List ℕ → Bool
is_blank_line line = list_all is_space line
