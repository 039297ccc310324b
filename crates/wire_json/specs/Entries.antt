-- The grammar of entries: objects, of which other keys than those that are named are ignored.
use Rattle.std.specs.Prelude.{ℕ, List, codes, bytes_eq, Option, Some, None, option_map, option_and_then, if◌then◌else◌}
use Rattle.serde_json.specs.Data.{Data}
use Rattle.serde_json.specs.Find.{as_str}
use Rattle.troop_entry.specs.declared.entry.Deed.{Deed}
use Rattle.troop_entry.specs.declared.entry.Deed.TheVariants as deed
use Rattle.troop_entry.specs.declared.entry.Entry.{Entry}
use Rattle.wire_json.specs.Values.{count_of, performer_of, text_value, name_of, lang_of}
use Rattle.wire_json.specs.Operations.{op_of}
use Rattle.wire_json.specs.Fields.{field, value_of}

-- a join, by the keys `name` and `lang`
abbrev pub join_deed : Data → Option Deed
join_deed d = option_and_then (λ name. option_map (λ lang. deed.Join name lang) (field lang_of (codes "lang") d)) (field name_of (codes "name") d)

-- a deed, by its word
abbrev pub deed_of_word : List ℕ → Data → Option Deed
deed_of_word word d =
    if bytes_eq word (codes "join") then join_deed d
    else (if bytes_eq word (codes "leave") then Some deed.Leave
    else (if bytes_eq word (codes "edit") then option_map deed.Edit (field op_of (codes "op") d)
    else (if bytes_eq word (codes "eval") then option_map deed.Eval (field text_value (codes "text") d)
    else (if bytes_eq word (codes "reset") then option_map deed.Reset (field op_of (codes "op") d) else None))))

-- the deed of an entry, whose word stands at the key `deed`
abbrev pub deed_field : Data → Option Deed
deed_field d = option_and_then (λ word. deed_of_word word d) (field as_str (codes "deed") d)

-- an entry of these numbers
abbrev pub entry_with : ℕ → ℕ → ℕ → Deed → Entry
entry_with at who seen what = record { at = at; who = who; seen = seen; deed = what }

-- the entry of a value
abbrev pub entry_of_data : Data → Option Entry
entry_of_data d =
    option_and_then (λ at. option_and_then (λ who. option_and_then (λ seen. option_map (entry_with at who seen) (deed_field d))
    (field count_of (codes "seen") d)) (field performer_of (codes "who") d)) (field count_of (codes "at") d)

-- the entry of a line
abbrev pub entry_of_line : List ℕ → Option Entry
entry_of_line line = option_and_then entry_of_data (value_of line)
