-- The grammar of requests: objects, of which other keys than those that are named are ignored.
use Rattle.std.specs.Prelude.{ℕ, List, codes, bytes_eq, Option, Some, None, option_map, option_and_then, if◌then◌else◌}
use Rattle.serde_json.specs.Data.{Data}
use Rattle.serde_json.specs.Find.{get, as_str}
use Rattle.troop_entry.specs.declared.call.Call.{Call}
use Rattle.troop_entry.specs.declared.call.Call.TheVariants as call
use Rattle.troop_entry.specs.declared.call.Request.{Request}
use Rattle.troop_entry.specs.declared.call.Request.TheVariants as request
use Rattle.wire_json.specs.Values.{count_of, who_of, text_value, name_of, lang_of}
use Rattle.wire_json.specs.Operations.{op_of}
use Rattle.wire_json.specs.Fields.{field, value_of}

-- the number under which a call is asked, by its key `num`; without that key it has none, which is 0
abbrev pub num_by : Option Data → Option ℕ
num_by None = Some 0
num_by (Some d) = count_of d

-- the number of a request
abbrev pub num_of : Data → Option ℕ
num_of d = num_by (get (codes "num") d)

-- the edit of a request, by its keys `seen` and `op`
abbrev pub edit_of : Data → Option Call
edit_of d = option_and_then (λ seen. option_map (λ op. call.Edit seen op) (field op_of (codes "op") d)) (field count_of (codes "seen") d)

-- the evaluation of a request, by its keys `seen` and `text`
abbrev pub eval_of : Data → Option Call
eval_of d = option_and_then (λ seen. option_map (λ text. call.Eval seen text) (field text_value (codes "text") d)) (field count_of (codes "seen") d)

-- the reset of a request, by its keys `seen` and `text`
abbrev pub reset_of : Data → Option Call
reset_of d = option_and_then (λ seen. option_map (λ text. call.Reset seen text) (field text_value (codes "text") d)) (field count_of (codes "seen") d)

-- a member's call by its word: a leave, an edit, an evaluation or a reset
abbrev pub call_of_word : List ℕ → Data → Option Call
call_of_word word d =
    if bytes_eq word (codes "leave") then Some call.Leave
    else (if bytes_eq word (codes "edit") then edit_of d
    else (if bytes_eq word (codes "eval") then eval_of d
    else (if bytes_eq word (codes "reset") then reset_of d else None)))

-- a member's call, whose word stands at the key `call`
abbrev pub call_of : Data → Option Call
call_of d = option_and_then (λ word. call_of_word word d) (field as_str (codes "call") d)

-- a join, which has no number
abbrev pub join_request : Data → Option Request
join_request d = option_and_then (λ name. option_map (λ lang. request.Call 0 (call.Join name lang)) (field lang_of (codes "lang") d)) (field name_of (codes "name") d)

-- a member's call under its number
abbrev pub member_request : List ℕ → Data → Option Request
member_request word d = option_and_then (λ num. option_map (λ asked. request.Call num asked) (call_of_word word d)) (num_of d)

-- a down line, by its keys `from` and `who`
abbrev pub down_request : Data → Option Request
down_request d = option_and_then (λ start. option_map (λ who. request.Down start who) (field who_of (codes "who") d)) (field count_of (codes "from") d)

-- a down line that begins with a snapshot, by its key `who`
abbrev pub snap_request : Data → Option Request
snap_request d = option_map (λ who. request.Snap who) (field who_of (codes "who") d)

-- a join that stays, by its keys `lang` and `name`
abbrev pub stay_request : Data → Option Request
stay_request d = option_and_then (λ name. option_map (λ lang. request.Stay name lang) (field lang_of (codes "lang") d)) (field name_of (codes "name") d)

-- a performer that goes on, by its key `who`
abbrev pub back_request : Data → Option Request
back_request d = option_map (λ who. request.Back who) (field who_of (codes "who") d)

-- a request by its word; each other word is a member's call, or nothing
abbrev pub request_of_word : List ℕ → Data → Option Request
request_of_word word d =
    if bytes_eq word (codes "join") then join_request d
    else (if bytes_eq word (codes "down") then down_request d
    else (if bytes_eq word (codes "snap") then snap_request d
    else (if bytes_eq word (codes "stay") then stay_request d
    else (if bytes_eq word (codes "back") then back_request d
    else member_request word d))))

-- the request of a value, whose word stands at the key `call`
abbrev pub request_of_data : Data → Option Request
request_of_data d = option_and_then (λ word. request_of_word word d) (field as_str (codes "call") d)

-- the request of a line
abbrev pub request_of_line : List ℕ → Option Request
request_of_line line = option_and_then request_of_data (value_of line)
