-- The grammar of replies. The key `no` decides, and without it the key `kept`.
use Rattle.std.specs.Prelude.{ℕ, List, codes, bytes_eq, Bool, false, Option, Some, None, option_map, option_and_then, if◌then◌else◌}
use Rattle.serde_json.specs.Data.{Data}
use Rattle.serde_json.specs.Find.{get, as_str, as_bool}
use Rattle.troop_entry.specs.declared.reply.Reply.TheVariants as desk
use Rattle.wire_json.specs.declared.replies.WireReply.{WireReply}
use Rattle.wire_json.specs.declared.replies.WireReply.TheVariants as reply
use Rattle.wire_json.specs.Values.{count_of, who_of, performer_of}
use Rattle.wire_json.specs.Fields.{field, value_of}

-- the call was placed, by the keys `at` and `who`
abbrev pub placed_reply : Data → Option WireReply
placed_reply d = option_and_then (λ at. option_map (λ who. reply.Desk (desk.Placed at who)) (field performer_of (codes "who") d)) (field count_of (codes "at") d)

-- the call stands since an earlier time, by the keys `at` and `who`
abbrev pub kept_reply : Data → Option WireReply
kept_reply d = option_and_then (λ at. option_map (λ who. reply.Desk (desk.Kept at who)) (field who_of (codes "who") d)) (field count_of (codes "at") d)

-- another call stands under the number, by the keys `num` and `at`
abbrev pub clash_reply : Data → Option WireReply
clash_reply d = option_and_then (λ num. option_map (λ at. reply.Desk (desk.Clash num at)) (field count_of (codes "at") d)) (field count_of (codes "num") d)

-- the performer is no member, by the key `who`
abbrev pub member_reply : Data → Option WireReply
member_reply d = option_map (λ who. reply.Desk (desk.NotMember who)) (field who_of (codes "who") d)

-- the call has seen more rows than there are, by the keys `seen` and `length`
abbrev pub ahead_reply : Data → Option WireReply
ahead_reply d = option_and_then (λ seen. option_map (λ n. reply.Desk (desk.Ahead seen n)) (field count_of (codes "length") d)) (field count_of (codes "seen") d)

-- the edit is for a text of another length, by the keys `want` and `got`
abbrev pub base_reply : Data → Option WireReply
base_reply d = option_and_then (λ want. option_map (λ got. reply.Desk (desk.BadBase want got)) (field count_of (codes "got") d)) (field count_of (codes "want") d)

-- the log takes no more joins, by the key `joins`
abbrev pub crowded_reply : Data → Option WireReply
crowded_reply d = option_map (λ joins. reply.Desk (desk.Crowded joins)) (field count_of (codes "joins") d)

-- the number of the line that is refused, by the key `line`
abbrev pub line_field : Data → Option ℕ
line_field d = field count_of (codes "line") d

-- a refusal, by its word
abbrev pub refusal_of_word : List ℕ → Data → Option WireReply
refusal_of_word word d =
    if bytes_eq word (codes "member") then member_reply d
    else (if bytes_eq word (codes "ahead") then ahead_reply d
    else (if bytes_eq word (codes "base") then base_reply d
    else (if bytes_eq word (codes "crowded") then crowded_reply d
    else (if bytes_eq word (codes "clash") then clash_reply d
    else (if bytes_eq word (codes "bad") then option_map reply.Bad (line_field d)
    else (if bytes_eq word (codes "long") then option_map reply.Long (line_field d)
    else (if bytes_eq word (codes "unfit") then option_map reply.Unfit (line_field d) else None)))))))

-- whether the value is there and is `true`
abbrev pub is_set : Option Bool → Bool
is_set None = false
is_set (Some b) = b

-- a reply that refuses nothing
abbrev pub accepted_of : Data → Option WireReply
accepted_of d = if is_set (field as_bool (codes "kept") d) then kept_reply d else placed_reply d

-- a reply by what stands at its key `no`
abbrev pub reply_by : Option Data → Data → Option WireReply
reply_by None d = accepted_of d
reply_by (Some said) d = option_and_then (λ word. refusal_of_word word d) (as_str said)

-- the reply of a value
abbrev pub reply_of_data : Data → Option WireReply
reply_of_data d = reply_by (get (codes "no") d) d

-- the reply of a line
abbrev pub reply_of_line : List ℕ → Option WireReply
reply_of_line line = option_and_then reply_of_data (value_of line)
