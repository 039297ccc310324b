-- Why a call that has no row under its number is refused, as far as no operation is looked at.
use Rattle.std.specs.Prelude.{ℕ, List, length, Option, None, Some, nat_lt, if◌then◌else◌}
use Rattle.troop_entry.specs.declared.reply.Reply.{Reply}
use Rattle.troop_entry.specs.declared.reply.Reply.TheVariants as reply
use Rattle.troop_entry.specs.declared.row.Row.{Row}
use Rattle.log_model.specs.Log.{is_member}

-- the refusal of a call that is no join and has seen so many rows, if its performer is no member or it has seen too many
abbrev pub seen_refusal : List Row → ℕ → ℕ → Option Reply
seen_refusal log who seen =
    if is_member log who then (if nat_lt (length log) seen then Some (reply.Ahead seen (length log)) else None) else Some (reply.NotMember who)
