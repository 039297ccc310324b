-- What the replies of an up line say of the log at the session's end.
use Rattle.std.specs.Prelude.{◌≡◌, ◌≢◌, ℕ, suc, ◌<◌, ◌≤◌, List, [], ◌∷◌, length, take, Option, None, Some, Bool, true, false, slice_get}
use Rattle.ot_text.specs.Change.{Change, base}
use Rattle.troop_entry.specs.declared.call.Call.{Call}
use Rattle.troop_entry.specs.declared.call.Call.TheVariants as call
use Rattle.troop_entry.specs.declared.reply.Reply.{Reply}
use Rattle.troop_entry.specs.declared.reply.Reply.TheVariants as reply
use Rattle.troop_entry.specs.declared.row.Row.{Row}
use Rattle.log_model.specs.Log.{has_leave, doc}
use Rattle.log_model.specs.Answers.{row_made}
use Rattle.wire_json.specs.declared.replies.WireReply.{WireReply}
use Rattle.wire_json.specs.declared.replies.WireReply.TheVariants as wire
use Rattle.session.specs.Replies.{AnsweredLine, call_on_line, log_then}

-- the call was made behind so many rows
abbrev pub HasSeen : Call → ℕ → Type 0
HasSeen (call.Join name lang) n = ⊥
HasSeen call.Leave n = ⊥
HasSeen (call.Edit seen op) n = seen ≡ n
HasSeen (call.Eval seen text) n = seen ≡ n
HasSeen (call.Reset seen text) n = seen ≡ n

-- the base of the call's operation isn't the length of the document that it was made on
pub record IsOffBase (log : List Row) (c : Call) (want got : ℕ) : Type 0 where
  pub seen : ℕ
  pub op : Change
  pub call : c ≡ call.Edit seen op
  pub want_is : want ≡ base op
  pub known : seen ≤ length log
  pub got_is : got ≡ length (doc (take seen log))
  pub differ : want ≢ got

-- a row of this performer stands at the position under that number
pub record IsUnder (who : ℕ) (log : List Row) (num at : ℕ) (c : Call) : Type 0 where
  pub row : Row
  pub is : slice_get log at ≡ Some row
  pub by : row.who ≡ who
  pub numbered : row.num ≡ num
  pub from_one : 1 ≤ num
  pub call : row.call ≡ c

-- what the log's reply to a call under its number says is true: an accepted call's row stands at the position, and is the one that the
-- call makes there through this seat; a kept one's has that number and call, and a clashing one's that number and another call; who is no
-- member has left; the log was so long, and no shorter than behind the reply before; and the base differs from that length
abbrev pub IsTrue : ℕ → ℕ → List Row → ℕ → ℕ × Call → Reply → Type 0
IsTrue seat who log least asked (reply.Placed at w) = (w ≡ who) × (least ≤ at) × (slice_get log at ≡ Some (row_made (take at log) seat who asked.0 asked.1))
IsTrue seat who log least asked (reply.Kept at w) = (w ≡ who) × IsUnder who log asked.0 at asked.1
IsTrue seat who log least asked (reply.Clash num at) = (num ≡ asked.0) × ((c : Call) × (c ≢ asked.1) × IsUnder who log num at c)
IsTrue seat who log least asked (reply.NotMember w) = (w ≡ who) × (has_leave log who ≡ true)
IsTrue seat who log least asked (reply.Ahead seen n) = HasSeen asked.1 seen × (n < seen) × (least ≤ n) × (n ≤ length log)
IsTrue seat who log least asked (reply.BadBase want got) = IsOffBase log asked.1 want got
IsTrue seat who log least asked (reply.Crowded joins) = ⊥

-- how far the log reaches at least behind the position that a reply tells
abbrev pub IsBehindPlace : Reply → ℕ → Type 0
IsBehindPlace (reply.Placed at w) n = at < n
IsBehindPlace (reply.Kept at w) n = at < n
IsBehindPlace (reply.Clash num at) n = at < n
IsBehindPlace (reply.NotMember w) n = Unit {0}
IsBehindPlace (reply.Ahead seen m) n = m ≤ n
IsBehindPlace (reply.BadBase want got) n = Unit {0}
IsBehindPlace (reply.Crowded joins) n = Unit {0}

-- the reply to the line of this number, by the call that it asks for, where the log had so many rows at least, and then so many
abbrev pub IsTrueReply : ℕ → ℕ → List Row → ℕ → Option (ℕ × Call) → AnsweredLine → ℕ → ℕ → Type 0
IsTrueReply seat who log number None t least next = t.reply ≡ wire.Bad number
IsTrueReply seat who log number (Some asked) t least next = (r : Reply) × (t.reply ≡ wire.Desk r) × IsTrue seat who log least asked r × IsBehindPlace r next

-- each reply is true, where the log was this one in front of the first
abbrev pub AreTrue : ℕ → ℕ → List Row → ℕ → List Row → List AnsweredLine → Type 0
AreTrue seat who log number before [] = Unit {0}
AreTrue seat who log number before (t ∷ ts) =
    IsTrueReply seat who log number (call_on_line t.line) t (length before) (length (log_then seat who (call_on_line t.line) t.log))
    × AreTrue seat who log (suc number) (log_then seat who (call_on_line t.line) t.log) ts

-- ---- Who is no member.

-- whether the log's reply says so
abbrev pub denies_member : Reply → Bool
denies_member (reply.Placed at w) = false
denies_member (reply.Kept at w) = false
denies_member (reply.Clash num at) = false
denies_member (reply.NotMember w) = true
denies_member (reply.Ahead seen n) = false
denies_member (reply.BadBase want got) = false
denies_member (reply.Crowded joins) = false

-- whether a reply that is sent does
abbrev pub denies_member_sent : WireReply → Bool
denies_member_sent (wire.Desk r) = denies_member r
denies_member_sent (wire.Bad line) = false
denies_member_sent (wire.Long line) = false
denies_member_sent (wire.Unfit line) = false

-- whether a line was answered so
abbrev pub is_denied : AnsweredLine → Bool
is_denied t = denies_member_sent t.reply
