-- The lines of an up line, and the replies to them.
use Rattle.std.specs.Prelude.{◌≡◌, ℕ, suc, List, [], ◌∷◌, ◌++◌, map, Bool, true, false, ◌&&◌, if◌then◌else◌, Option, None, Some}
use Rattle.seat_lock.specs.Lists.{Begins}
use Rattle.troop_entry.specs.declared.call.Call.{Call}
use Rattle.troop_entry.specs.declared.call.Request.{Request}
use Rattle.troop_entry.specs.declared.call.Request.TheVariants as request
use Rattle.troop_entry.specs.declared.reply.Reply.{Reply}
use Rattle.troop_entry.specs.declared.reply.Reply.TheVariants as reply
use Rattle.troop_entry.specs.declared.row.Row.{Row}
use Rattle.troop_entry.specs.Kinds.{is_join, is_leave}
use Rattle.log_model.specs.Answers.{answer, log_after}
use Rattle.revision_log.specs.declared.played.Ask.{Ask}
use Rattle.troop_hall.specs.Seats.{rows_gained}
use Rattle.wire_json.specs.declared.replies.WireReply.{WireReply}
use Rattle.wire_json.specs.declared.replies.WireReply.TheVariants as wire
use Rattle.session.specs.Printed.{request_of, reply_line}

-- a line that was read behind the opening, the log at which it was answered, and the reply
pub record AnsweredLine : Type 0 where
  pub line : List ℕ
  pub log : List Row
  pub reply : WireReply

-- ---- What a line asks for.

-- the number and the call of a request behind the opening: a leave, an edit, an evaluation or a reset
abbrev pub call_asked : Option Request → Option (ℕ × Call)
call_asked None = None
call_asked (Some (request.Call num c)) = if is_join c then None else Some (num, c)
call_asked (Some (request.Stay name lang)) = None
call_asked (Some (request.Back who)) = None
call_asked (Some (request.Down start who)) = None
call_asked (Some (request.Snap who)) = None

-- the number and the call that a line asks for, if it stands behind the opening
abbrev pub call_on_line : List ℕ → Option (ℕ × Call)
call_on_line line = call_asked (request_of line)

-- the performer's ask for a call under its number
abbrev pub ask_of : ℕ → ℕ × Call → Ask
ask_of who asked = record { who = who; num = asked.0; call = asked.1 }

-- the ask for a join
abbrev pub join_ask : Call → Ask
join_ask join = record { who = 0; num = 0; call = join }

-- the log behind an ask through a seat of this number
abbrev pub log_behind : ℕ → List Row → Ask → List Row
log_behind seat log ask = log_after log seat ask.who ask.num ask.call

-- ---- The replies of a session of this seat and this performer.

module _ (seat who : ℕ) where
  -- the reply to the line of this number at a log: what one thread answers there to the call that the line asks for; to a line that asks
  -- for none `Bad`, with the line's number
  abbrev pub reply_given : ℕ → Option (ℕ × Call) → List Row → WireReply
  reply_given number None log = wire.Bad number
  reply_given number (Some asked) log = wire.Desk (answer log who asked.0 asked.1)

  -- the log behind a line that was answered at this one
  abbrev pub log_then : Option (ℕ × Call) → List Row → List Row
  log_then None log = log
  log_then (Some asked) log = log_behind seat log (ask_of who asked)

  -- the rows that it gained
  abbrev pub rows_by : Option (ℕ × Call) → List Row → List Row
  rows_by None log = []
  rows_by (Some asked) log = rows_gained log seat (ask_of who asked)

  -- the replies to these lines, the first of which has this number, were given one after the other between these two logs: each at a log
  -- that begins with the one behind the reply before
  abbrev pub AreReplies : ℕ → List Row → List AnsweredLine → List Row → Type 0
  AreReplies number before [] after = Begins before after
  AreReplies number before (t ∷ ts) after =
      (t.reply ≡ reply_given number (call_on_line t.line) t.log) × Begins before t.log × AreReplies (suc number) (log_then (call_on_line t.line) t.log) ts after

  -- the rows that they gained, in order
  abbrev pub rows_of_turns : List AnsweredLine → List Row
  rows_of_turns [] = []
  rows_of_turns (t ∷ ts) = rows_by (call_on_line t.line) t.log ++ rows_of_turns ts

-- the replies as they are written
abbrev pub printed : List AnsweredLine → List ℕ
printed [] = []
printed (t ∷ ts) = reply_line t.reply ++ printed ts

-- the lines
abbrev pub lines_of_turns : List AnsweredLine → List (List ℕ)
lines_of_turns turns = map (λ (t : AnsweredLine). t.line) turns

-- ---- A leave that ends the session.

-- whether the call stands in the log: it was placed, now or earlier
abbrev pub is_standing : Reply → Bool
is_standing (reply.Placed at who) = true
is_standing (reply.Kept at who) = true
is_standing (reply.Clash num at) = false
is_standing (reply.NotMember who) = false
is_standing (reply.Ahead seen n) = false
is_standing (reply.BadBase want got) = false
is_standing (reply.Crowded joins) = false

-- the same of a reply as it is sent
abbrev pub is_standing_reply : WireReply → Bool
is_standing_reply (wire.Desk r) = is_standing r
is_standing_reply (wire.Bad line) = false
is_standing_reply (wire.Long line) = false
is_standing_reply (wire.Unfit line) = false

-- whether the line asks for a leave
abbrev pub asks_leave : Option (ℕ × Call) → Bool
asks_leave None = false
asks_leave (Some asked) = is_leave asked.1

-- whether the line is a leave that stands in the log
abbrev pub parts : AnsweredLine → Bool
parts t = asks_leave (call_on_line t.line) && is_standing_reply t.reply
