-- Up lines: sessions that place a performer's calls.
use Rattle.std.specs.Prelude.{◌≡◌, ◌⊎◌, ℕ, ◌+◌, ◌<◌, ◌≤◌, List, [], ◌∷◌, ◌++◌, length, map, true, false, Option, Some, IfSome, slice_get}
use Rattle.std.specs.List.{concat, list_any}
use Rattle.seat_lock.specs.Lists.{Begins, AllOf}
use Rattle.troop_entry.specs.declared.call.Call.{Call}
use Rattle.troop_entry.specs.declared.call.Call.TheVariants as call
use Rattle.troop_entry.specs.declared.reply.Reply.TheVariants as reply
use Rattle.troop_entry.specs.declared.row.Row.{Row}
use Rattle.log_model.specs.Log.{has_join, has_leave, is_join_by}
use Rattle.log_model.specs.Answers.{answer}
use Rattle.troop_hall.specs.Seats.{DeskSeatValue, rows_gained}
use Rattle.troop_ports.specs.Bytes.{in_front, at_end}
use Rattle.wire_lines.specs.Lines.{lines, whole_lines}
use Rattle.wire_json.specs.declared.replies.WireReply.TheVariants as wire
use Rattle.session.specs.declared.session_end.SessionEnd.{SessionEnd}
use Rattle.session.specs.declared.session_end.SessionEnd.TheVariants as ends
use Rattle.session.specs.declared.opening.Opening.{Opening}
use Rattle.session.specs.declared.opening.Opening.TheVariants as opening
use Rattle.session.specs.Printed.{reply_line}
use Rattle.session.specs.Ends.{Wires, Wrote, WroteLess}
use Rattle.session.specs.Replies.{AnsweredLine, AreReplies, rows_of_turns, printed, lines_of_turns, parts, ask_of, join_ask, log_behind}

-- ---- The lines behind an opening.

-- what the answered lines are followed by: the last of them was a leave that stands in the log; or there are no bytes more; or the next
-- line is over the limit; or there was a fault or want of memory
pub data Stop : Type 0 where
  Parting : Stop
  Ending : Stop
  Overlong : Stop
  Breaking : Stop

-- how a session then ends that has no fault and finds memory, the next line having this number; where the bytes end it ends as its
-- opening has it
abbrev pub end_by : SessionEnd → Stop → ℕ → SessionEnd
end_by over Parting number = ends.Left
end_by over Ending number = over
end_by over Overlong number = ends.Long number
end_by over Breaking number = ends.Memory

-- what it then writes last
abbrev pub last_by : Stop → ℕ → List ℕ
last_by Parting number = []
last_by Ending number = []
last_by Overlong number = reply_line (wire.Long number)
last_by Breaking number = []

-- the reply to a line over the limit, where there is one
abbrev pub long_replies : Stop → ℕ → List (List ℕ)
long_replies Parting number = []
long_replies Ending number = []
long_replies Overlong number = reply_line (wire.Long number) ∷ []
long_replies Breaking number = []

-- the replies that are owed, each as it is written: the opening's, one to each line, and that to a line over the limit
abbrev pub replies_owed : List ℕ → List AnsweredLine → Stop → ℕ → List (List ℕ)
replies_owed first turns stop number = first ∷ (map (λ (t : AnsweredLine). reply_line t.reply) turns ++ long_replies stop number)

-- the next line of the bytes is over the limit
abbrev pub EndsTalk : ℕ → List ℕ → Type 0
EndsTalk limit bytes = (first : List ℕ) × (others : List (List ℕ)) × (lines bytes ≡ first ∷ others) × (limit < length first)

-- behind the lines that were answered stood these bytes, and what is left of them; where memory was wanting, one line more may have
-- been read
abbrev pub StopsAt : Stop → SessionEnd → ℕ → List ℕ → Option (List ℕ) → Type 0
StopsAt Parting end limit rest after = after ≡ Some rest
StopsAt Ending end limit rest after = (rest ≡ []) × (after ≡ Some [])
StopsAt Overlong end limit rest after = EndsTalk limit rest
StopsAt Breaking end limit rest after =
    (after ≡ Some rest) ⊎ ((end ≡ ends.Memory) × ((line : List ℕ) × (later : List ℕ) × (lines rest ≡ line ∷ lines later) × (after ≡ Some later)))

-- these are the first lines of the bytes, where they are told
abbrev pub ReadsLines : List (List ℕ) → Stop → SessionEnd → ℕ → Option (List ℕ) → Option (List ℕ) → Type 0
ReadsLines read stop end limit before after = IfSome before (λ bytes. (rest : List ℕ) × (lines bytes ≡ read ++ lines rest) × StopsAt stop end limit rest after)

-- these are the lines that came whole: those of the bytes that were taken
abbrev pub CameWhole : List (List ℕ) → Wires → Type 0
CameWhole read w = (given : List ℕ) × (w.left_before ≡ in_front given w.rest) × (whole_lines given ≡ read)

-- of these replies all but the last were written whole, and then a front of the last, if not all of it: so each line was answered only once
-- the reply in front was written whole
pub record WroteIntoLast (replies : List (List ℕ)) (old new : Option (List ℕ)) : Type 0 where
  pub earlier : List (List ℕ)
  pub last : List ℕ
  pub split : replies ≡ earlier ++ last ∷ []
  pub front : List ℕ
  pub begins : Begins front last
  pub is : new ≡ at_end old (concat earlier ++ front)

-- a fault of the link ended the session: a write failed, and less was written than these bytes; or a read failed, and these lines are those that came whole
abbrev pub StopsByFault : List (List ℕ) → List ℕ → SessionEnd → Wires → Type 0
StopsByFault read owed end w = end ≡ ends.LinkFault → WroteLess owed w.taken_before w.taken_after ⊎ CameWhole read w

-- the last of the lines is a leave that stands in the log, and no earlier one is
pub record IsParting (turns : List AnsweredLine) : Type 0 where
  pub earlier : List AnsweredLine
  pub last : AnsweredLine
  pub split : turns ≡ earlier ++ last ∷ []
  pub goes_on : list_any parts earlier ≡ false
  pub leaves : parts last ≡ true

-- the session went on up to there: a leave that stands in the log ends it
abbrev pub PartsBy : Stop → List AnsweredLine → Type 0
PartsBy Parting turns = IsParting turns
PartsBy Ending turns = list_any parts turns ≡ false
PartsBy Overlong turns = list_any parts turns ≡ false
PartsBy Breaking turns = list_any parts turns ≡ false

-- the lines behind an opening, whose reply is `first`: the replies to them were given between these two logs, and written behind that
-- one; no line is over the limit. Where the bytes end the session ends as `over` says
pub record Talk (limit seat who : ℕ) (over : SessionEnd) (before after : List Row) (turns : List AnsweredLine) (first : List ℕ) (end : SessionEnd) (w : Wires) : Type 0 where
  pub stop : Stop
  pub replies : AreReplies seat who 2 before turns after
  pub short : AllOf (λ (t : AnsweredLine). length t.line ≤ limit) turns
  pub reads : ReadsLines (lines_of_turns turns) stop end limit w.left_before w.left_after
  pub wrote : Wrote (end_by over stop (2 + length turns)) end (first ++ (printed turns ++ last_by stop (2 + length turns))) w.taken_before w.taken_after
  pub in_turn : WroteIntoLast (replies_owed first turns stop (2 + length turns)) w.taken_before w.taken_after
  pub fault : StopsByFault (lines_of_turns turns) (first ++ (printed turns ++ last_by stop (2 + length turns))) end w
  pub parting : PartsBy stop turns

-- ---- The session's end.

-- the leave at the end of a session that began with a join: it was asked at some log, which begins with `after`, and the log has a
-- leave row of the performer. It adds none where the performer has left already
pub record Departs (seat who : ℕ) (after log bye : List Row) : Type 0 where
  pub asked_at : List Row
  pub behind : Begins after asked_at
  pub begins : Begins (log_behind seat asked_at (ask_of who (0, call.Leave))) log
  pub rows_are : bye ≡ rows_gained asked_at seat (ask_of who (0, call.Leave))
  pub left : has_leave log who ≡ true

-- what follows the lines, and the rows that it adds: who joined leaves, and who stays or is back adds none
abbrev pub Closes : Opening → ℕ → ℕ → List Row → List Row → List Row → Type 0
Closes (opening.Join name lang) seat who after log bye = Departs seat who after log bye
Closes (opening.Stay name lang) seat who after log bye = Begins after log × (bye ≡ [])
Closes (opening.Back back) seat who after log bye = Begins after log × (bye ≡ [])

-- how the session ends where the bytes do
abbrev pub end_of_input : Opening → SessionEnd
end_of_input (opening.Join name lang) = ends.Left
end_of_input (opening.Stay name lang) = ends.Away
end_of_input (opening.Back who) = ends.Away

-- the session of this performer behind its opening, from the log `before` on, said of a later log, and the rows that it added
pub record Attends (limit seat who : ℕ) (opening : Opening) (before log rows : List Row) (first : List ℕ) (end : SessionEnd) (w : Wires) : Type 0 where
  pub turns : List AnsweredLine
  pub after : List Row
  pub talk : Talk limit seat who (end_of_input opening) before after turns first end w
  pub bye : List Row
  pub closes : Closes opening seat who after log bye
  pub rows_are : rows ≡ rows_of_turns seat who turns ++ bye

-- ---- The openings.

-- no row was gained, and nothing was read
pub record IsIdle (gained : List Row) (w : Wires) : Type 0 where
  pub none : gained ≡ []
  pub unread : w.left_after ≡ w.left_before

-- memory was wanting for the opening, and nothing was written
pub record IsUnopened (gained : List Row) (end : SessionEnd) (w : Wires) : Type 0 where
  pub memory : end ≡ ends.Memory
  pub idle : IsIdle gained w
  pub unwritten : w.taken_after ≡ w.taken_before

-- the log took no more joins, at some log behind all that the seat had seen
pub record IsCrowded (seen log gained : List Row) (join : Call) (end : SessionEnd) (w : Wires) : Type 0 where
  pub asked_at : List Row
  pub behind : Begins seen asked_at
  pub begins : Begins asked_at log
  pub joins : ℕ
  pub crowded : answer asked_at 0 0 join ≡ reply.Crowded joins
  pub idle : IsIdle gained w
  pub wrote : Wrote ends.Crowded end (reply_line (wire.Desk (reply.Crowded joins))) w.taken_before w.taken_after

-- the join was placed, at some log behind all that the seat had seen, and its performer's session went on
pub record HasJoined (limit seat : ℕ) (opening : Opening) (join : Call) (seen log gained : List Row) (end : SessionEnd) (w : Wires) : Type 0 where
  pub asked_at : List Row
  pub behind : Begins seen asked_at
  pub at : ℕ
  pub who : ℕ
  pub placed : answer asked_at 0 0 join ≡ reply.Placed at who
  pub rows : List Row
  pub attends : Attends limit seat who opening (log_behind seat asked_at (join_ask join)) log rows (reply_line (wire.Desk (reply.Placed at who))) end w
  pub gained_is : gained ≡ rows_gained asked_at seat (join_ask join) ++ rows

-- an up line that begins with a join
abbrev pub Joins : ℕ → ℕ → Opening → Call → List Row → List Row → List Row → SessionEnd → Wires → Type 0
Joins limit seat opening join seen log gained end w = IsUnopened gained end w ⊎ (IsCrowded seen log gained join end w ⊎ HasJoined limit seat opening join seen log gained end w)

-- the performer's join row stands there
abbrev pub IsJoinAt : ℕ → List Row → ℕ → Type 0
IsJoinAt who log at = (row : Row) × (slice_get log at ≡ Some row) × (is_join_by who row ≡ true)

-- no performer of this number has joined in the log then seen
pub record IsStranger (who : ℕ) (seen log gained : List Row) (end : SessionEnd) (w : Wires) : Type 0 where
  pub looked_at : List Row
  pub behind : Begins seen looked_at
  pub begins : Begins looked_at log
  pub strange : has_join looked_at who ≡ false
  pub idle : IsIdle gained w
  pub wrote : Wrote (ends.Stranger who) end (reply_line (wire.Desk (reply.NotMember who))) w.taken_before w.taken_after

-- the performer has joined in the log then seen, is told where, and its session goes on
pub record IsBack (limit seat who : ℕ) (seen log gained : List Row) (end : SessionEnd) (w : Wires) : Type 0 where
  pub looked_at : List Row
  pub behind : Begins seen looked_at
  pub at : ℕ
  pub joined : IsJoinAt who looked_at at
  pub attends : Attends limit seat who (opening.Back who) looked_at log gained (reply_line (wire.Desk (reply.Kept at who))) end w

-- An up line of a seat of this number, which had seen these rows, said of a later log, in which it gained these
abbrev pub UpLine : ℕ → ℕ → Opening → List Row → List Row → List Row → SessionEnd → Wires → Type 0
UpLine limit seat (opening.Join name lang) seen log gained end w = Joins limit seat (opening.Join name lang) (call.Join name lang) seen log gained end w
UpLine limit seat (opening.Stay name lang) seen log gained end w = Joins limit seat (opening.Stay name lang) (call.Join name lang) seen log gained end w
UpLine limit seat (opening.Back who) seen log gained end w = IsStranger who seen log gained end w ⊎ IsBack limit seat who seen log gained end w

-- what an up line says of its seat: its own rows are those from before and these
pub record HasAttended (limit : ℕ) (opening : Opening) (s t : DeskSeatValue) (end : SessionEnd) (w : Wires) : Type 0 where
  pub gained : List Row
  pub own : t.own ≡ s.own ++ gained
  pub line : UpLine limit s.number opening s.seen t.seen gained end w
