-- What the parts of an up line say.
use Rattle.std.specs.Prelude.{All, ◌≡◌, ◌⊎◌, ℕ, ◌+◌, ◌≤◌, List, [], ◌++◌, length, Bool, true, false, ◌&&◌, Option, None, Some, IfSome, Result, Ok, Err}
use Rattle.std.specs.List.{list_any}
use Rattle.seat_lock.specs.Lists.{Begins, AllOf}
use Rattle.troop_entry.specs.declared.call.Call.{Call}
use Rattle.troop_entry.specs.declared.reply.Reply.TheVariants as reply
use Rattle.troop_entry.specs.declared.row.Row.{Row}
use Rattle.troop_ports.specs.Bytes.{at_end, in_front}
use Rattle.log_model.specs.Log.{has_join}
use Rattle.log_model.specs.Answers.{answer}
use Rattle.troop_hall.specs.Seats.{DeskSeatValue, IsLater, IsAnswered, rows_gained}
use Rattle.wire_lines.specs.Lines.{lines, HasNoFeed, with_feeds}
use Rattle.wire_lines.specs.declared.reader.State.{State}
use Rattle.wire_lines.specs.declared.reader.State.TheVariants as state
use Rattle.wire_json.specs.declared.replies.WireReply.{WireReply}
use Rattle.wire_json.specs.declared.replies.WireReply.TheVariants as wire
use Rattle.session.specs.declared.session_end.SessionEnd.{SessionEnd}
use Rattle.session.specs.declared.session_end.SessionEnd.TheVariants as ends
use Rattle.session.specs.Printed.{reply_line}
use Rattle.session.specs.Ends.{WroteFront, WroteLess, IsBroken, CountsEnd, Wires}
use Rattle.session.specs.Replies.{AnsweredLine, call_on_line, ask_of, join_ask, log_behind, AreReplies, rows_of_turns, printed, lines_of_turns, asks_leave, is_standing_reply, parts}
use Rattle.session.specs.UpLines.{Talk, IsUnopened, IsCrowded}

-- the bytes were written, or a front of them and then the session is broken
abbrev pub Sends : Result (Unit {0}) SessionEnd → List ℕ → Option (List ℕ) → Option (List ℕ) → Type 0
Sends (Ok done) bytes old new = new ≡ at_end old bytes
Sends (Err end) bytes old new = IsBroken end × WroteFront bytes old new × (end ≡ ends.LinkFault → WroteLess bytes old new)

-- a fault was counted exactly where the session is broken by its link
abbrev pub CountsSent : {T : Type 0} → Result T SessionEnd → ℕ → ℕ → Type 0
CountsSent (Ok done) before now = now ≡ before
CountsSent (Err end) before now = CountsEnd end before now

-- the reply to the line of this number, which asks for this call, if for any, and what became of the seat
abbrev pub AnswersLine : ℕ → ℕ → Option (ℕ × Call) → DeskSeatValue → WireReply → DeskSeatValue → Type 0
AnswersLine who number asked s (wire.Desk r) t = (c : ℕ × Call) × (asked ≡ Some c) × IsAnswered (ask_of who c) s r t
AnswersLine who number asked s (wire.Bad line) t = (asked ≡ None) × (line ≡ number) × (t.seen ≡ s.seen) × (t.own ≡ s.own)
AnswersLine who number asked s (wire.Long line) t = ⊥
AnswersLine who number asked s (wire.Unfit line) t = ⊥

-- a line was answered, and whether it was a leave that stands in the log; or the reply was cut, or there was none
abbrev pub TakesLine : Result Bool SessionEnd → ℕ → ℕ → List ℕ → DeskSeatValue → DeskSeatValue → Option (List ℕ) → Option (List ℕ) → Type 0
TakesLine (Ok leaves) who number line s t old new =
    (r : WireReply) × AnswersLine who number (call_on_line line) s r t × (new ≡ at_end old (reply_line r)) × (leaves ≡ (asks_leave (call_on_line line) && is_standing_reply r))
TakesLine (Err end) who number line s t old new =
    IsBroken end × (((r : WireReply) × AnswersLine who number (call_on_line line) s r t × WroteFront (reply_line r) old new × (end ≡ ends.LinkFault → WroteLess (reply_line r) old new))
    ⊎ ((end ≡ ends.Memory) × (t.own ≡ s.own) × (new ≡ old)))

-- these lines were answered behind an opening, and what is left of the bytes
pub record HasSaid (limit who : ℕ) (s t : DeskSeatValue) (before left : Option (List ℕ)) (turns : List AnsweredLine) : Type 0 where
  pub later : IsLater s t
  pub replies : AreReplies s.number who 2 s.seen turns t.seen
  pub own : t.own ≡ s.own ++ rows_of_turns s.number who turns
  pub short : AllOf (λ (turn : AnsweredLine). length turn.line ≤ limit) turns
  pub read : IfSome before (λ bytes. (rest : List ℕ) × (lines bytes ≡ lines_of_turns turns ++ lines rest) × (left ≡ Some rest))

-- these lines were cut out of the bytes, each with its line feed, and so much is left of them
pub record HasCut (read : List (List ℕ)) (before left : Option (List ℕ)) : Type 0 where
  pub no_feeds : All HasNoFeed read
  pub are : before ≡ in_front (with_feeds read) left

-- and the session goes on with the line of this number; while its reader goes on, all lines ended at a line feed
pub record InTalk (limit who : ℕ) (s t : DeskSeatValue) (before left old new : Option (List ℕ)) (reader : State) (number : ℕ) : Type 0 where
  pub turns : List AnsweredLine
  pub said : HasSaid limit who s t before left turns
  pub goes_on : list_any parts turns ≡ false
  pub count : number ≡ 2 + length turns
  pub wrote : new ≡ at_end old (printed turns)
  pub cut : reader ≡ state.Going → HasCut (lines_of_turns turns) before left

-- the lines behind an opening, to the end of the session, whose opening's reply is `first`, if that is written here
pub record HasTalked (limit who : ℕ) (over : SessionEnd) (s t : DeskSeatValue) (first : List ℕ) (end : SessionEnd) (w : Wires) : Type 0 where
  pub turns : List AnsweredLine
  pub later : IsLater s t
  pub own : t.own ≡ s.own ++ rows_of_turns s.number who turns
  pub talk : Talk limit s.number who over s.seen t.seen turns first end w

-- a join was placed, and its performer's lines were answered
pub record HasEntered (limit : ℕ) (join : Call) (over : SessionEnd) (s t : DeskSeatValue) (who : ℕ) (end : SessionEnd) (w : Wires) : Type 0 where
  pub asked_at : List Row
  pub behind : Begins s.seen asked_at
  pub at : ℕ
  pub placed : answer asked_at 0 0 join ≡ reply.Placed at who
  pub turns : List AnsweredLine
  pub talk : Talk limit s.number who over (log_behind s.number asked_at (join_ask join)) t.seen turns (reply_line (wire.Desk (reply.Placed at who))) end w
  pub own : t.own ≡ s.own ++ (rows_gained asked_at s.number (join_ask join) ++ rows_of_turns s.number who turns)
  pub joined : has_join t.seen who ≡ true

-- what became of a join, by the number of the performer that joined
abbrev pub Enters : ℕ → Call → SessionEnd → DeskSeatValue → DeskSeatValue → SessionEnd → Option ℕ → Wires → Type 0
Enters limit join over s t end None w = (t.own ≡ s.own) × (IsUnopened [] end w ⊎ IsCrowded s.seen t.seen [] join end w)
Enters limit join over s t end (Some who) w = HasEntered limit join over s t who end w
