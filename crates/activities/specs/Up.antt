-- What the up line sends and reads.
use Rattle.std.specs.Prelude.{◌≡◌, ◌⊎◌, ℕ, ◌+◌, ◌<◌, ◌≤◌, true, if◌then◌else◌, List, [], ◌∷◌, ◌++◌, length, Option, None, Some, IfSome, Result, Ok, Err}
use Rattle.seat_lock.specs.Lists.{Begins, AllOf}
use Rattle.seat_lock.specs.Values.{SeatValue}
use Rattle.troop_entry.specs.declared.call.Call.{Call}
use Rattle.troop_entry.specs.declared.call.Request.TheVariants as request
use Rattle.troop_entry.specs.declared.reply.Reply.TheVariants as desk
use Rattle.troop_ports.specs.Bytes.{at_end}
use Rattle.wire_lines.specs.Reader.{IsLong}
use Rattle.wire_lines.specs.declared.reader.State.{State}
use Rattle.wire_json.specs.declared.replies.WireReply.{WireReply}
use Rattle.wire_json.specs.declared.replies.WireReply.TheVariants as wire
use Rattle.wire_json.specs.Replies.{reply_of_line}
use Rattle.wire_print.specs.Printed.{printed_line, request_data}
use Rattle.stage_state.specs.declared.act.Act.{Act}
use Rattle.stage_state.specs.declared.act.Act.TheVariants as act
use Rattle.stage_state.specs.declared.act.Next.{Next}
use Rattle.stage_state.specs.declared.act.Next.TheVariants as next
use Rattle.stage_state.specs.declared.played.Origin.{Origin}
use Rattle.stage_state.specs.Machine.{Machine, next_of, after_act}
use Rattle.stage_state.specs.Origins.{machine_at}
use Rattle.stage_state.specs.Replies.{accepts}
use Rattle.activities.specs.declared.up.Placing.{Placing}
use Rattle.activities.specs.declared.errors.Side.{Side}
use Rattle.activities.specs.declared.errors.Side.TheVariants as side
use Rattle.activities.specs.declared.errors.What.{What}
use Rattle.activities.specs.declared.errors.What.TheVariants as what
use Rattle.activities.specs.declared.errors.PerformError.{PerformError}
use Rattle.activities.specs.declared.errors.PerformError.TheVariants as error
use Rattle.activities.specs.Lines.{GaveLines, IsHeldBack, IsCutOff, FailsBare, WantsAtLine, number_behind}
use Rattle.activities.specs.Memory.{PlacedAct, SeatMemory, Remembers}

-- the longest line of a request that the server takes, and the longest reply that a performer reads, in bytes
abbrev pub longest_request : ℕ
longest_request = 1048576

-- the line of a call under its number
abbrev pub call_line : ℕ × Call → List ℕ
call_line pair = printed_line (request_data (request.Call pair.0 pair.1))

-- the call's line isn't longer than the server takes; its line feed isn't counted
abbrev pub FitsRequest : ℕ × Call → Type 0
FitsRequest pair = length (call_line pair) ≤ longest_request + 1

-- the lines of these, one behind the other
abbrev pub call_lines : List (ℕ × Call) → List ℕ
call_lines [] = []
call_lines (pair ∷ pairs) = call_line pair ++ call_lines pairs

-- the call that goes out, under its number, if one does
abbrev pub next_pair : Next → List (ℕ × Call)
next_pair (next.Send num call) = (num, call) ∷ []
next_pair next.NotYet = []
next_pair next.Done = []

-- the call that an act sends, under its number
abbrev pub sent_by : Machine → Act → List (ℕ × Call)
sent_by m (act.Typed op) = []
sent_by m (act.Eval place) = []
sent_by m (act.Reset text) = []
sent_by m (act.Take e) = []
sent_by m act.Next = next_pair (next_of m)
sent_by m act.Finish = []
sent_by m act.Halt = []

-- the calls that the seat's own acts send, from this machine on
abbrev pub sent_in : Machine → SeatMemory → List (ℕ × Call)
sent_in m [] = []
sent_in m (x ∷ k) = (if x.0 then sent_by m x.1.1 else []) ++ sent_in (after_act x.1.1 m) k

-- ---- replies

-- where a reply says that the call was placed, and for whom, if it says so
abbrev pub placing_of : WireReply → Option Placing
placing_of (wire.Desk (desk.Placed at who)) = Some (record { at = at; who = who })
placing_of (wire.Desk (desk.Kept at who)) = None
placing_of (wire.Desk (desk.Clash num at)) = None
placing_of (wire.Desk (desk.NotMember who)) = None
placing_of (wire.Desk (desk.Ahead seen length)) = None
placing_of (wire.Desk (desk.BadBase want got)) = None
placing_of (wire.Desk (desk.Crowded joins)) = None
placing_of (wire.Bad line) = None
placing_of (wire.Long line) = None
placing_of (wire.Unfit line) = None

-- where a call was placed, or the reply by which it wasn't
abbrev pub placed_or_refused : Option Placing → WireReply → Result Placing PerformError
placed_or_refused (Some placing) r = Ok placing
placed_or_refused None r = Err (error.Refused r)

-- the line is a reply that says so
abbrev pub TellsPlacing : Placing → List ℕ → Type 0
TellsPlacing placing line = (r : WireReply) × (reply_of_line line ≡ Some r) × (placing_of r ≡ Some placing)

-- the line is the reply that a call was placed
abbrev pub TellsPlaced : List ℕ → Type 0
TellsPlaced line = (placing : Placing) × TellsPlacing placing line

-- the line is this reply, by which no call was placed
abbrev pub TellsRefusal : WireReply → List (List ℕ) → Type 0
TellsRefusal r last = (line : List ℕ) × (last ≡ line ∷ []) × (reply_of_line line ≡ Some r) × (placing_of r ≡ None)

-- what is wrong with a reply that the server owed: `last` is its line, where it was read, and `rest` is what was to come behind it
abbrev pub IsWrongReply : What → List (List ℕ) → Option (List ℕ) → Type 0
IsWrongReply what.Ended last rest = (last ≡ []) × IfSome rest (λ bytes. bytes ≡ [])
IsWrongReply what.Long last rest = (last ≡ []) × IfSome rest (IsLong longest_request)
IsWrongReply what.Unread last rest = (line : List ℕ) × (last ≡ line ∷ []) × (reply_of_line line ≡ None)
IsWrongReply (what.Place want got) last rest = ⊥
IsWrongReply (what.Base want got) last rest = ⊥
IsWrongReply (what.NotSent at) last rest = ⊥

-- the up side alone owes replies
abbrev pub IsWrongReplyOn : Side → What → List (List ℕ) → Option (List ℕ) → Type 0
IsWrongReplyOn side.Up what last rest = IsWrongReply what last rest
IsWrongReplyOn side.Down what last rest = ⊥

-- why a call's line wasn't written whole: `front` of it was
abbrev pub IsUnwritten : ℕ × Call → List ℕ → PerformError → Type 0
IsUnwritten pair front error.ReadFault = ⊥
IsUnwritten pair front error.WriteFault = ⊥
IsUnwritten pair front error.NetFault = Begins front (call_line pair) × (length front < length (call_line pair))
IsUnwritten pair front (error.BadInput line) = ⊥
IsUnwritten pair front error.TooMuch = ⊥
IsUnwritten pair front (error.Refused reply) = ⊥
IsUnwritten pair front (error.Dropped at) = ⊥
IsUnwritten pair front (error.BadPeer side line what) = ⊥
IsUnwritten pair front (error.LongRequest bytes) = (front ≡ []) × (bytes + 1 ≡ length (call_line pair)) × (longest_request < bytes)
IsUnwritten pair front error.Memory = front ≡ []

-- why no reply was read by which the call was placed: `last` is the line of this number, where it was read, `rest` is what was to come behind it, and `remaining` what
-- remains of the source
abbrev pub IsUnplaced : ℕ → List (List ℕ) → Option (List ℕ) → Option (List ℕ) → PerformError → Type 0
IsUnplaced number last rest remaining error.ReadFault = ⊥
IsUnplaced number last rest remaining error.WriteFault = ⊥
IsUnplaced number last rest remaining error.NetFault = last ≡ []
IsUnplaced number last rest remaining (error.BadInput line) = ⊥
IsUnplaced number last rest remaining error.TooMuch = ⊥
IsUnplaced number last rest remaining (error.Refused reply) = TellsRefusal reply last
IsUnplaced number last rest remaining (error.Dropped at) = ⊥
IsUnplaced number last rest remaining (error.BadPeer side line what) = (line ≡ number) × IsWrongReplyOn side what last rest
IsUnplaced number last rest remaining (error.LongRequest bytes) = ⊥
IsUnplaced number last rest remaining error.Memory = WantsAtLine longest_request last rest remaining

-- why a call stopped the up line: `front` of its line alone was written, or all of it, and no reply was read by which it was placed
abbrev pub FailedCall : ℕ → ℕ × Call → List ℕ → List (List ℕ) → Option (List ℕ) → Option (List ℕ) → PerformError → Type 0
FailedCall number pair front last rest remaining error =
    (IsUnwritten pair front error × (last ≡ [])) ⊎ ((front ≡ call_line pair) × IsUnplaced number last rest remaining error × FitsRequest pair)

-- a call's line was written, or the front of it, and why
abbrev pub WroteCall : ℕ × Call → Option (List ℕ) → Option (List ℕ) → Result (Unit {0}) PerformError → Type 0
WroteCall pair before now (Ok u) = (now ≡ at_end before (call_line pair)) × FitsRequest pair
WroteCall pair before now (Err error) = (front : List ℕ) × (now ≡ at_end before front) × IsUnwritten pair front error

-- the reply was read by which a call was placed, or why not
abbrev pub ReadsReply : ℕ → Option (List ℕ) → Option (List ℕ) → Option (List ℕ) → Result Placing PerformError → Type 0
ReadsReply number told after remaining (Ok placing) = (line : List ℕ) × GaveLines told (line ∷ []) after × TellsPlacing placing line
ReadsReply number told after remaining (Err error) =
    (last : List (List ℕ)) × (rest : Option (List ℕ)) × GaveLines told last rest × IsHeldBack rest remaining × IsUnplaced number last rest remaining error

-- one call: its line was written, and the reply was read by which it was placed; or why not; where the read failed no line had come whole, and the reader, which was
-- in this state, went on
abbrev pub SentCall : ℕ → ℕ × Call → State → Option (List ℕ) → Option (List ℕ) → Option (List ℕ) → Option (List ℕ) → Option (List ℕ) → Result Placing PerformError → Type 0
SentCall number pair was told after remaining before now (Ok placing) =
    (line : List ℕ) × GaveLines told (line ∷ []) after × TellsPlacing placing line × (now ≡ at_end before (call_line pair)) × FitsRequest pair
SentCall number pair was told after remaining before now (Err e) = (front : List ℕ) × (last : List (List ℕ)) × (rest : Option (List ℕ)) × GaveLines told last rest
    × IsHeldBack rest remaining × (now ≡ at_end before front) × FailedCall number pair front last rest remaining e
    × (e ≡ error.NetFault → front ≡ call_line pair → FailsBare was told remaining)

-- ---- the whole line

-- an act by which a call goes out
abbrev pub IsNextAct : PlacedAct → Type 0
IsNextAct r = r.1 ≡ act.Next

-- why it stopped. With no error nothing more goes out; with one, a call that went out has no reply by which it was placed, or memory was wanting where one
-- would go out
abbrev pub UpEnds : Origin → List PlacedAct → ℕ → List (ℕ × Call) → List ℕ → List (List ℕ) → Option (List ℕ) → Option (List ℕ) → Option PerformError → Type 0
UpEnds o seen number lost front last rest remaining None = (lost ≡ []) × (front ≡ []) × (last ≡ []) × (next_of (machine_at o seen) ≡ next.Done)
UpEnds o seen number lost front last rest remaining (Some e) =
    ((lost ≡ []) × (front ≡ []) × (last ≡ []) × (e ≡ error.Memory) × (accepts (machine_at o seen) act.Next ≡ true))
    ⊎ ((pair : ℕ × Call) × (lost ≡ pair ∷ []) × FailedCall number pair front last rest remaining e)

-- all that the up line did: the calls that its acts sent were written, each with its reply read, but perhaps the last, `lost`; where a read failed behind it, the replies
-- are all lines that had come whole
pub record SentUp (o : Origin) (end : Option PerformError) (told remaining before now : Option (List ℕ)) (s t : SeatValue PlacedAct Origin) : Type 0 where
  pub k : SeatMemory
  pub remembers : Remembers k t
  pub nexts : (own : List PlacedAct) × (t.own ≡ s.own ++ own) × AllOf IsNextAct own
  pub calls : List (ℕ × Call)
  pub lost : List (ℕ × Call)
  pub sent : sent_in (machine_at o []) k ≡ calls ++ lost
  pub fit : AllOf FitsRequest calls
  pub front : List ℕ
  pub written : now ≡ at_end before (call_lines calls ++ front)
  pub replies : List (List ℕ)
  pub last : List (List ℕ)
  pub rest : Option (List ℕ)
  pub gave : GaveLines told (replies ++ last) rest
  pub held : IsHeldBack rest remaining
  pub whole : end ≡ Some error.NetFault → front ≡ call_lines lost → IsCutOff told replies remaining
  pub placed : AllOf TellsPlaced replies
  pub even : length replies ≡ length calls
  pub ends : UpEnds o t.seen (number_behind 2 replies) lost front last rest remaining end
