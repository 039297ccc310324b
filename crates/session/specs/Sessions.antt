-- Whole sessions.
use Rattle.std.specs.Prelude.{◌≡◌, ◌⊎◌, ℕ, ◌≤◌, List, [], ◌∷◌, ◌++◌, length, Option, None, Some, IfSome}
use Rattle.troop_entry.specs.declared.call.Call.TheVariants as call
use Rattle.troop_entry.specs.declared.call.Request.{Request}
use Rattle.troop_entry.specs.declared.call.Request.TheVariants as request
use Rattle.troop_entry.specs.declared.row.Row.{Row}
use Rattle.troop_ports.specs.Bytes.{in_front}
use Rattle.troop_hall.specs.Seats.{DeskSeatValue}
use Rattle.wire_lines.specs.Lines.{lines, line_feed, HasNoFeed}
use Rattle.wire_json.specs.declared.replies.WireReply.TheVariants as wire
use Rattle.session.specs.declared.session_end.SessionEnd.{SessionEnd}
use Rattle.session.specs.declared.session_end.SessionEnd.TheVariants as ends
use Rattle.session.specs.declared.opening.Opening.TheVariants as opening
use Rattle.session.specs.declared.service.Service.{Service}
use Rattle.session.specs.declared.service.Service.TheVariants as service
use Rattle.session.specs.Printed.{request_of, reply_line}
use Rattle.session.specs.Ends.{Wires, Wrote}
use Rattle.session.specs.UpLines.{EndsTalk, CameWhole, IsIdle, UpLine}
use Rattle.session.specs.DownLines.{DownLine, SnapLine}

-- how many bytes a line may have, without its line feed
abbrev pub line_limit : ℕ
line_limit = 1048576

-- the service that a first line asks for, if for any
abbrev pub service_asked : Option Request → Option Service
service_asked None = None
service_asked (Some (request.Call num (call.Join name lang))) = Some (service.Up (opening.Join name lang))
service_asked (Some (request.Call num call.Leave)) = None
service_asked (Some (request.Call num (call.Edit seen op))) = None
service_asked (Some (request.Call num (call.Eval seen text))) = None
service_asked (Some (request.Call num (call.Reset seen text))) = None
service_asked (Some (request.Stay name lang)) = Some (service.Up (opening.Stay name lang))
service_asked (Some (request.Back who)) = Some (service.Up (opening.Back who))
service_asked (Some (request.Down start who)) = Some (service.Down start who)
service_asked (Some (request.Snap who)) = Some (service.Snap who)

-- a reply was written, no row gained and nothing read
pub record IsRefused (so : SessionEnd) (bytes : List ℕ) (gained : List Row) (end : SessionEnd) (w : Wires) : Type 0 where
  pub none : gained ≡ []
  pub wrote : Wrote so end bytes w.taken_before w.taken_after

-- a down line, by which no row is gained and nothing read
pub record IsShown (gained : List Row) (w : Wires) (P : Option (List ℕ) → Option (List ℕ) → Type 0) : Type 0 where
  pub idle : IsIdle gained w
  pub line : P w.taken_before w.taken_after

-- the session that a first line opens, or its refusal
abbrev pub OpensSession : Option Service → ℕ → List Row → List Row → List Row → SessionEnd → Wires → Type 0
OpensSession None seat seen log gained end w = IsRefused (ends.Unfit 1) (reply_line (wire.Unfit 1)) gained end w
OpensSession (Some (service.Up opening)) seat seen log gained end w = UpLine line_limit seat opening seen log gained end w
OpensSession (Some (service.Down start who)) seat seen log gained end w = IsShown gained w (DownLine start who seen log end)
OpensSession (Some (service.Snap who)) seat seen log gained end w = IsShown gained w (SnapLine who seen log end)

-- what a session began with: a first line; no byte; a line over the limit; or a fault or want of memory
pub data First : Type 0 where
  Line : List ℕ → First
  Nothing : First
  Long : First
  Failure : First

-- the line has no line feed, and stands in front of one, behind which there are these bytes; or there is nothing behind it
abbrev pub IsCutAt : List ℕ → List ℕ → List ℕ → Type 0
IsCutAt line bytes rest = HasNoFeed line × ((bytes ≡ line ++ line_feed ∷ rest) ⊎ ((bytes ≡ line) × (rest ≡ [])))

-- behind the first line of the bytes there are these, where they are told
abbrev pub IsBehind : List ℕ → Option (List ℕ) → Option (List ℕ) → Type 0
IsBehind line before behind = IfSome before (λ bytes. (rest : List ℕ) × (behind ≡ Some rest) × (lines bytes ≡ line ∷ lines rest) × IsCutAt line bytes rest)

-- nothing was written, and no row gained
pub record IsSilent (gained : List Row) (w : Wires) : Type 0 where
  pub none : gained ≡ []
  pub unwritten : w.taken_after ≡ w.taken_before

-- a session with a first line: what that asks for, or memory was wanting to read it
pub record HasOpened (line : List ℕ) (seat : ℕ) (seen log gained : List Row) (end : SessionEnd) (w : Wires) : Type 0 where
  pub short : length line ≤ line_limit
  pub behind : Option (List ℕ)
  pub first : IsBehind line w.left_before behind
  pub opens : OpensSession (service_asked (request_of line)) seat seen log gained end (record w { left_before = behind }) ⊎ ((end ≡ ends.Memory) × IsSilent gained w)

-- A session of a seat of this number, which had seen these rows, said of a later log, in which it gained these
abbrev pub Session : First → ℕ → List Row → List Row → List Row → SessionEnd → Wires → Type 0
Session (Line line) seat seen log gained end w = HasOpened line seat seen log gained end w
Session Nothing seat seen log gained end w = IfSome w.left_before (λ bytes. bytes ≡ []) × (end ≡ ends.Left) × IsSilent gained w
Session Long seat seen log gained end w = IfSome w.left_before (EndsTalk line_limit) × IsRefused (ends.Long 1) (reply_line (wire.Long 1)) gained end w
Session Failure seat seen log gained end w = (((end ≡ ends.LinkFault) × CameWhole [] w) ⊎ (end ≡ ends.Memory)) × IsSilent gained w

-- what a session says behind its first line, or memory was wanting to read it
pub record OpensBehind (line : List ℕ) (s t : DeskSeatValue) (end : SessionEnd) (w : Wires) : Type 0 where
  pub gained : List Row
  pub own : t.own ≡ s.own ++ gained
  pub opens : OpensSession (service_asked (request_of line)) s.number s.seen t.seen gained end w ⊎ ((end ≡ ends.Memory) × IsSilent gained w)

-- what a whole session says of its seat and its link
pub record HasServed (s t : DeskSeatValue) (end : SessionEnd) (left_before left_after taken_before taken_after : Option (List ℕ)) : Type 0 where
  pub first : First
  pub gained : List Row
  -- what was read and stands in no line that was looked at
  pub held : List ℕ
  pub own : t.own ≡ s.own ++ gained
  pub session : Session first s.number s.seen t.seen gained end (record { left_before = left_before; left_after = in_front held left_after; rest = left_after; taken_before = taken_before; taken_after = taken_after })
