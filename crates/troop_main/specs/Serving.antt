-- The table of `serve`: what each outcome says of the net and of the output.
use Rattle.std.specs.Prelude.{◌≡◌, ℕ, ◌⊎◌, List, length, Bool, true, Option}
use Rattle.troop_entry.specs.declared.row.Row.{Row}
use Rattle.log_model.specs.Log.{doc}
use Rattle.log_model.specs.Legal.{IsLegal}
use Rattle.wire_print.specs.Printed.{printed_line, server_data}
use Rattle.troop_ports.specs.Faults.{Counted, AddsCount}
use Rattle.troop_ports.specs.Doors.{first_of, and_last}
use Rattle.troop_ports.specs.Nets.{Site, is_at}
use Rattle.server_crew.specs.Accepting.{HasEnough, IsWithinAsked}
use Rattle.server_crew.specs.Crews.{IsRun, HasWanted}
use Rattle.replay_run.specs.declared.outcome.Outcome.{Outcome}
use Rattle.replay_run.specs.declared.outcome.Outcome.TheVariants as outcome
use Rattle.replay_run.specs.Outcome.{code_of, error_line}
use Rattle.replay_run.specs.Ports.{Port, IsCalm, IsFaulted, Took, TookPrefix, Reported}

-- the line that a server prints of its closed log
abbrev pub server_line : List Row → List ℕ
server_line log = printed_line (server_data (length log) (doc log))

-- the input gave nothing, or the output took nothing
abbrev pub IsUntouched : Port → Type 0
IsUntouched port = port.after ≡ port.before

-- the address that a run asks a net for, and the one that is the net's before it, where it tells that; and what it tells of its doors, or of its links, before and after the
-- run: those that are left and those that came back, where it tells them; and its count of faults
pub record NetPort (X : Type 0) : Type 0 where
  pub asked : List ℕ
  pub site : Option Site
  pub left_before : Option (List X)
  pub left_after : Option (List X)
  pub back_before : Option (List X)
  pub back_after : Option (List X)
  pub faults_before : ℕ
  pub faults_after : ℕ

module _ {X : Type 0} where
  -- the port of an address, of a net's own, of what the net told before and after, and of its counts of faults
  abbrev pub net_port_of : List ℕ → Option Site → Option (List X) → Option (List X) → Option (List X) → Option (List X) → ℕ → ℕ → NetPort X
  net_port_of asked site left left' back back' faults faults' = record { asked = asked; site = site; left_before = left; left_after = left'; back_before = back; back_after = back'; faults_before = faults; faults_after = faults' }

  -- the address that was asked for is the net's, where the net tells its own
  abbrev pub IsAtSite : NetPort X → Type 0
  IsAtSite net = is_at net.site net.asked ≡ true

  -- the net counted a fault, and gave none
  abbrev pub GaveNone : NetPort X → Type 0
  GaveNone net = (net.left_after ≡ net.left_before) × (net.back_after ≡ net.back_before) × Counted net.faults_before net.faults_after

-- what can be told of doors and of the links that they give
pub record Telling (L D : Type 0) : Type 0 where
  pub remaining : L → Option (List ℕ)
  pub written : L → Option (List ℕ)
  pub link_faults : L → ℕ
  pub closed : L → Bool
  pub links : D → Option (List L)
  pub retired : D → Option (List L)
  pub places : D → ℕ
  pub door_faults : D → ℕ

module _ {L D : Type 0} (tells : Telling L D) where
  -- the net gave a door at the address that was asked for, and it came back as this other one; the net's count of faults rose by that of the door, and by no more
  pub record IsShut (given shut : D) (net : NetPort D) : Type 0 where
    pub at_site : IsAtSite net
    pub was_given : net.left_before ≡ first_of given net.left_after
    pub came_back : net.back_after ≡ and_last net.back_before shut
    pub count : AddsCount (tells.door_faults shut) net.faults_before net.faults_after

  -- from one door to the other, a server with this log served each of these links once
  pub record ServedDoor (given shut : D) (taken : List L) (log : List Row) : Type 0 where
    pub legal : IsLegal log
    pub run : IsRun tells.remaining tells.written tells.link_faults tells.closed taken log (tells.links given) (tells.links shut) (tells.retired given) (tells.retired shut)

  -- a door of the net was served, with no fault of the door, until so many links were taken or none was left; the closed log is this one
  pub record HasClosed (sessions : Option ℕ) (log : List Row) (net : NetPort D) : Type 0 where
    pub given : D
    pub shut : D
    pub taken : List L
    pub is_shut : IsShut given shut net
    pub served : ServedDoor given shut taken log
    pub enough : HasEnough sessions (length taken) (tells.links shut)
    pub calm : tells.door_faults shut ≡ tells.door_faults given

  -- a door of the net was served until it counted a fault, and no more links were taken than were asked for
  pub record HasBroken (sessions : Option ℕ) (net : NetPort D) : Type 0 where
    pub given : D
    pub shut : D
    pub taken : List L
    pub log : List Row
    pub is_shut : IsShut given shut net
    pub served : ServedDoor given shut taken log
    pub within : IsWithinAsked sessions (length taken)
    pub fault : Counted (tells.door_faults given) (tells.door_faults shut)

  -- a door of the net came back as it was, or its links were served and fewer came back than were taken, of which there were no more than were asked for,
  -- since memory was wanting
  pub record HasReturned (sessions : Option ℕ) (net : NetPort D) : Type 0 where
    pub given : D
    pub shut : D
    pub is_shut : IsShut given shut net
    pub wanted : HasWanted tells.remaining tells.written tells.link_faults tells.closed sessions (tells.links given) (tells.links shut) (tells.retired given) (tells.retired shut) (tells.places given) (tells.places shut) (tells.door_faults given) (tells.door_faults shut)

  -- memory was wanting to serve with, or to print the line of a closed log
  abbrev pub IsShortServed : Option ℕ → NetPort D → Type 0
  IsShortServed sessions net = HasReturned sessions net ⊎ ((log : List Row) × HasClosed sessions log net)

  -- The table: what each outcome says of the net and of the output.
  abbrev pub SaysServed : Option ℕ → Outcome → NetPort D → Port → Type 0
  SaysServed sessions outcome.Done net out = IsCalm out × (log : List Row) × HasClosed sessions log net × Took out (server_line log)
  SaysServed sessions outcome.Usage net out = ⊥
  SaysServed sessions outcome.Memory net out = IsCalm out × IsShortServed sessions net × IsUntouched out
  SaysServed sessions outcome.ReadFault net out = ⊥
  SaysServed sessions outcome.WriteFault net out = IsFaulted out × (log : List Row) × HasClosed sessions log net × TookPrefix out (server_line log)
  SaysServed sessions outcome.NetFault net out = IsCalm out × IsUntouched out × Counted net.faults_before net.faults_after × (GaveNone net ⊎ HasBroken sessions net)
  SaysServed sessions (outcome.BadLine n) net out = ⊥
  SaysServed sessions outcome.TooMuch net out = ⊥

  -- a run of `serve` that ended with this status
  pub record Serves (sessions : Option ℕ) (code : ℕ) (net : NetPort D) (out err : Port) : Type 0 where
    pub outcome : Outcome
    pub says : SaysServed sessions outcome net out
    pub code_is : code ≡ code_of outcome
    pub reported : Reported err (error_line outcome)

-- For private clauses: what printing the line of a closed log at the end says.
abbrev pub EndsServe : Outcome → List Row → Port → Type 0
EndsServe outcome.Done log out = IsCalm out × Took out (server_line log)
EndsServe outcome.Usage log out = ⊥
EndsServe outcome.Memory log out = IsCalm out × IsUntouched out
EndsServe outcome.ReadFault log out = ⊥
EndsServe outcome.WriteFault log out = IsFaulted out × TookPrefix out (server_line log)
EndsServe outcome.NetFault log out = ⊥
EndsServe (outcome.BadLine n) log out = ⊥
EndsServe outcome.TooMuch log out = ⊥
