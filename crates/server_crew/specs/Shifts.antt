-- Links that were served, and the shifts in which they were.
use Rattle.std.specs.Prelude.{◌≡◌, ◌⊎◌, ℕ, ◌<◌, ◌≤◌, List, [], ◌∷◌, ◌++◌, length, map, flat_map, Option, Bool, true, false}
use Rattle.seat_lock.specs.Lists.{AllOf}
use Rattle.troop_entry.specs.declared.row.Row.{Row}
use Rattle.troop_ports.specs.Bytes.{in_front}
use Rattle.link_queue.specs.Balance.{weigh}
use Rattle.session.specs.declared.session_end.SessionEnd.{SessionEnd}
use Rattle.session.specs.Ends.{CountsEnd, wires}
use Rattle.session.specs.Sessions.{First, Session}
use Rattle.server_crew.specs.declared.shift.Shift.{Shift}

-- a link as it was taken from the door and as it came out of its session, and the rows that the session gained
pub record ServedLink (L : Type 0) : Type 0 where
  pub taken : L
  pub returned : L
  pub gained : List Row

module _ {L : Type 0} where
  -- the links as they were taken
  abbrev pub taken_links : List (ServedLink L) → List L
  taken_links served = map (λ (k : ServedLink L). k.taken) served

  -- the links as they came out of their sessions
  abbrev pub returned_links : List (ServedLink L) → List L
  returned_links served = map (λ (k : ServedLink L). k.returned) served

  -- the rows that their sessions gained
  abbrev pub gained_rows : List (ServedLink L) → List Row
  gained_rows served = flat_map (λ (k : ServedLink L). k.gained) served

  -- the links that these shifts keep, shift by shift
  abbrev pub all_links : List (Shift L) → List L
  all_links shifts = flat_map (λ (s : Shift L). s.links.items) shifts

  -- a link was lost in one of these shifts
  abbrev pub HaveLost : List (Shift L) → Type 0
  HaveLost [] = ⊥
  HaveLost (shift ∷ shifts) = (shift.is_spoiled ≡ true) ⊎ HaveLost shifts

module _ {L : Type 0} (remaining written : L → Option (List ℕ)) (faults : L → ℕ) (closed : L → Bool) where
  -- the link was served through a seat of this number: what was read of it and written, and the rows gained, are as a session of that seat
  -- says, with this log; it came out closed
  pub record IsServedLink (seat : ℕ) (log : List Row) (k : ServedLink L) : Type 0 where
    pub seen : List Row
    pub first : First
    pub end : SessionEnd
    pub held : List ℕ
    pub session : Session first seat seen log k.gained end (wires (remaining k.taken) (in_front held (remaining k.returned)) (remaining k.returned) (written k.taken) (written k.returned))
    pub count : CountsEnd end (faults k.taken) (faults k.returned)
    pub is_closed : closed k.returned ≡ true

  -- these links were served in the shift, in order: it keeps them, unless memory was wanting to keep one, which is then lost, and its seat's
  -- own rows are what their sessions gained
  pub record IsShift (shift : Shift L) (taken : List L) : Type 0 where
    pub served : List (ServedLink L)
    pub taken_are : taken_links served ≡ taken
    pub returned_are : shift.is_spoiled ≡ false → returned_links served ≡ shift.links.items
    pub part : (f : L → ℕ) → weigh f shift.links.items ≤ weigh f (returned_links served)
    pub few : length shift.links.items ≤ length taken
    pub lost : shift.is_spoiled ≡ true → length shift.links.items < length taken
    pub own : shift.seat.own ≡ gained_rows served
    pub sessions : AllOf (IsServedLink shift.seat.number shift.seat.seen) served

  -- the links were served in these shifts, one shift's behind another's
  abbrev pub AreShifts : List (Shift L) → List L → Type 0
  AreShifts [] taken = taken ≡ []
  AreShifts (shift ∷ shifts) taken = (mine : List L) × (others : List L) × (mine ++ others ≡ taken) × IsShift shift mine × AreShifts shifts others
