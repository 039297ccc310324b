-- What a server did with a door's links, and what became of its log.
use Rattle.std.specs.Prelude.{◌≡◌, ◌≢◌, ◌⊎◌, ℕ, ◌+◌, ◌<◌, ◌≤◌, List, [], ◌∷◌, ◌++◌, length, map, flat_map, Bool, Option, option_map, Result, Ok, Err}
use Rattle.seat_lock.specs.Lists.{AllOf, IsIn, rows_of}
use Rattle.troop_entry.specs.declared.row.Row.{Row}
use Rattle.log_model.specs.Legal.{IsLegal}
use Rattle.troop_ports.specs.Faults.{Counted}
use Rattle.link_queue.specs.Balance.{weigh}
use Rattle.server_crew.specs.declared.serve_error.ServeError.{ServeError}
use Rattle.server_crew.specs.declared.serve_error.ServeError.TheVariants as error
use Rattle.server_crew.specs.Accepting.{IsWithinAsked}
use Rattle.server_crew.specs.Shifts.{ServedLink, taken_links, returned_links, gained_rows, IsServedLink}

-- a worker's seat by its number, and the links that it served, in order
pub record Hand (L : Type 0) : Type 0 where
  pub number : ℕ
  pub served : List (ServedLink L)

-- no two of these numbers are the same
abbrev pub AreDifferent : List ℕ → Type 0
AreDifferent [] = Unit {0}
AreDifferent (n ∷ ns) = AllOf (λ k. k ≢ n) ns × AreDifferent ns

module _ {L : Type 0} where
  -- the links as these workers took them, worker by worker
  abbrev pub taken_by : List (Hand L) → List L
  taken_by hands = flat_map (λ (h : Hand L). taken_links h.served) hands

  -- the links as they came out of their sessions, worker by worker
  abbrev pub returned_by : List (Hand L) → List L
  returned_by hands = flat_map (λ (h : Hand L). returned_links h.served) hands

module _ {L : Type 0} (remaining written : L → Option (List ℕ)) (faults : L → ℕ) (closed : L → Bool) where
  -- Each of these workers' links was served as a session says, with this log. No two workers have the same number, the rows with a worker's
  -- number are what its links' sessions gained, in order, and there are no others.
  pub record IsCrewOf (log : List Row) (hands : List (Hand L)) : Type 0 where
    pub served : AllOf (λ (h : Hand L). AllOf (IsServedLink remaining written faults closed h.number log) h.served) hands
    pub apart : AreDifferent (map (λ (h : Hand L). h.number) hands)
    pub own : AllOf (λ (h : Hand L). rows_of (λ (r : Row). r.seat) h.number log ≡ gained_rows h.served) hands
    pub every : AllOf (λ (r : Row). IsIn r.seat (map (λ (h : Hand L). h.number) hands)) log

  -- These links were taken from a door, and workers served each of them once, with this log; then they came back, worker by worker.
  -- 'Each of them once' is said by weights: however links are weighed, those taken and those served weigh the same.
  pub record IsRun (taken : List L) (log : List Row) (links links' retired retired' : Option (List L)) : Type 0 where
    pub hands : List (Hand L)
    pub from : links ≡ option_map (λ others. taken ++ others) links'
    pub crew : IsCrewOf log hands
    pub once : (f : L → ℕ) → weigh f taken ≡ weigh f (taken_by hands)
    pub back : retired' ≡ option_map (λ others. others ++ returned_by hands) retired

  -- Workers served each of the links taken once, with this log, and the links that came back are among those that came out of these sessions. Both are said by weights:
  -- however links are weighed, those that came back weigh no more than those that came out.
  pub record IsServedInPart (taken returned : List L) (log : List Row) : Type 0 where
    pub hands : List (Hand L)
    pub crew : IsCrewOf log hands
    pub once : (f : L → ℕ) → weigh f taken ≡ weigh f (taken_by hands)
    pub part : (f : L → ℕ) → weigh f returned ≤ weigh f (returned_by hands)

  -- These links were taken from a door, no more than were asked for, and workers served each of them once, with some legal log. Of those that came out of these sessions these
  -- came back to the door: fewer than were taken, and for each of the others a place is left over.
  pub record HasDropped (sessions : Option ℕ) (links links' retired retired' : Option (List L)) (places places' : ℕ) : Type 0 where
    pub taken : List L
    pub returned : List L
    pub log : List Row
    pub legal : IsLegal log
    pub served : IsServedInPart taken returned log
    pub from : links ≡ option_map (λ others. taken ++ others) links'
    pub within : IsWithinAsked sessions (length taken)
    pub back : retired' ≡ option_map (λ others. others ++ returned) retired
    pub fewer : length returned < length taken
    pub left : places' + length returned ≡ places + length taken

  -- Memory was wanting: to begin with, and then the door is as it was; or to keep a link, and then fewer links came back than were taken.
  abbrev pub HasWanted : Option ℕ → Option (List L) → Option (List L) → Option (List L) → Option (List L) → ℕ → ℕ → ℕ → ℕ → Type 0
  HasWanted sessions links links' retired retired' places places' count count' =
      ((links' ≡ links) × (retired' ≡ retired) × (places' ≡ places) × (count' ≡ count)) ⊎ HasDropped sessions links links' retired retired' places places'

-- a fault was counted at a door's fault, and none where the desk is handed out; the count has not fallen
abbrev pub CountsServe : {T : Type 0} → Result T ServeError → ℕ → ℕ → Type 0
CountsServe (Ok desk) before now = now ≡ before
CountsServe (Err error.DoorFault) before now = Counted before now
CountsServe (Err error.Memory) before now = before ≤ now

-- all that was taken came back, unless memory was wanting
abbrev pub KeepsPlaces : {T : Type 0} → Result T ServeError → ℕ → ℕ → Type 0
KeepsPlaces (Ok desk) before now = now ≡ before
KeepsPlaces (Err error.DoorFault) before now = now ≡ before
KeepsPlaces (Err error.Memory) before now = before ≤ now
