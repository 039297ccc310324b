-- Workers at their queue.
use Rattle.std.specs.Prelude.{◌≡◌, ℕ, ◌+◌, ◌<◌, List, [], Bool, Option, length, slice_index_or, map, flat_map}
use Rattle.atomic_table.specs.Seated.{TableId}
use Rattle.troop_hall.specs.Seats.{DeskHallValue, IsDeskSeat}
use Rattle.server_crew.specs.declared.worker.Worker.{Worker}
use Rattle.server_crew.specs.Shifts.{IsShift}

module _ {L : Type 0} (remaining written : L → Option (List ℕ)) (faults : L → ℕ) (closed : L → Bool) (hall : DeskHallValue) (queue : TableId) where
  -- it has a seat of the hall and an end of the queue with one part, has put nothing, has made no
  -- seat, and has served the links that it took
  pub record IsAtWork (w : Worker L) : Type 0 where
    pub seat : IsDeskSeat hall w.shift.seat
    pub queue_is : w.end.queue ≡ queue
    pub part : w.end.parts ≡ 1
    pub put : w.end.put ≡ []
    pub made : w.shift.seat.made ≡ []
    pub shift : IsShift remaining written faults closed w.shift w.end.taken

module _ {L : Type 0} where
  -- the worker went on until it took a mark that no more links come, and then no further; its seat is the same, and it put no mark
  abbrev pub HasWorked : Worker L → Worker L → Type 0
  HasWorked v w = (w.shift.seat.index ≡ v.shift.seat.index) × (w.end.marks_taken ≡ v.end.marks_taken + 1) × (w.end.marks_put ≡ v.end.marks_put)

  -- each worker did
  abbrev pub HaveWorked : List (Worker L) → List (Worker L) → Type 0
  HaveWorked vs ws = (i : ℕ) (d : Worker L) → i < length vs → HasWorked (slice_index_or vs i d) (slice_index_or ws i d)

  -- which seats they have
  abbrev pub indexes : List (Worker L) → List ℕ
  indexes ws = map (λ (w : Worker L). w.shift.seat.index) ws

  -- the links that they took, worker by worker
  abbrev pub all_taken : List (Worker L) → List L
  all_taken ws = flat_map (λ (w : Worker L). w.end.taken) ws
