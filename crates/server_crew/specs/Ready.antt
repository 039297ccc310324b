-- A crew before and behind its run.
use Rattle.std.specs.Prelude.{◌≡◌, ℕ, ◌+◌, ◌<◌, List, [], length, Bool, Option, All, vec_len, vec_capacity}
use Rattle.std.specs.VecDeque.{deque_len, deque_capacity}
use Rattle.atomic_table.specs.Seated.{TableId}
use Rattle.link_queue.specs.Balance.{whole}
use Rattle.troop_hall.specs.Seats.{DeskHallValue, IsDeskSeat}
use Rattle.server_crew.specs.declared.crew.Crew.{Crew}
use Rattle.server_crew.specs.Workers.{IsAtWork, indexes}

module _ {L : Type 0} (remaining written : L → Option (List ℕ)) (faults : L → ℕ) (closed : L → Bool) (hall : DeskHallValue) (queue : TableId) where
  -- the crew's seats are all seats of the hall, its ends have all parts of the queue, these links were put in, and there is room for all
  -- shifts and all seats
  pub record IsCrewReady (links : List L) (crew : Crew L) : Type 0 where
    pub seat : IsDeskSeat hall crew.first
    pub index : crew.first.index ≡ 0
    pub own : crew.first.own ≡ []
    pub made : crew.first.made ≡ indexes crew.workers.items
    pub work : All (IsAtWork remaining written faults closed hall queue) crew.workers.items
    pub queue_is : crew.end.queue ≡ queue
    pub parts : crew.end.parts + length crew.workers.items ≡ whole
    pub part : 0 < crew.end.parts
    pub put : crew.end.put ≡ links
    pub taken : crew.end.taken ≡ []
    pub shifts : (crew.shifts.items ≡ []) × (deque_len crew.shifts ≡ 0) × (length crew.workers.items < deque_capacity crew.shifts)
    pub seats : (crew.seats.items ≡ []) × (vec_len crew.seats ≡ 0) × (length crew.workers.items < vec_capacity crew.seats)
