-- What a call of a desk's hall tells its seat.
use Rattle.std.specs.Prelude.{◌≡◌, ℕ, List, [], ◌∷◌, ◌++◌, if◌then◌else◌}
use Rattle.seat_lock.specs.Lists.{Begins}
use Rattle.seat_lock.specs.Values.{HallValue, SeatValue, IsSeatOf}
use Rattle.troop_entry.specs.declared.reply.Reply.{Reply}
use Rattle.troop_entry.specs.declared.row.Row.{Row}
use Rattle.log_model.specs.Answers.{answer, is_accepted, row_made, log_after}
use Rattle.revision_log.specs.declared.played.Ask.{Ask}

-- what a contract sees of a desk's hall
abbrev pub DeskHallValue : Type 0
DeskHallValue = HallValue (List Row)

-- what a contract sees of its seats
abbrev pub DeskSeatValue : Type 0
DeskSeatValue = SeatValue Row (Unit {0})

-- the seat is one of the hall
abbrev pub IsDeskSeat : DeskHallValue → DeskSeatValue → Type 0
IsDeskSeat hall seat = IsSeatOf (λ (log : List Row). log) (λ (_ : List Row). tt) hall seat

-- the same seat later: its number and the seats made through it are as they were, and what it had seen begins what it has seen
pub record IsLater (s t : DeskSeatValue) : Type 0 where
  pub number : t.number ≡ s.number
  pub index : t.index ≡ s.index
  pub made : t.made ≡ s.made
  pub seen : Begins s.seen t.seen

-- the rows that an ask through a seat of this number adds to a log: one, where it is accepted
abbrev pub rows_gained : List Row → ℕ → Ask → List Row
rows_gained log number ask = if is_accepted (answer log ask.who ask.num ask.call) then row_made log number ask.who ask.num ask.call ∷ [] else []

-- the reply is that of one thread at some log, which begins with what the seat had seen; an accepted call's row is added to that log, which is
-- then what the seat has seen, and to the seat's own
pub record IsAnswered (ask : Ask) (s : DeskSeatValue) (reply : Reply) (t : DeskSeatValue) : Type 0 where
  pub log : List Row
  pub begins : Begins s.seen log
  pub reply_is : reply ≡ answer log ask.who ask.num ask.call
  pub seen : t.seen ≡ log_after log s.number ask.who ask.num ask.call
  pub own : t.own ≡ s.own ++ rows_gained log s.number ask
