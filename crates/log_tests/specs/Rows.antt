-- What the tests' clauses say of the seats of a hall over a list.
use Rattle.std.specs.Prelude.{List}
use Rattle.seat_lock.specs.Values.{HallValue, SeatValue, IsSeatOf}

-- the seat is one of the hall, whose state is seen as its rows
abbrev pub IsSeatOfRows : {R : Type 0} → HallValue (List R) → SeatValue R (Unit {0}) → Type 0
IsSeatOfRows {R} h s = IsSeatOf (λ (rows : List R). rows) (λ (_ : List R). tt) h s
