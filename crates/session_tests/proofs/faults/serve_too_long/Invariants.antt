use Rattle.troop_hall.specs.Seats.{IsDeskSeat}
use Rattle.session_tests.proofs.faults.serve_too_long.Given as goal

abbrev pub invariant-loop-row : goal.invariant-loop-row
invariant-loop-row g l = IsDeskSeat l.hall l.seat
