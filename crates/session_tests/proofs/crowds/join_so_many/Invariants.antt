use Rattle.troop_hall.specs.Seats.{IsDeskSeat}
use Rattle.session_tests.proofs.crowds.join_so_many.Given as goal

abbrev pub invariant-loop : goal.invariant-loop
invariant-loop g l = IsDeskSeat l.hall l.seat
