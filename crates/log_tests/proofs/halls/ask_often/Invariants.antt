use Rattle.troop_hall.specs.Seats.{IsDeskSeat}
use Rattle.log_tests.proofs.halls.ask_often.Given as goal

abbrev pub invariant-loop : goal.invariant-loop
invariant-loop g l = IsDeskSeat l.hall l.seat
