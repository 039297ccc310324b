use Rattle.troop_hall.specs.Seats.{IsDeskSeat}
use Rattle.session_tests.proofs.evenings.serve_all.Given as goal

abbrev pub invariant-loop-dialled : goal.invariant-loop-dialled
invariant-loop-dialled g l = IsDeskSeat l.hall l.seat
