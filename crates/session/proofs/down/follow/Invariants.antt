use Rattle.std.proofs.Common.{◌≡◌, false}
use Rattle.log_model.specs.Legal.{IsLegal}
use Rattle.troop_hall.specs.Seats.{IsDeskSeat, IsLater}
use Rattle.session.specs.Shown.{InShow}
use Rattle.session.proofs.down.follow.Given as goal

abbrev pub invariant-loop : goal.invariant-loop
invariant-loop g l = record {
  hall : IsDeskSeat l.hall l.seat;
  later : IsLater l.initial.seat l.seat;
  legal : IsLegal l.seat.seen;
  own : l.seat.own ≡ l.initial.seat.own;
  show : InShow l.start l.who l.seat.seen l.next (g.L.Sink.taken l.initial.link) (g.L.Sink.taken l.link);
  remaining : g.L.Source.remaining l.link ≡ g.L.Source.remaining l.initial.link;
  count : g.L.Source.faults l.link ≡ g.L.Source.faults l.initial.link;
  still_open : g.L.Source.closed l.link ≡ false;
}
