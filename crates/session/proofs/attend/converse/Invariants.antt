use Rattle.std.proofs.Common.{◌≡◌, false}
use Rattle.log_model.specs.Legal.{IsLegal}
use Rattle.troop_hall.specs.Seats.{IsDeskSeat}
use Rattle.session.specs.Ends.{ReadsOn, stream}
use Rattle.session.specs.Parts.{InTalk}
use Rattle.session.proofs.attend.converse.Given as goal

abbrev pub invariant-loop-number : goal.invariant-loop-number
invariant-loop-number g l = record {
  hall : IsDeskSeat l.hall l.seat;
  legal : IsLegal l.initial.seat.seen → IsLegal l.seat.seen;
  talk : InTalk l.initial.reader.limit l.who l.initial.seat l.seat (stream l.initial.reader (g.L.Source.remaining l.initial.link)) (stream l.reader (g.L.Source.remaining l.link)) (g.L.Sink.taken l.initial.link) (g.L.Sink.taken l.link) l.reader.state l.number;
  going : ReadsOn l.reader (g.L.Source.remaining l.link);
  limit : l.reader.limit ≡ l.initial.reader.limit;
  count : g.L.Source.faults l.link ≡ g.L.Source.faults l.initial.link;
  still_open : g.L.Source.closed l.link ≡ false;
}
