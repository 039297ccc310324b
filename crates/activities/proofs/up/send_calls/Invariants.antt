use Rattle.std.proofs.Common.{◌≡◌, false}
use Rattle.activities.specs.Lines.{coming, MayRead, GoesWhole}
use Rattle.activities.specs.Memory.{KeepsSeat, origin_at}
use Rattle.activities.specs.Up.{longest_request}
use Rattle.activities.proofs.SentUp.{UpSoFar}
use Rattle.activities.proofs.up.send_calls.Given as goal

abbrev pub invariant-loop : goal.invariant-loop
invariant-loop g l = record {
  seat : KeepsSeat l.hall l.initial.seat l.seat;
  open_still : (g.L.Source.closed l.link ≡ false) × MayRead l.reader (g.L.Source.remaining l.link) × (l.reader.limit ≡ longest_request);
  up : UpSoFar (origin_at l.hall) (coming l.initial.reader (g.L.Source.remaining l.initial.link)) (coming l.reader (g.L.Source.remaining l.link))
      (g.L.Sink.taken l.initial.link) (g.L.Sink.taken l.link) l.initial.seat l.seat l.number;
  whole : GoesWhole l.initial.reader (coming l.initial.reader (g.L.Source.remaining l.initial.link)) l.reader (coming l.reader (g.L.Source.remaining l.link));
  faults : g.L.Source.faults l.link ≡ g.L.Source.faults l.initial.link;
}
