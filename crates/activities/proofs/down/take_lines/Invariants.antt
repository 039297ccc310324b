use Rattle.std.proofs.Common.{◌≡◌, false}
use Rattle.block_queue.specs.Values.{IsEndOf}
use Rattle.activities.specs.Down.{longest_entry}
use Rattle.activities.specs.Lines.{coming, MayRead, GoesWhole}
use Rattle.activities.specs.Memory.{KeepsSeat, origin_at}
use Rattle.activities.proofs.TookDown.{DownSoFar}
use Rattle.activities.proofs.down.take_lines.Given as goal

abbrev pub invariant-loop : goal.invariant-loop
invariant-loop g l = record {
  seat : KeepsSeat l.hall l.initial.seat l.seat;
  open_still : (g.L.Source.closed l.link ≡ false) × MayRead l.reader (g.L.Source.remaining l.link) × (l.reader.limit ≡ longest_entry);
  queue : IsEndOf l.queue l.feeder;
  down : DownSoFar (origin_at l.hall) (coming l.initial.reader (g.L.Source.remaining l.initial.link)) (coming l.reader (g.L.Source.remaining l.link)) l.initial.seat l.seat l.initial.feeder.items l.feeder.items l.number;
  whole : GoesWhole l.initial.reader (coming l.initial.reader (g.L.Source.remaining l.initial.link)) l.reader (coming l.reader (g.L.Source.remaining l.link));
  written : g.L.Source.taken_beside l.link ≡ g.L.Source.taken_beside l.initial.link;
  faults : g.L.Source.faults l.link ≡ g.L.Source.faults l.initial.link;
}
