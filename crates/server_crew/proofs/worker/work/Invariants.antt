use Rattle.std.proofs.Common.{◌≡◌}
use Rattle.server_crew.specs.Workers.{IsAtWork}
use Rattle.server_crew.proofs.worker.work.Given as goal

abbrev pub invariant-loop : goal.invariant-loop
invariant-loop g l = record {
  work : IsAtWork g.L.Source.remaining g.L.Sink.taken g.L.Source.faults g.L.Source.closed l.hall l.queue.table l.worker;
  index : l.worker.shift.seat.index ≡ l.initial.worker.shift.seat.index;
  marks : (l.worker.end.marks_taken ≡ l.initial.worker.end.marks_taken) × (l.worker.end.marks_put ≡ l.initial.worker.end.marks_put);
}
