use Rattle.std.proofs.Common.{◌≡◌, ◌++◌, ◌+◌, length, All}
use Rattle.troop_hall.specs.Seats.{IsDeskSeat}
use Rattle.server_crew.specs.Workers.{IsAtWork, indexes}
use Rattle.server_crew.proofs.hire.hire.Given as goal

-- what was made so far
abbrev pub invariant-loop-hired : goal.invariant-loop-hired
invariant-loop-hired g l = record {
  seat : IsDeskSeat l.hall l.first;
  same : (l.first.seen ≡ l.initial.first.seen) × (l.first.own ≡ l.initial.first.own) × (l.first.number ≡ l.initial.first.number) × (l.first.index ≡ l.initial.first.index);
  queue : (l.end.queue ≡ l.queue.table) × (l.end.put ≡ l.initial.end.put) × (l.end.taken ≡ l.initial.end.taken);
  parts : l.end.parts + l.hired ≡ l.initial.end.parts;
  count : length l.workers.items ≡ l.hired;
  workers : All (IsAtWork g.L.Source.remaining g.L.Sink.taken g.L.Source.faults g.L.Source.closed l.hall l.queue.table) l.workers.items;
  made : l.first.made ≡ l.initial.first.made ++ indexes l.workers.items;
}
