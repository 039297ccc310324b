use Rattle.std.proofs.Common.{◌≡◌, ◌++◌, List}
use Rattle.troop_hall.specs.Seats.{IsDeskSeat, IsLater}
use Rattle.link_queue.specs.Balance.{whole}
use Rattle.server_crew.specs.Shifts.{IsShift}
use Rattle.server_crew.proofs.closing.sweep.Given as goal

-- what was served of what was left
abbrev pub invariant-loop : goal.invariant-loop
invariant-loop g l = record {
  seat : IsDeskSeat l.hall l.shift.seat × IsLater l.initial.shift.seat l.shift.seat;
  queue : (l.end.queue ≡ l.queue.table) × (l.end.parts ≡ whole) × (l.end.put ≡ l.initial.end.put);
  served : (taken : List g.row.L.Denot) × (l.end.taken ≡ l.initial.end.taken ++ taken) × IsShift g.L.Source.remaining g.L.Sink.taken g.L.Source.faults g.L.Source.closed l.shift taken;
}
