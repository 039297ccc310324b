use Rattle.std.proofs.Common.{◌≡◌}
use Rattle.troop_hall.specs.Seats.{IsDeskSeat, IsLater}
use Rattle.jam_run.specs.Joins.{join_rows}
use Rattle.jam_run.proofs.joining.join_all.Given as goal

abbrev pub invariant-loop-joined : goal.invariant-loop-joined
invariant-loop-joined g l = record {
  hall : IsDeskSeat l.hall l.first;
  later : IsLater l.initial.first l.first;
  seen : l.first.seen ≡ join_rows l.joined;
  own : l.first.own ≡ join_rows l.joined;
}
