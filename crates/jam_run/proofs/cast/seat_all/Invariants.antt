use Rattle.std.proofs.Common.{◌≡◌, length, All}
use Rattle.troop_hall.specs.Seats.{IsDeskSeat}
use Rattle.jam_run.specs.Playing.{IsSeated, AreNumbered, indexes_of}
use Rattle.jam_run.proofs.cast.seat_all.Given as goal

abbrev pub invariant-loop-seated : goal.invariant-loop-seated
invariant-loop-seated l = record {
  seat : IsDeskSeat l.hall l.first;
  same : (l.first.seen ≡ l.initial.first.seen) × (l.first.own ≡ l.initial.first.own) × (l.first.number ≡ l.initial.first.number) × (l.first.index ≡ l.initial.first.index);
  count : length l.players.items ≡ l.seated;
  seated : All (IsSeated l.hall) l.players.items;
  numbered : AreNumbered l.players.items;
  made : l.first.made ≡ indexes_of l.players.items;
}
