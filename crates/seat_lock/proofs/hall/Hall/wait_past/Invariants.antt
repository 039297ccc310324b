use Rattle.std.proofs.Common.{◌≡◌}
use Rattle.seat_lock.specs.Lists.{Begins}
use Rattle.seat_lock.specs.Values.{IsSeatOf}
use Rattle.seat_lock.proofs.hall.Hall.wait_past.Given as goal

abbrev pub invariant-loop : goal.invariant-loop
invariant-loop g l = IsSeatOf g.S.Played.rows g.S.Played.fixed l.self l.seat × Begins l.initial.seat.seen l.seat.seen
    × ((l.seat.number ≡ l.initial.seat.number) × (l.seat.index ≡ l.initial.seat.index))
    × ((l.seat.own ≡ l.initial.seat.own) × (l.seat.made ≡ l.initial.seat.made))
