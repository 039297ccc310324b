use Rattle.std.proofs.Common.{◌≡◌}
use Rattle.activities.specs.Memory.{KeepsSeat}
use Rattle.activities.proofs.asking.wait_until.Given as goal

abbrev pub invariant-loop : goal.invariant-loop
invariant-loop g l = KeepsSeat l.hall l.initial.seat l.seat × (l.seat.own ≡ l.initial.seat.own)
