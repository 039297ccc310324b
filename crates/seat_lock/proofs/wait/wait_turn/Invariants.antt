use Rattle.std.proofs.Common.{◌≡◌}
use Rattle.seat_lock.specs.Sized.{IsSameSeat}
use Rattle.seat_lock.proofs.wait.wait_turn.Given as goal

abbrev pub invariant-loop : goal.invariant-loop
invariant-loop g l = IsSameSeat l.initial.inner l.inner × (l.inner.me ≡ l.initial.inner.me)
