use Rattle.std.proofs.Common.{◌≡◌, ◌++◌, map, vec_len}
use Rattle.seat_lock.specs.Sized.{IsSameSeat}
use Rattle.seat_lock.specs.Lists.{AllOf}
use Rattle.seat_lock.specs.Told.{with_others}
use Rattle.seat_lock.specs.Values.{card_of}
use Rattle.seat_lock.proofs.hall.join_all.Given as goal

abbrev pub invariant-loop-inner : goal.invariant-loop-inner
invariant-loop-inner g l = IsSameSeat l.initial.inner l.inner × (l.inner.me ≡ (with_others l.initial.inner.me.0 l.inner.me.0.others, l.initial.inner.me.1))
    × (l.inner.me.0.others ++ map card_of l.seats.items ≡ l.initial.inner.me.0.others ++ map card_of l.initial.seats.items)
    × AllOf (λ s. s.table ≡ l.board.shared.table_id) l.seats.items

abbrev pub decreases-loop-inner : goal.decreases-loop-inner
decreases-loop-inner g l = vec_len l.seats
