use Rattle.std.proofs.Common.{rules}
use Rattle.seat_lock.proofs.JoinedView.{joins}
use Rattle.seat_lock.proofs.steps.join.Goals as goal

pub join_seat-requires : goal.join_seat-requires
join_seat-requires g c = let h = c.requires.live in (search rules, search rules, h.2, search rules, joins _ _ _ _ _ _ _ _ _ h.0 h.1)
