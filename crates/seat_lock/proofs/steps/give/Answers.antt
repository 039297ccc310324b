use Rattle.std.proofs.Common.{rules}
use Rattle.seat_lock.proofs.Book.{gives}
use Rattle.seat_lock.proofs.steps.give.Goals as goal

pub split_seat-requires : goal.split_seat-requires
split_seat-requires g c = let h = c.requires.giving in (search rules, search rules, gives _ _ _ _ _ _ _ h.2.0 h.0 h.1 h.2.1)
