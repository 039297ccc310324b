use Rattle.std.proofs.Common.{rules}
use Rattle.seat_lock.proofs.Book.{publishes}
use Rattle.seat_lock.proofs.steps.publish.Goals as goal

pub fetch_add-requires : goal.fetch_add-requires
fetch_add-requires g c = let t = c.requires.turn in let h = c.requires.row in (search rules, search rules, publishes _ _ _ _ _ _ _ _ t.2.0 h.0 h.1 t.0 t.1 t.2.1 h.2 h.3 h.4 h.5 h.6)
