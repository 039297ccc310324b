use Rattle.std.proofs.Common.{rules}
use Rattle.seat_lock.proofs.Book.{numbers}
use Rattle.seat_lock.proofs.steps.draw_number.Goals as goal

pub fetch_add-requires : goal.fetch_add-requires
fetch_add-requires g c = let h = c.requires.idle in (search rules, search rules, numbers _ _ _ _ _ _ _ _ h.0 h.1 h.2)
