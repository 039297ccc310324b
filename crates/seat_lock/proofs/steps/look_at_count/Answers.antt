use Rattle.std.proofs.Common.{rules}
use Rattle.seat_lock.proofs.Book.{counts}
use Rattle.seat_lock.proofs.steps.look_at_count.Goals as goal

pub load-requires : goal.load-requires
load-requires g c = (search rules, search rules, counts _ _ _ _ _ _ _ _ c.requires.live)
