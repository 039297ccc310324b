use Rattle.std.proofs.Common.{rules, refl}
use Rattle.seat_lock.proofs.Tickets.{draws}
use Rattle.seat_lock.proofs.steps.draw.Goals as goal

pub compare_exchange-requires : goal.compare_exchange-requires
compare_exchange-requires g c = (search rules, search rules, draws _ _ _ _ _ _ _ _ _ _ c.requires.idle.0 c.requires.idle.1 refl c.requires.below)
