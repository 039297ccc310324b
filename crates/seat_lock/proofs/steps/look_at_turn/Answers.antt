use Rattle.std.proofs.Common.{rules}
use Rattle.seat_lock.proofs.Tickets.{turns}
use Rattle.seat_lock.proofs.steps.look_at_turn.Goals as goal

pub load-requires : goal.load-requires
load-requires g c = (search rules, search rules, turns _ _ _ _ _ _ _ _ c.requires.waiting.1.0 c.requires.waiting.0 c.requires.waiting.1.1)
