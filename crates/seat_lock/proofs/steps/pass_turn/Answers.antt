use Rattle.std.proofs.Common.{rules}
use Rattle.seat_lock.proofs.Tickets.{passes}
use Rattle.seat_lock.proofs.steps.pass_turn.Goals as goal

pub fetch_add-requires : goal.fetch_add-requires
fetch_add-requires g c = let h = c.requires.held in (search rules, search rules, passes _ _ _ _ _ _ _ _ c.requires.turn.1.0 h.0 c.requires.turn.0 c.requires.turn.1.1 h.1 h.2 h.3)
