use Rattle.std.proofs.Common.{rules}
use Rattle.seat_lock.proofs.JoinedView.{reveals}
use Rattle.seat_lock.proofs.steps.reveal.Goals as goal

pub load-requires : goal.load-requires
load-requires g c = (search rules, search rules, reveals _ _ _ _ _ _ _ _ c.requires.turn.0)
