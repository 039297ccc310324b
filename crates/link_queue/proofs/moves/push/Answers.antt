use Rattle.std.proofs.Common.{sym, subst, ◌<◌}
use Rattle.link_queue.proofs.Balanced.{puts}
use Rattle.link_queue.proofs.moves.push.Goals as goal

pub try_push_as-requires-clause-rule : goal.try_push_as-requires-clause-rule
try_push_as-requires-clause-rule g c = puts _ _ _ _ _ (subst (λ v. 0 < v.parts) (sym c.loop.invariant.same) c.requires.part) (rw c.loop.invariant.item c.requires.is_open)
