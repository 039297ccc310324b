use Rattle.std.proofs.Common.{sym, subst, ◌<◌}
use Rattle.link_queue.proofs.Balanced.{takes}
use Rattle.link_queue.proofs.moves.pop.Goals as goal

pub try_pop_as-requires-clause-rule : goal.try_pop_as-requires-clause-rule
try_pop_as-requires-clause-rule g c = takes _ _ _ (subst (λ v. 0 < v.parts) (sym c.loop.invariant.same) c.requires.part)
