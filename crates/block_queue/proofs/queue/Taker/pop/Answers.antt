use Rattle.block_queue.proofs.IsInOrder.{pops, if_wholes}
use Rattle.block_queue.proofs.queue.Taker.pop.Goals as goal

pub pop_as-item-requires-clause-rule : goal.pop_as-item-requires-clause-rule
pop_as-item-requires-clause-rule g c = (pops _ _ c.self.invariant.1, if_wholes _ _ c.self.invariant.1)
