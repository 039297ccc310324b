use Rattle.block_queue.proofs.IsInOrder.{pushes, rests}
use Rattle.block_queue.proofs.queue.Feeder.push.Goals as goal

pub push_as-requires-clause-rule : goal.push_as-requires-clause-rule
push_as-requires-clause-rule g c = (pushes _ _ _ _ c.self.invariant.1, rests _ _ c.self.invariant.1)
