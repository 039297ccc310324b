use Rattle.std.proofs.Common.{rules}
use Rattle.block_queue.proofs.IsInOrder.{merges}
use Rattle.block_queue.proofs.queue.Taker.take_in.Goals as goal

pub absorb-requires-clause-rule : goal.absorb-requires-clause-rule
absorb-requires-clause-rule g c = merges _ _ _ _ (search rules) (search rules)
