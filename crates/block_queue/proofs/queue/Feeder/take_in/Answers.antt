use Rattle.std.proofs.Common.{rules}
use Rattle.block_queue.proofs.IsInOrder.{merges_popper}
use Rattle.block_queue.proofs.queue.Feeder.take_in.Goals as goal

pub absorb-requires-clause-rule : goal.absorb-requires-clause-rule
absorb-requires-clause-rule g c = merges_popper _ _ _ _ (search rules) (search rules)
