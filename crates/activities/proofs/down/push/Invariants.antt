use Rattle.std.proofs.Common.{◌≡◌}
use Rattle.block_queue.specs.Values.{IsEndOf}
use Rattle.activities.proofs.down.push.Given as goal

abbrev pub invariant-loop : goal.invariant-loop
invariant-loop g l = IsEndOf l.queue l.feeder × (l.feeder.items ≡ l.initial.feeder.items) × (l.item ≡ l.initial.item)
