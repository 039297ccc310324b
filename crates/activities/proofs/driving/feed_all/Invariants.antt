use Rattle.std.proofs.Common.{◌≡◌, ◌++◌, false, List}
use Rattle.block_queue.specs.Values.{IsEndOf}
use Rattle.troop_entry.specs.declared.block.Block.{Block}
use Rattle.activities.specs.Driving.{told_driver, block_items, FedSome}
use Rattle.activities.proofs.driving.feed_all.Given as goal

abbrev pub invariant-loop : goal.invariant-loop
invariant-loop g l = IsEndOf l.queue l.taker × (l.driver.closed ≡ false)
    × ((blocks : List Block) × (l.taker.items ≡ l.initial.taker.items ++ block_items blocks)
    × FedSome l.starved blocks (told_driver g.H.Hatch.buried g.H.Hatch.faults g.H.C.Child.taken g.H.C.Child.faults l.initial.driver)
    (told_driver g.H.Hatch.buried g.H.Hatch.faults g.H.C.Child.taken g.H.C.Child.faults l.driver))
