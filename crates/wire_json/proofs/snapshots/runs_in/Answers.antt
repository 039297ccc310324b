use Rattle.std.proofs.Common.{map, drop, ◌+◌}
use Rattle.serde_json.specs.View.{view}
use Rattle.wire_json.proofs.PartsOfList.{split_items}
use Rattle.wire_json.proofs.RunsOfList.{run_more}
use Rattle.wire_json.proofs.snapshots.runs_in.Goals as goal

pub loop-item-preserved : goal.loop-item-preserved
loop-item-preserved c =
    run_more (map view c.args.items.now) (map view (drop c.loop-item.item-index c.args.items.now)) (view c.item-item.result) (map view (drop (c.loop-item.item-index + 1) c.args.items.now)) c.loop-item.runs.items c.push.new.self.items c.in-Some.run' c.loop-item.invariant
    (split_items c.args.items.now c.loop-item.item-index c.item-item.result c.loop-item-test.true c.item-item.is) c.in-Some.ensures c.in_ok-push.ensures.items
