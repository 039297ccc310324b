use Rattle.std.proofs.Common.{map, drop}
use Rattle.serde_json.specs.View.{view}
use Rattle.wire_json.proofs.PartsOfList.{IsReadSoFar}
use Rattle.wire_json.proofs.operations.read_parts.Given as goal

-- the parts so far, and then those of the rest, are all
abbrev pub invariant-loop-item : goal.invariant-loop-item
invariant-loop-item l = IsReadSoFar (map view l.items) (map view (drop l.item-index l.items)) l.builder
