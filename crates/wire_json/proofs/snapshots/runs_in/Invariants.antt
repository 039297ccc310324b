use Rattle.std.proofs.Common.{◌≡◌, map, drop}
use Rattle.serde_json.specs.View.{view}
use Rattle.wire_json.specs.Building.{pair_of}
use Rattle.wire_json.specs.Snapshots.{runs_of_list}
use Rattle.wire_json.proofs.RunsOfList.{in_front}
use Rattle.wire_json.proofs.snapshots.runs_in.Given as goal

-- the runs so far, and then those of the rest, are all
abbrev pub invariant-loop-item : goal.invariant-loop-item
invariant-loop-item l = runs_of_list (map view l.items) ≡ in_front (map pair_of l.runs.items) (runs_of_list (map view (drop l.item-index l.items)))
