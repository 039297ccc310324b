use Rattle.std.proofs.Common.{◌≡◌, ◌<◌, ◌^◌, length, map, drop}
use Rattle.wire_json.specs.Building.{pair_of}
use Rattle.wire_json.specs.Snapshots.{marked_of}
use Rattle.wire_json.proofs.MarkedOf.{joined}
use Rattle.wire_json.proofs.snapshots.marked_doc.Given as goal

-- behind what was built so far comes what the runs and the text that remain give
abbrev pub invariant-loop-run : goal.invariant-loop-run
invariant-loop-run l = record {
  built : marked_of (map pair_of l.runs) l.text ≡ joined l.doc.pairs (marked_of (map pair_of (drop l.run-index l.runs)) l.rest);
  short : length l.rest < 2 ^ 61;
}
