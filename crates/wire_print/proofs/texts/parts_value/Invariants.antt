use Rattle.std.proofs.Common.{◌≡◌, map, take, All}
use Rattle.serde_json.specs.View.{view}
use Rattle.wire_print.specs.Printed.{part_data}
use Rattle.wire_print.specs.Within.{PartIsSpelled}
use Rattle.wire_print.proofs.texts.parts_value.Given as goal

-- the values of the parts so far
abbrev pub invariant-loop-part : goal.invariant-loop-part
invariant-loop-part l = record {
  values : map view l.items.items ≡ map part_data (take l.part-index l.parts);
  spelled : All PartIsSpelled (take l.part-index l.parts);
}
