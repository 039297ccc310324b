use Rattle.std.proofs.Common.{◌≡◌, map, take, All}
use Rattle.serde_json.specs.View.{view}
use Rattle.wire_print.specs.Printed.{run_data}
use Rattle.wire_print.specs.Within.{IsWho}
use Rattle.wire_print.proofs.documents.runs_value.Given as goal

-- the values of the runs so far, and their numbers
abbrev pub invariant-loop-run : goal.invariant-loop-run
invariant-loop-run l = record {
  values : map view l.items.items ≡ map run_data (take l.run-index l.runs);
  numbers : All (λ run. IsWho run.who) (take l.run-index l.runs);
}
