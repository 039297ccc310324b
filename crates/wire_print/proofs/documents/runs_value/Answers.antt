use Rattle.std.proofs.Common.{refl, ap, map, get_or, ◌∙◌}
use Rattle.std.proofs.lemmas.List.Elements.{All-more}
use Rattle.serde_json.specs.View.{view}
use Rattle.serde_json.specs.Data.{array}
use Rattle.serde_json.proofs.Views.{view-Array}
use Rattle.author_marks.specs.declared.run.Run.{Run}
use Rattle.wire_print.specs.Printed.{run_data}
use Rattle.wire_print.specs.Within.{IsWho}
use Rattle.wire_print.proofs.ItemsOf.{values_more, values_all}
use Rattle.wire_print.proofs.documents.runs_value.Goals as goal

abbrev none : Run
none = record { who = 0; count = 0 }

pub loop-run-preserved : goal.loop-run-preserved
loop-run-preserved c = record {
  values = ap (map view) c.in_ok-push.ensures.items ∙ values_more run_data c.loop-run.items.items c.in_ok-run_value.field-0 c.args.runs.now c.loop-run.run-index none (get_or c.args.runs.now c.loop-run.run-index none) c.loop-run-test.true refl c.loop-run.invariant.values c.in_ok-run_value.ensures.value;
  numbers = All-more (λ run. IsWho run.who) c.args.runs.now c.loop-run.run-index none c.loop-run-test.true c.loop-run.invariant.numbers c.in_ok-run_value.ensures.number;
}

pub returns-clause-value : goal.returns-clause-value
returns-clause-value c = view-Array c.loop-run.items ∙ ap array (values_all run_data c.loop-run.items.items c.args.runs.now c.loop-run.run-index c.loop-run-test.false c.loop-run.invariant.values)
