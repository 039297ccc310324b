use Rattle.std.proofs.Common.{arith, ap, subst, map, ◌∙◌}
use Rattle.std.proofs.lemmas.List.Elements.{All-more}
use Rattle.std.proofs.lemmas.List.Sums.{get_or-le-sum_by}
use Rattle.serde_json.specs.View.{view}
use Rattle.serde_json.specs.Data.{array}
use Rattle.serde_json.proofs.Views.{view-Array}
use Rattle.ot_text.specs.Parts.{part_base}
use Rattle.wire_print.specs.Printed.{part_data}
use Rattle.wire_print.specs.Within.{PartIsSpelled}
use Rattle.wire_print.proofs.ItemsOf.{values_more, values_all}
use Rattle.wire_print.proofs.texts.parts_value.Goals as goal

pub part_value-requires : goal.part_value-requires
part_value-requires c =
    omega (arith, c.requires, ap part_base c.part-item.is, get_or-le-sum_by part_base c.args.parts.now c.loop-part.part-index c.part-item.result c.loop-part-test.true)

pub loop-part-preserved : goal.loop-part-preserved
loop-part-preserved c = record {
  values = ap (map view) c.in_ok-push.ensures.items ∙ values_more part_data c.loop-part.items.items c.in_ok-part_value.field-0 c.args.parts.now c.loop-part.part-index c.part-item.result c.part-item.result c.loop-part-test.true c.part-item.is c.loop-part.invariant.values c.in_ok-part_value.ensures.value;
  spelled = All-more PartIsSpelled c.args.parts.now c.loop-part.part-index c.part-item.result c.loop-part-test.true c.loop-part.invariant.spelled (subst PartIsSpelled c.part-item.is c.in_ok-part_value.ensures.spelled);
}

pub returns-clause-value : goal.returns-clause-value
returns-clause-value c = view-Array c.loop-part.items ∙ ap array (values_all part_data c.loop-part.items.items c.args.parts.now c.loop-part.part-index c.loop-part-test.false c.loop-part.invariant.values)
