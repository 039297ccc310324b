use Rattle.std.proofs.Common.{◌∙◌, arith}
use Rattle.ot_transform.proofs.ComposedSoFar.{part_room, part_composed, composed_at_end}
use Rattle.ot_transform.proofs.composite.compose.Goals as goal

pub add_part-requires : goal.add_part-requires
add_part-requires c =
    let short_a = c.parts-part-items.ensures.short in
    let short_b = c.parts.ensures.short in
    part_room _ c.loop-part.part-index _ _ _ _ (omega arith) c.part-item.is short_a.base_fits short_b.target_fits
    c.loop-part.invariant

pub loop-part-preserved : goal.loop-part-preserved
loop-part-preserved c =
    part_composed _ c.loop-part.part-index _ _ _ _ _ (omega arith) c.part-item.is c.loop-part.invariant
    c.in_ok-add_part.ensures

pub returns : goal.returns
returns c =
    let last = c.in_ok-put_text.ensures in
    c.finish.ensures
    ∙ composed_at_end _ c.loop-part.part-index _ _ _ _ (omega arith) c.loop-part.invariant
    last.goes_on last.none_left last.normal
