use Rattle.std.proofs.Common.{sym, ◌∙◌}
use Rattle.wire_json.proofs.PartsOfList.{next, too_large, built_small, split_items}
use Rattle.wire_json.proofs.operations.read_parts.Goals as goal

pub put_part-requires : goal.put_part-requires
put_part-requires c = built_small _ _ _ c.loop-item.invariant

pub returns-then-not-branch : goal.returns-then-not-branch
returns-then-not-branch c =
    too_large _ _ _ _ c.loop-item.builder c.in-Some.part c.loop-item.invariant (split_items c.args.items.now c.loop-item.item-index c.item-item.result c.loop-item-test.true c.item-item.is) (sym c.in_ok-part.ensures ∙ c.in-Some.is) (sym c.if-not-branch.true ∙ c.in_ok-put_part.ensures.fits)

pub loop-item-preserved : goal.loop-item-preserved
loop-item-preserved c =
    next _ _ _ _ c.loop-item.builder _ c.in-Some.part c.loop-item.invariant (split_items c.args.items.now c.loop-item.item-index c.item-item.result c.loop-item-test.true c.item-item.is) (sym c.in_ok-part.ensures ∙ c.in-Some.is) (sym c.if-not-branch.false ∙ c.in_ok-put_part.ensures.fits) (c.in_ok-put_part.ensures.put c.if-not-branch.false)
