use Rattle.std.proofs.Common.{ap, sym, ◌∙◌, length, arith}
use Rattle.ot_text.specs.Change.{base, effect}
use Rattle.ot_text.specs.Marked.{char_by}
use Rattle.wire_json.proofs.MarkedOf.{built, target-retained, base-behind, effect-behind}
use Rattle.wire_json.proofs.snapshots.put_behind.Goals as goal

pub insert_chars-requires : goal.insert_chars-requires
insert_chars-requires c = omega (arith, target-retained _ _ c.len.result c.new-builder.ensures c.in_ok-retain.ensures.ok, c.len.ensures.short, c.requires)

pub reserve_for-requires : goal.reserve_for-requires
reserve_for-requires c =
    ap base (built c.finish-op.result _ _ _ c.len.result c.args.chars.now c.new-builder.ensures c.in_ok-retain.ensures.ok c.in_ok-insert_chars.ensures.ok c.finish-op.ensures)
    ∙ base-behind c.len.result c.args.chars.now ∙ c.len.ensures.value

pub apply-requires-clause-base : goal.apply-requires-clause-base
apply-requires-clause-base c =
    ap base (built c.finish-op.result _ _ _ c.len.result c.args.chars.now c.new-builder.ensures c.in_ok-retain.ensures.ok c.in_ok-insert_chars.ensures.ok c.finish-op.ensures)
    ∙ base-behind c.len.result c.args.chars.now ∙ c.len.ensures.value ∙ ap length (sym c.in_ok-reserve_for.ensures.pairs)

pub returns : goal.returns
returns c =
    c.apply.ensures ∙ ap (effect (char_by c.args.who) c.finish-op.result) c.in_ok-reserve_for.ensures.pairs
    ∙ ap (λ o. effect (char_by c.args.who) o c.args.doc.now.pairs) (built c.finish-op.result _ _ _ c.len.result c.args.chars.now c.new-builder.ensures c.in_ok-retain.ensures.ok c.in_ok-insert_chars.ensures.ok c.finish-op.ensures)
    ∙ effect-behind c.args.who c.len.result c.args.chars.now c.args.doc.now.pairs c.len.ensures.value
