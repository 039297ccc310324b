use Rattle.std.proofs.Common.{◌∙◌, ◌∷◌, [], sym, ap, arith}
use Rattle.troop_doc.specs.Blocks.{is_blank}
use Rattle.troop_doc.proofs.IsBlank.{blank_on, not_blank_on}
use Rattle.troop_doc.proofs.block.is_blank.Goals as goal

pub returns-then-not-is_blank_char : goal.returns-then-not-is_blank_char
returns-then-not-is_blank_char c =
    sym (not_blank_on c.args.text.now.chars c.args.start c.loop-place.place c.args.end (omega arith) c.loop-place-test.true c.requires.within
    (ap (λ x. is_blank (x ∷ [])) (sym c.at.ensures) ∙ sym c.is_blank_char.ensures ∙ c.if-not-is_blank_char.true))

pub loop-place-preserved : goal.loop-place-preserved
loop-place-preserved c =
    blank_on c.args.text.now.chars c.args.start c.loop-place.place (omega arith) (omega arith) c.loop-place.invariant
    (ap (λ x. is_blank (x ∷ [])) (sym c.at.ensures) ∙ sym c.is_blank_char.ensures ∙ c.if-not-is_blank_char.false)
