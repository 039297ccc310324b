use Rattle.std.proofs.Common.{◌∙◌, sym}
use Rattle.troop_main.proofs.NumberUpto.{unread, read, above, within}
use Rattle.troop_main.proofs.words.read_number.Goals as goal

pub returns-in_default-clause-number : goal.returns-in_default-clause-number
returns-in_default-clause-number c = sym (unread c.args.most c.args.word.now c.requires (sym c.if-not-is_number.ensures) c.in_default.ensures.value.0)

pub returns-then-count-most-clause-number : goal.returns-then-count-most-clause-number
returns-then-count-most-clause-number c =
    sym (read c.args.most c.in-Ok.count c.args.word.now (sym c.if-not-is_number.ensures) c.in-Ok.ensures.value.0 ∙ above c.args.most c.in-Ok.count c.if-count-most.true)

pub returns-clause-number : goal.returns-clause-number
returns-clause-number c =
    sym (read c.args.most c.in-Ok.count c.args.word.now (sym c.if-not-is_number.ensures) c.in-Ok.ensures.value.0 ∙ within c.args.most c.in-Ok.count c.if-count-most.false)
