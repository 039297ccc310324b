use Rattle.std.proofs.Common.{◌∙◌, arith}
use Rattle.troop_doc.proofs.ArePaired.{length-pairs, effect-pairs, length-effects}
use Rattle.troop_doc.proofs.doc.Doc.apply.Goals as goal

pub apply-requires-clause-base : goal.apply-requires-clause-base
apply-requires-clause-base c =
    let base_is = rw (← c.self.view_is) at c.requires.base in
    base_is ∙ length-pairs c.self.invariant

pub apply-requires-2-clause-base : goal.apply-requires-2-clause-base
apply-requires-2-clause-base c =
    let base_is = rw (← c.self.view_is) at c.requires.base in
    base_is ∙ length-pairs c.self.invariant ∙ c.self.invariant.even

pub invariant_of-self : goal.invariant_of-self
invariant_of-self c =
    let base_is = rw (← c.self.view_is) at c.requires.base in
    record {
      even = rw (c.apply.ensures.chars, c.apply-2.ensures) (length-effects c.self.invariant c.args.who c.args.op.now (base_is ∙ length-pairs c.self.invariant));
      chars_ready = omega arith;
      marks_ready = omega arith;
    }

pub returns : goal.returns
returns c = rw (c.apply.ensures.chars, c.apply-2.ensures, ← c.self.view_is) (effect-pairs c.self.invariant c.args.who c.args.op.now)
