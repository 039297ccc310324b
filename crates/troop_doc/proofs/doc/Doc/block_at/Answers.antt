use Rattle.std.proofs.Common.{refl, arith}
use Rattle.std.proofs.lemmas.Result.{err_from_is_err_and}
use Rattle.troop_doc.proofs.ArePaired.{length-pairs, text_of-pairs}
use Rattle.troop_doc.proofs.doc.Doc.block_at.Goals as goal

pub block_round-requires : goal.block_round-requires
block_round-requires c =
    let len_is = rw (← c.self.view_is) at c.len.ensures.value in
    omega (arith, len_is, length-pairs c.self.invariant)

pub returns-in-None-clause-value : goal.returns-in-None-clause-value
returns-in-None-clause-value c = rw (← c.self.view_is, text_of-pairs c.self.invariant) c.in-None.ensures.value

pub returns-in_ok-slice-in-Some-clause-value : goal.returns-in_ok-slice-in-Some-clause-value
returns-in_ok-slice-in-Some-clause-value c =
    rw (c.in_ok-slice-in-Some.ensures, ← c.self.view_is, text_of-pairs c.self.invariant) c.in-Some.ensures.value

pub returns-in_err-slice-in-Some-clause-err : goal.returns-in_err-slice-in-Some-clause-err
returns-in_err-slice-in-Some-clause-err c =
    let p = err_from_is_err_and c.from_residual.result c.from_residual.ensures.1 in
    rw (p.1, ← c.self.view_is, text_of-pairs c.self.invariant, ← c.in-Some.ensures.value) refl
