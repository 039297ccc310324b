use Rattle.std.proofs.Common.{rules, ◌≡◌, ◌<◌, ◌+◌, length, get_or, ap, sym, ◌∙◌, subst, arith}
use Rattle.ot_text.specs.Marked.{Marked}
use Rattle.troop_entry.specs.Told.{op_told}
use Rattle.log_model.specs.Log.{doc_after}
use Rattle.log_model.specs.Legal.{OpFits}
use Rattle.session.proofs.AreEntries.{entry_fits, doc_next}
use Rattle.session.proofs.snap.doc_of.Goals as goal

pub put-requires : goal.put-requires
put-requires c =
    let es = c.args.entries.now in
    let e = c.entry-item.result in
    let i = c.loop-entry.entry-index in
    let within : i < length es = search rules in
    let is : e ≡ get_or es i e = search rules in
    subst (λ (m : Marked). OpFits (op_told e.deed) (length m)) (sym c.loop-entry.invariant) (entry_fits es c.requires i e within is)

pub loop-entry-preserved : goal.loop-entry-preserved
loop-entry-preserved c =
    let es = c.args.entries.now in
    let e = c.entry-item.result in
    let i = c.loop-entry.entry-index in
    let within : i < length es = search rules in
    let is : e ≡ get_or es i e = search rules in
    c.in_ok-put.ensures ∙ (ap (doc_after e.who (op_told e.deed)) c.loop-entry.invariant ∙ sym (doc_next es c.requires i e within is (i + 1) (omega arith)))
