use Rattle.std.proofs.Common.{◌≡◌, ◌+◌, suc, [], length, take, ap, sym, ◌∙◌, arith}
use Rattle.std.proofs.lemmas.List.{length-take-le}
use Rattle.seat_lock.proofs.Begins.{begins_length}
use Rattle.log_model.specs.Log.{doc, entries}
use Rattle.log_model.specs.Told.{doc_told}
use Rattle.troop_hall.proofs.Entries.{length-entries}
use Rattle.troop_hall.proofs.IfOk.{if_ok}
use Rattle.session.proofs.AreEntries.{entries_front, doc_of_front}
use Rattle.session.proofs.snap.doc_behind.Goals as goal

pub slice_bounds-doc_of-end : goal.slice_bounds-doc_of-end
slice_bounds-doc_of-end g c =
    let seen = c.entries.new.seat.seen in
    let same : c.deref.result.now ≡ entries seen = c.deref.ensures.value ∙ c.in_ok-found.ensures.entries in
    let count = length-entries seen in
    let all = ap length same in
    let grown = begins_length c.args.seat.now.seen seen c.entries.ensures.hall.1.seen in
    let within = c.requires.within in
    sym (length-take-le (c.args.at + 1) c.deref.result.now (omega (arith, count, all, grown, within)))

pub doc_of-requires : goal.doc_of-requires
doc_of-requires g c =
    let seen = c.entries.new.seat.seen in
    let same : c.deref.result.now ≡ entries seen = c.deref.ensures.value ∙ c.in_ok-found.ensures.entries in
    entries_front (c.args.at + 1) seen _ c.entries.ensures.legal (ap (take (c.args.at + 1)) same)

pub returns-clause-doc : goal.returns-clause-doc
returns-clause-doc g c =
    let seen = c.entries.new.seat.seen in
    let same : c.deref.result.now ≡ entries seen = c.deref.ensures.value ∙ c.in_ok-found.ensures.entries in
    let next : c.args.at + 1 ≡ suc c.args.at = omega arith in
    let is : doc_told [] (take (c.args.at + 1) c.deref.result.now) ≡ doc (take (suc c.args.at) seen) =
    ap (λ l. doc_told [] (take (c.args.at + 1) l)) same ∙ (ap (λ k. doc_told [] (take k (entries seen))) next ∙ doc_of_front (suc c.args.at) seen c.entries.ensures.legal) in
    if_ok c.doc_of.result _ _ (λ d made. made ∙ is) c.doc_of.ensures
