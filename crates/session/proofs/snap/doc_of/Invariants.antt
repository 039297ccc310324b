use Rattle.std.proofs.Common.{◌≡◌, [], take}
use Rattle.log_model.specs.Told.{doc_told}
use Rattle.session.proofs.snap.doc_of.Given as goal

abbrev pub invariant-loop-entry : goal.invariant-loop-entry
invariant-loop-entry l = l.doc.pairs ≡ doc_told [] (take l.entry-index l.entries)
