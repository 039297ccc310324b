use Rattle.wire_print.proofs.HasFloat.{snapshot_has_none}
use Rattle.wire_print.proofs.PrintedText.{on_ok}
use Rattle.wire_print.proofs.SnapshotOfLine.{snapshot_back, doc_spelled}
use Rattle.wire_print.proofs.documents.print_snapshot.Goals as goal

pub print_value-requires : goal.print_value-requires
print_value-requires c = rw c.in_ok-value.ensures.value (snapshot_has_none c.args.at c.args.doc.now.pairs)

pub returns-clause-reads_back : goal.returns-clause-reads_back
returns-clause-reads_back c = on_ok c.print_value.result _ (snapshot_back c.args.at c.args.doc.now.pairs (doc_spelled c.args.doc.now.pairs c.in_ok-value.ensures.text c.in_ok-value.ensures.marks))
