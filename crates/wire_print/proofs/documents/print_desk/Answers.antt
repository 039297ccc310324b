use Rattle.wire_print.proofs.HasFloat.{server_has_none}
use Rattle.wire_print.proofs.documents.print_desk.Goals as goal

pub print_value-requires : goal.print_value-requires
print_value-requires c = rw c.in_ok-value.ensures (server_has_none c.args.entries c.args.doc.now.pairs)
