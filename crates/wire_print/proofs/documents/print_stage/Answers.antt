use Rattle.wire_print.proofs.HasFloat.{performer_has_none}
use Rattle.wire_print.proofs.documents.print_stage.Goals as goal

pub print_value-requires : goal.print_value-requires
print_value-requires c = rw c.in_ok-value.ensures (performer_has_none c.args.name.now c.args.who c.args.awaits c.args.taken c.args.doc.now.pairs)
