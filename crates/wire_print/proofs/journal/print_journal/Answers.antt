use Rattle.wire_print.proofs.HasFloat.{journal_has_none}
use Rattle.wire_print.proofs.journal.print_journal.Goals as goal

pub print_value-requires : goal.print_value-requires
print_value-requires c = rw c.in_ok-value.ensures (journal_has_none c.args.who c.args.notes.now)
