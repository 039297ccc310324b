use Rattle.wire_print.proofs.HasFloat.{entry_has_none}
use Rattle.wire_print.proofs.PrintedText.{on_ok}
use Rattle.wire_print.proofs.EntryOfLine.{entry_back}
use Rattle.wire_print.proofs.entries.print_entry.Goals as goal

pub print_value-requires : goal.print_value-requires
print_value-requires c = rw c.in_ok-value.ensures.value (entry_has_none c.args.entry.now)

pub returns-clause-reads_back : goal.returns-clause-reads_back
returns-clause-reads_back c = on_ok c.print_value.result _ (entry_back c.args.entry.now c.in_ok-value.ensures.who c.in_ok-value.ensures.spelled)
