use Rattle.std.proofs.Common.{rules}
use Rattle.wire_print.specs.Printed.{printed_text}
use Rattle.wire_print.proofs.line.print_value.Goals as goal

pub returns : goal.returns
unfolding printed_text
returns c = search rules
