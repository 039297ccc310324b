use Rattle.wire_print.proofs.PrintedText.{one_line}
use Rattle.wire_print.proofs.laws.one_line_law.Goals as goal

pub returns : goal.returns
returns c = one_line
