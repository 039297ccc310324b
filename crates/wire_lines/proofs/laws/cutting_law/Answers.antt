use Rattle.wire_lines.proofs.IsNextLine.{for_every_cutting}
use Rattle.wire_lines.proofs.laws.cutting_law.Goals as goal

pub returns : goal.returns
returns c = for_every_cutting
