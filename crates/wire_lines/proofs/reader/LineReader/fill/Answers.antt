use Rattle.wire_lines.proofs.CountsFill.{counts_end}
use Rattle.wire_lines.proofs.reader.LineReader.fill.Goals as goal

pub returns-in-End-clause-cause : goal.returns-in-End-clause-cause
returns-in-End-clause-cause g c = counts_end c.finish.result _ _ _ _ _ c.finish.ensures.finishes c.finish.ensures.ended c.in-End.ensures.cause
