use Rattle.activities.proofs.TellsLine.{tells, counts}
use Rattle.activities.proofs.IsCutOff.{tells_whole}
use Rattle.activities.proofs.reading.next_line.Goals as goal

pub returns-clause-line : goal.returns-clause-line
returns-clause-line g c = tells c.next.result _ _ _ _ c.requires.may c.next.ensures.line

pub returns-clause-whole : goal.returns-clause-whole
returns-clause-whole g c = tells_whole c.next.result _ _ _ _ c.requires.may c.next.ensures.line

pub returns-clause-cause : goal.returns-clause-cause
returns-clause-cause g c = counts c.next.result _ _ _ _ c.requires.may c.next.ensures.cause

pub returns-clause-limit : goal.returns-clause-limit
returns-clause-limit g c = c.next.ensures.line.limit
