use Rattle.revision_log.proofs.IsLegal.{legal_begins, legal_accepted}
use Rattle.revision_log.proofs.laws.growth_law.Goals as goal

pub returns-clause-begins : goal.returns-clause-begins
returns-clause-begins c = legal_begins

pub returns-clause-accepted : goal.returns-clause-accepted
returns-clause-accepted c = legal_accepted
