use Rattle.stage_state.proofs.Origins.{played_begins, played_accepted}
use Rattle.stage_state.proofs.laws.growth_law.Goals as goal

pub returns-clause-begins : goal.returns-clause-begins
returns-clause-begins c = played_begins

pub returns-clause-accepted : goal.returns-clause-accepted
returns-clause-accepted c = played_accepted
