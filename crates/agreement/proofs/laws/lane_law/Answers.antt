use Rattle.agreement.proofs.Answer.{lane_placed, lane_fresh}
use Rattle.agreement.proofs.laws.lane_law.Goals as goal

pub returns-clause-placed : goal.returns-clause-placed
returns-clause-placed c = lane_placed

pub returns-clause-fresh : goal.returns-clause-fresh
returns-clause-fresh c = lane_fresh
