use Rattle.agreement.proofs.CanAct.{takes_next}
use Rattle.agreement.proofs.laws.take_law.Goals as goal

pub returns : goal.returns
returns c = takes_next
