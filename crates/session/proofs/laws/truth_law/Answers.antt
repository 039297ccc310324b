use Rattle.session.proofs.AreTrue.{are_true}
use Rattle.session.proofs.laws.truth_law.Goals as goal

pub returns : goal.returns
returns c = are_true
