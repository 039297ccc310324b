use Rattle.agreement.proofs.Agrees.{runs_agree}
use Rattle.agreement.proofs.laws.run_law.Goals as goal

pub returns : goal.returns
returns c = runs_agree
