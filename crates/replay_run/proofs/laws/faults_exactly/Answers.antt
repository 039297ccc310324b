use Rattle.replay_run.proofs.Exactly.{faults_are_exact}
use Rattle.replay_run.proofs.laws.faults_exactly.Goals as goal

pub returns : goal.returns
returns c = faults_are_exact
