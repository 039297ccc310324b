use Rattle.replay_run.proofs.FirstStop.{first_is_stop}
use Rattle.replay_run.proofs.laws.first_stop_law.Goals as goal

pub returns : goal.returns
returns c = first_is_stop
