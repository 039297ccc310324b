use Rattle.replay_run.proofs.Exactly.{replays_are_exact}
use Rattle.replay_run.proofs.laws.replays_exactly.Goals as goal

pub returns : goal.returns
returns c = replays_are_exact
