use Rattle.drill_run.proofs.AfterRound.{further_round}
use Rattle.drill_run.proofs.UntilUnfit.{until_unfit_then}
use Rattle.drill_run.proofs.laws.drain_law.Goals as goal

pub returns-clause-unfit : goal.returns-clause-unfit
returns-clause-unfit c = λ t who w h. (until_unfit_then t who w h).unfit

pub returns-clause-further : goal.returns-clause-further
returns-clause-further c = further_round
