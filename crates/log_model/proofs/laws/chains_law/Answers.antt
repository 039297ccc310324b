use Rattle.log_model.proofs.IsLegal.{runs_between, leads_between, moves_between}
use Rattle.log_model.proofs.laws.chains_law.Goals as goal

pub returns-clause-run : goal.returns-clause-run
returns-clause-run c = runs_between

pub returns-clause-leads : goal.returns-clause-leads
returns-clause-leads c = leads_between

pub returns-clause-moved : goal.returns-clause-moved
returns-clause-moved c = moves_between
