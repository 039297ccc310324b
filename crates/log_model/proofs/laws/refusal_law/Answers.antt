use Rattle.log_model.proofs.Answer.{placed_answer, refused_answer}
use Rattle.log_model.proofs.laws.refusal_law.Goals as goal

pub returns-clause-placed : goal.returns-clause-placed
returns-clause-placed c = placed_answer

pub returns-clause-refused : goal.returns-clause-refused
returns-clause-refused c = refused_answer
