use Rattle.log_model.proofs.AllMarks.{marks_joined}
use Rattle.log_model.proofs.laws.marks_law.Goals as goal

pub returns : goal.returns
returns c = marks_joined
