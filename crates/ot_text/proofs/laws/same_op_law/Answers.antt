use Rattle.ot_text.proofs.SameOp.{op_decides}
use Rattle.ot_text.proofs.laws.same_op_law.Goals as goal

pub returns : goal.returns
returns c = op_decides
