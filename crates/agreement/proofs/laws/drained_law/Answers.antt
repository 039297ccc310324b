use Rattle.agreement.proofs.Document.{holds_all}
use Rattle.agreement.proofs.laws.drained_law.Goals as goal

pub returns : goal.returns
returns c = holds_all
