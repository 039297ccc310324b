use Rattle.session.proofs.IsDenied.{denied_rows}
use Rattle.session.proofs.laws.denied_law.Goals as goal

pub returns : goal.returns
returns c = denied_rows
