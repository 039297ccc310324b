use Rattle.session.proofs.Session.{session_later}
use Rattle.session.proofs.laws.later_law.Goals as goal

pub returns : goal.returns
returns c = λ first seat seen log later gained end w grows h. session_later seat seen log later gained grows first end w h
