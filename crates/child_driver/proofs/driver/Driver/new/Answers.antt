use Rattle.child_driver.proofs.IsTold.{told_none, none_given}
use Rattle.child_driver.proofs.driver.Driver.new.Goals as goal

pub returns-clause-told : goal.returns-clause-told
returns-clause-told g c = rw c.new.ensures.notes (told_none c.args.lang c.args.boot.items (g.H.Hatch.buried c.args.hatch))

pub returns-clause-handed : goal.returns-clause-handed
returns-clause-handed g c = rw c.new.ensures.notes (none_given (g.H.Hatch.buried c.args.hatch))
