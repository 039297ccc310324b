use Rattle.std.proofs.Common.{ap}
use Rattle.ot_text.specs.Parts.{norm}
use Rattle.ot_transform.proofs.GoesOn.{second_text_put}
use Rattle.ot_transform.proofs.composite.Composer.put_text.Goals as goal

pub returns-in_ok-insert-clause-goes_on : goal.returns-in_ok-insert-clause-goes_on
returns-in_ok-insert-clause-goes_on c =
    second_text_put _ _ c.in-Some.text.now (ap norm c.in-Some.ensures.taken) c.in_ok-insert.ensures.ok
