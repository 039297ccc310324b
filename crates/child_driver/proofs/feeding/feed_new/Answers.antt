use Rattle.std.proofs.Common.{refl}
use Rattle.child_driver.specs.Lives.{Boot, Refused}
use Rattle.child_driver.proofs.IsFeedStep.{step_behind}
use Rattle.child_driver.proofs.feeding.feed_new.Goals as goal

pub returns-in-Life-clause-step : goal.returns-in-Life-clause-step
returns-in-Life-clause-step g c =
    let s = c.feed_life.ensures.step c.args.boot.now in
    (s.0, s.1, step_behind _ _ _ s.0 _ _ _ refl c.in-Life.ensures.opens s.2)

pub returns-in-BootCut-clause-step : goal.returns-in-BootCut-clause-step
returns-in-BootCut-clause-step g c = (Boot c.in-BootCut.field-0, refl, c.in-BootCut.ensures.opens c.args.bytes.now)

pub returns-in-Refused-clause-step : goal.returns-in-Refused-clause-step
returns-in-Refused-clause-step g c = (Refused, refl, c.in-Refused.ensures.opens c.args.bytes.now)
