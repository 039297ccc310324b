use Rattle.std.proofs.Common.{ap}
use Rattle.lang_wrap.specs.Wraps.{wrap}
use Rattle.world_core.proofs.IsFedDriver.{ScriptDriver, fed_kept, fed_next, fed_state}
use Rattle.world_core.proofs.feeding.feed_block.Goals as goal

pub returns-in-Ok-clause-state : goal.returns-in-Ok-clause-state
returns-in-Ok-clause-state c =
    fed_state c.args.driver.now c.feed.new.self (wrap c.args.driver.now.lang c.args.block.now.text) c.args.block.now.place c.in-Ok.field-0 c.in-Ok.ensures.step
    (ap (λ (d : ScriptDriver). d.lang) c.feed.ensures.rest) (ap (λ (d : ScriptDriver). d.boot) c.feed.ensures.rest)

pub returns-in-Ok-clause-kept : goal.returns-in-Ok-clause-kept
returns-in-Ok-clause-kept c = λ blocks h below.
    fed_kept c.args.driver.now c.feed.new.self c.args.block.now c.in-Ok.field-0 blocks c.in-Ok.ensures.step
    (ap (λ (d : ScriptDriver). d.lang) c.feed.ensures.rest) (ap (λ (d : ScriptDriver). d.boot) c.feed.ensures.rest) (ap (λ (d : ScriptDriver). d.closed) c.feed.ensures.rest)
    c.in-Ok.ensures.told c.in-Ok.ensures.faults h below

pub returns-in-Ok-clause-next : goal.returns-in-Ok-clause-next
returns-in-Ok-clause-next c =
    fed_next c.args.driver.now c.feed.new.self (wrap c.args.driver.now.lang c.args.block.now.text) c.args.block.now.place c.in-Ok.field-0 c.in-Ok.ensures.step
    (ap (λ (d : ScriptDriver). d.lang) c.feed.ensures.rest) (ap (λ (d : ScriptDriver). d.boot) c.feed.ensures.rest)
