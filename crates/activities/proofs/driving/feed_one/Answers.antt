use Rattle.std.proofs.Common.{◌≡◌, true, false, ◌∷◌, [], ◌++◌, sym, subst, Bool}
use Rattle.activities.specs.Driving.{ToldDriver, told_driver, FedSome}
use Rattle.activities.proofs.FedSome.{fed_less, fed_more, told_kept, same_fed, told_fed, bounded_fed}
use Rattle.activities.proofs.driving.feed_one.Goals as goal

pub returns-then-starved-clause-fed : goal.returns-then-starved-clause-fed
returns-then-starved-clause-fed g c = λ blocks first h. fed_less c.args.starved blocks c.args.block.now first _ h

pub returns-in-Ok-clause-fed : goal.returns-in-Ok-clause-fed
returns-in-Ok-clause-fed g c = λ blocks first h.
    let b = g.H.Hatch in
    let k = g.H.C.Child in
    let e = c.in-Ok.ensures in
    let old : ToldDriver = told_driver b.buried b.faults k.taken k.faults c.args.driver.now in
    let new : ToldDriver = told_driver b.buried b.faults k.taken k.faults c.feed.new.self in
    fed_more blocks c.args.block.now first old new
    (subst (λ (s : Bool). FedSome s blocks first old) c.if-starved.false h)
    (same_fed b.buried b.starts b.faults k.taken k.limit k.faults c.args.driver.now c.feed.new.self e.rest e.handed)
    (told_fed b.buried b.starts b.faults k.taken k.limit k.faults c.args.driver.now c.feed.new.self c.args.block.now e.rest c.requires e.told)
    (bounded_fed b.buried b.starts b.faults k.taken k.limit k.faults c.args.driver.now c.feed.new.self _ _ _ _ e.step e.faults)

pub returns-in-Err-clause-fed : goal.returns-in-Err-clause-fed
returns-in-Err-clause-fed g c = λ blocks first h.
    let b = g.H.Hatch in
    let k = g.H.C.Child in
    subst (λ (t : ToldDriver). FedSome true (blocks ++ c.args.block.now ∷ []) first t)
    (sym (told_kept b.buried b.starts b.faults k.taken k.limit k.faults c.args.driver.now c.feed.new.self c.in-Err.ensures.memory c.in-Err.ensures.rest))
    (fed_less c.args.starved blocks c.args.block.now first _ h)
