use Rattle.std.proofs.Common.{refl, sym}
use Rattle.world_core.proofs.IsKeptPerformer.{kept_fed}
use Rattle.world_core.proofs.performer.Performer.feed_next.Goals as goal

pub returns-clause-kept : goal.returns-clause-kept
returns-clause-kept c =
    kept_fed c.args.self.now (record { who = c.args.self.now.who; name = c.args.self.now.name; stage = c.args.self.now.stage; waiting = c.pass.new.self; driver = c.feed.new.driver })
    c.in-Some.block.now (sym c.in-Some.ensures) refl c.pass.ensures refl c.in_ok-feed.ensures.kept c.feed.ensures.next c.requires
