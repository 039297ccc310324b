use Rattle.std.proofs.Common.{refl, ap}
use Rattle.stage_state.specs.Staged.{StageValue}
use Rattle.world_core.proofs.IsKeptPerformer.{finished, kept_local}
use Rattle.world_core.proofs.performer.Performer.leave.Goals as goal

pub returns-clause-kept : goal.returns-clause-kept
returns-clause-kept c =
    kept_local c.args.self.now (record { who = c.args.self.now.who; name = c.args.self.now.name; stage = c.finish.new.self; waiting = c.args.self.now.waiting; driver = c.args.self.now.driver })
    (finished c.args.self.now.stage.staged c.finish.new.self.staged c.finish.ensures.first (λ e. ap (λ (s : StageValue). s.staged) (c.finish.ensures.again e)))
    refl refl refl c.requires
