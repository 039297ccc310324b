use Rattle.std.proofs.Common.{arith}
use Rattle.stage_state.proofs.IsStage.{few_sent}
use Rattle.stage_state.proofs.stage.Stage.upcoming.Goals as goal

pub first-requires : goal.first-requires
first-requires c = omega (arith, few_sent _ _ _ c.self.invariant, c.len-placed.ensures.short, c.len-placed.ensures.value)
