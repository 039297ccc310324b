use Rattle.world_core.specs.Values.{state_of}
use Rattle.drill_run.proofs.AfterRound.{StandsAfter}
use Rattle.drill_run.proofs.drained.drain.Given as goal

-- what stands behind so many rounds
abbrev pub invariant-loop-round : goal.invariant-loop-round
invariant-loop-round l = StandsAfter l._round (state_of l.fn.world) (state_of l.world)
