use Rattle.std.proofs.Common.{arith}
use Rattle.world_core.specs.Values.{state_of}
use Rattle.drill_run.proofs.AfterRound.{last_drained, last_leads, stands_first, stands_next}
use Rattle.drill_run.proofs.drained.drain.Goals as goal

pub loop-round-init : goal.loop-round-init
loop-round-init c = stands_first (state_of c.args.world.now) c.requires

pub loop-round-preserved : goal.loop-round-preserved
loop-round-preserved c =
    stands_next c.loop-round._round (state_of c.args.world.now) (state_of c.loop-round.world) (state_of c.round.new.world) (omega arith) c.loop-round.invariant c.in_ok-round.ensures.state c.in_ok-round.ensures.sound

pub returns-clause-state : goal.returns-clause-state
returns-clause-state c =
    last_leads c.each_until_unfit.result c.loop-round._round (state_of c.args.world.now) (state_of c.loop-round.world) (state_of c.each_until_unfit.new.world) (omega arith) (omega arith) c.loop-round.invariant c.each_until_unfit.ensures.state

pub returns-clause-drained : goal.returns-clause-drained
returns-clause-drained c =
    last_drained c.each_until_unfit.result c.loop-round._round (state_of c.args.world.now) (state_of c.loop-round.world) (state_of c.each_until_unfit.new.world) (omega arith) (omega arith) c.loop-round.invariant c.each_until_unfit.ensures.state
