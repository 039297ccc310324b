use Rattle.std.proofs.Common.{◌∙◌}
use Rattle.world_core.specs.Values.{state_of}
use Rattle.drill_run.proofs.UntilUnfit.{turn_ends, turn_falls, turn_leads, turn_open}
use Rattle.drill_run.proofs.drained.until_unfit.Goals as goal

pub turns-smaller : goal.turns-smaller
turns-smaller c =
    turn_falls c.args.turn c.args.who (state_of c.turns.world) (state_of c.step.new.self) _ c.in_ok-step.field-0 c.turns.invariant.open_is c.turns.invariant.step_is c.in_ok-step.ensures.told c.in_ok-step.ensures.state c.in-Done.is

pub turns-preserved : goal.turns-preserved
turns-preserved c = record {
  leads = turn_leads c.args.turn c.args.who (state_of c.turns.world) (state_of c.step.new.self) _ c.in_ok-step.field-0 c.turns.invariant.open_is c.turns.invariant.step_is c.in_ok-step.ensures.told c.in_ok-step.ensures.state c.in-Done.is
      ∙ c.turns.invariant.leads;
  open_is = turn_open c.args.turn c.args.who (state_of c.turns.world) (state_of c.step.new.self) _ c.in_ok-step.field-0 c.turns.invariant.open_is c.turns.invariant.step_is c.in_ok-step.ensures.told c.in_ok-step.ensures.state;
  step_is = c.turns.invariant.step_is;
}

pub returns : goal.returns
returns c =
    turn_ends c.args.turn c.args.who (state_of c.turns.world) (state_of c.step.new.self) _ c.in_ok-step.field-0 c.turns.invariant.open_is c.turns.invariant.step_is c.in_ok-step.ensures.told c.in_ok-step.ensures.state c.in_default.not-Done
    ∙ c.turns.invariant.leads
