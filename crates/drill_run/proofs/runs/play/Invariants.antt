use Rattle.std.proofs.Common.{◌≡◌}
use Rattle.world_core.specs.Values.{state_of}
use Rattle.drill_run.specs.Drilling.{after_lines, new_drill}
use Rattle.drill_run.proofs.AfterLines.{HasDrawn}
use Rattle.drill_run.proofs.runs.play.Given as goal

-- so many performers have joined
abbrev pub invariant-loop-join : goal.invariant-loop-join
invariant-loop-join l = record {
  world_is : state_of l.world ≡ (after_lines l._join-index (new_drill l.seed)).world;
  number_is : l.draws ≡ (after_lines l._join-index (new_drill l.seed)).number;
}

-- so many steps were drawn behind the joins
abbrev pub invariant-loop-step : goal.invariant-loop-step
invariant-loop-step l = HasDrawn (after_lines 3 (new_drill l.seed)) l._step l.draws l.unfit (state_of l.world)
