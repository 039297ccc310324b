-- How a world is drained.
use Rattle.std.specs.Prelude.{◌≡◌, ℕ, zero, suc, ◌-◌, Option, None, Some, List, [], ◌∷◌, length}
use Rattle.troop_entry.specs.declared.row.Row.{Row}
use Rattle.client_state.specs.declared.state.State.TheVariants.{Synchronized}
use Rattle.stage_state.specs.Machine.{taken_count}
use Rattle.stage_state.specs.Staged.{machine}
use Rattle.wire_json.specs.declared.steps.Step.{Step}
use Rattle.wire_json.specs.declared.steps.Step.TheVariants as step
use Rattle.world_core.specs.States.{PerformerState, WorldState, performer_with}
use Rattle.world_core.specs.Steps.{world_after}
use Rattle.drill_run.specs.declared.turn.Turn.{Turn}
use Rattle.drill_run.specs.declared.turn.Turn.TheVariants as turn
use Rattle.drill_run.specs.Script.{script_numbers}

-- the step that a performer takes in this turn
abbrev pub turn_step : Turn → ℕ → Step
turn_step turn.Serve who = step.Serve who
turn_step turn.Take who = step.Take who
turn_step turn.Feed who = step.Feed who None

-- how often a performer can take that step, where the log has so many rows: once for each call that is to go out, for each entry that it
-- has not taken, for each block that waits
abbrev pub times_left : Turn → ℕ → Option PerformerState → ℕ
times_left t n None = 0
times_left turn.Serve n (Some p) = length (machine p.staged).outgoing
times_left turn.Take n (Some p) = n - taken_count (machine p.staged)
times_left turn.Feed n (Some p) = length p.waiting

-- how often the performer of this number can
abbrev pub turns_left : Turn → ℕ → WorldState → ℕ
turns_left t who w = times_left t (length w.log) (performer_with who w.performers)

-- the world after a step is taken so many times
unfoldable pub repeated : ℕ → Step → WorldState → WorldState
repeated zero s w = w
repeated (suc n) s w = repeated n s (world_after s w)

-- the world after a performer takes this step until it is unfit
abbrev pub until_unfit : Turn → ℕ → WorldState → WorldState
until_unfit t who w = repeated (turns_left t who w) (turn_step t who) w

-- the world after each of these performers does so, in this order
unfoldable pub each_until_unfit : Turn → List ℕ → WorldState → WorldState
each_until_unfit t [] w = w
each_until_unfit t (who ∷ others) w = each_until_unfit t others (until_unfit t who w)

-- the world after a round: all that is to go out is served, and then each performer takes all
abbrev pub after_round : WorldState → WorldState
after_round w = each_until_unfit turn.Take script_numbers (each_until_unfit turn.Serve script_numbers w)

-- the world after so many rounds
unfoldable pub after_rounds : ℕ → WorldState → WorldState
after_rounds zero w = w
after_rounds (suc n) w = after_rounds n (after_round w)

-- the drained world: behind three rounds a further one would change nothing, and then all interpreters are fed
abbrev pub drained : WorldState → WorldState
drained w = each_until_unfit turn.Feed script_numbers (after_rounds 3 w)

-- over a log of n rows the performer has taken all, awaits nothing, and has nothing to send
pub record IsDrained (n : ℕ) (p : PerformerState) : Type 0 where
  pub taken_all : taken_count (machine p.staged) ≡ n
  pub awaits_nothing : (machine p.staged).pending ≡ Synchronized
  pub nothing_to_go : (machine p.staged).outgoing ≡ []
