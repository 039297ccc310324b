-- The table of `drill`: what each outcome says of the output.
use Rattle.std.specs.Prelude.{◌≡◌, ◌≢◌, ℕ, true, length, List, [], All}
use Rattle.world_core.specs.Sound.{IsSoundWorld}
use Rattle.replay_run.specs.declared.outcome.Outcome.{Outcome}
use Rattle.replay_run.specs.declared.outcome.Outcome.TheVariants as outcome
use Rattle.replay_run.specs.Outcome.{code_of, error_line}
use Rattle.replay_run.specs.Ports.{Port, IsCalm, IsFaulted, Took, TookPrefix, Reported}
use Rattle.drill_run.specs.Draining.{IsDrained}
use Rattle.drill_run.specs.Summary.{drill_world, drill_summary, drill_line}

-- the world that a drill comes to is sound and drained, so the summary's `equal` is true
pub record EndsEqual (seed steps : ℕ) : Type 0 where
  pub sound : IsSoundWorld (drill_world seed steps)
  pub drained : All (IsDrained (length (drill_world seed steps).log)) (drill_world seed steps).performers
  pub equal : (drill_summary seed steps).equal ≡ true

-- The table: what each outcome says of the output. A run that came to its end left a sound and drained world.
abbrev pub SaysDrilled : ℕ → ℕ → Outcome → Port → Type 0
SaysDrilled seed steps outcome.Done out = IsCalm out × Took out (drill_line seed steps) × EndsEqual seed steps
SaysDrilled seed steps outcome.Usage out = ⊥
SaysDrilled seed steps outcome.Memory out = IsCalm out × Took out []
SaysDrilled seed steps outcome.ReadFault out = ⊥
SaysDrilled seed steps outcome.WriteFault out = IsFaulted out × TookPrefix out (drill_line seed steps) × EndsEqual seed steps
SaysDrilled seed steps outcome.NetFault out = ⊥
SaysDrilled seed steps (outcome.BadLine n) out = ⊥
SaysDrilled seed steps outcome.TooMuch out = ⊥

-- a run of `drill` that ended with this status
pub record Drills (seed steps code : ℕ) (out err : Port) : Type 0 where
  pub outcome : Outcome
  pub says : SaysDrilled seed steps outcome out
  pub code_is : code ≡ code_of outcome
  pub reported : Reported err (error_line outcome)

-- where the output counted no fault, all was written with status 0, but for want of memory
abbrev pub IsCompleteDrill : ℕ → ℕ → ℕ → Port → Type 0
IsCompleteDrill seed steps code out = (IsFaulted out → ⊥) → code ≢ 3 → (code ≡ 0) × Took out (drill_line seed steps)
