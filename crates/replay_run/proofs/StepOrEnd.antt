-- The step that a line is.
use Rattle.std.proofs.Common.{◌≡◌, ℕ, List, Result, Ok, Err, IfOk, ap, ◌∙◌}
use Rattle.std.specs.Prelude.{Option, Some, None}
use Rattle.std.specs.declared.alloc.AllocError.{AllocError}
use Rattle.wire_json.specs.declared.steps.Step.{Step}
use Rattle.replay_run.specs.declared.meaning.Meaning.{Meaning}
use Rattle.replay_run.specs.declared.meaning.Meaning.TheVariants as meaning
use Rattle.replay_run.specs.declared.outcome.Outcome.{Outcome}
use Rattle.replay_run.specs.Script.{meaning_of}
use Rattle.replay_run.specs.Turns.{step_or_end}

-- the step, where there is one
abbrev step_in : Step → Result (Option Step) Outcome → Step
step_in other (Ok (Some step)) = step
step_in other (Ok None) = other
step_in other (Err end) = other

-- a step that goes on is what its line means
pub step_is : (n : ℕ) (line : List ℕ) (read : Result Meaning AllocError) (step : Step) → Ok (Some step) ≡ step_or_end n read → IfOk read (λ m. m ≡ meaning_of line) → meaning.Step step ≡ meaning_of line
step_is n line (Ok meaning.Blank) step is means = absurd cc
step_is n line (Ok (meaning.Step s)) step is means = ap (λ r. meaning.Step (step_in step r)) is ∙ means
step_is n line (Ok meaning.Bad) step is means = absurd cc
step_is n line (Err wanting) step is means = absurd cc
