-- For private clauses: what the turns of a run say.
use Rattle.std.specs.Prelude.{◌≡◌, ℕ, ◌+◌, ◌<◌, ◌≤◌, List, [], length, Option, Some, None, Result, Ok, Err}
use Rattle.std.specs.declared.alloc.AllocError.{AllocError}
use Rattle.wire_json.specs.declared.steps.Step.{Step}
use Rattle.replay_run.specs.declared.meaning.Meaning.{Meaning}
use Rattle.replay_run.specs.declared.meaning.Meaning.TheVariants as meaning
use Rattle.world_core.specs.States.{WorldState}
use Rattle.world_core.specs.Sound.{IsSoundWorld}
use Rattle.replay_run.specs.declared.outcome.Outcome.{Outcome}
use Rattle.replay_run.specs.declared.outcome.Outcome.TheVariants as outcome
use Rattle.replay_run.specs.Shown.{shown_world}
use Rattle.replay_run.specs.Script.{meaning_of, after_meaning, shown_meaning, stop_by}
use Rattle.replay_run.specs.Ports.{Port, IsCalm, IsFaulted, Took, TookPrefix}

-- the step that line n is, if it is one, or how it ends the run: by what it means, and as want of memory only where that wasn't found out
abbrev pub step_or_end : ℕ → Result Meaning AllocError → Result (Option Step) Outcome
step_or_end n (Ok meaning.Blank) = Ok None
step_or_end n (Ok (meaning.Step step)) = Ok (Some step)
step_or_end n (Ok meaning.Bad) = Err (outcome.BadLine n)
step_or_end n (Err wanting) = Err outcome.Memory

-- what playing line n says of the world and of the output, where there is room for so many bytes
abbrev pub PlaysLine : Option Outcome → ℕ → ℕ → List ℕ → WorldState → WorldState → Port → Type 0
PlaysLine None room n line old new out =
    (stop_by n (meaning_of line) ≡ None) × (new ≡ after_meaning old (meaning_of line)) × IsCalm out × Took out (shown_meaning n old (meaning_of line)) × (length line + 1 ≤ room)
PlaysLine (Some outcome.Done) room n line old new out = ⊥
PlaysLine (Some outcome.Usage) room n line old new out = ⊥
PlaysLine (Some outcome.Memory) room n line old new out = IsCalm out × Took out [] × (length line + 1 ≤ room)
PlaysLine (Some outcome.ReadFault) room n line old new out = ⊥
PlaysLine (Some outcome.WriteFault) room n line old new out = (stop_by n (meaning_of line) ≡ None) × IsFaulted out × TookPrefix out (shown_meaning n old (meaning_of line)) × (length line + 1 ≤ room)
PlaysLine (Some outcome.NetFault) room n line old new out = ⊥
PlaysLine (Some (outcome.BadLine m)) room n line old new out = (stop_by n (meaning_of line) ≡ Some (outcome.BadLine m)) × IsCalm out × Took out [] × (length line + 1 ≤ room)
PlaysLine (Some outcome.TooMuch) room n line old new out = (room < length line + 1) × IsCalm out × Took out []

-- what printing the whole world at the end says
abbrev pub EndsRun : Outcome → WorldState → Port → Type 0
EndsRun outcome.Done world out = IsCalm out × Took out (shown_world world) × IsSoundWorld world
EndsRun outcome.Usage world out = ⊥
EndsRun outcome.Memory world out = IsCalm out × Took out []
EndsRun outcome.ReadFault world out = ⊥
EndsRun outcome.WriteFault world out = IsFaulted out × TookPrefix out (shown_world world)
EndsRun outcome.NetFault world out = ⊥
EndsRun (outcome.BadLine n) world out = ⊥
EndsRun outcome.TooMuch world out = ⊥
