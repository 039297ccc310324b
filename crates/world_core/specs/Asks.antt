-- For private clauses: what becomes of a performer whose stage is asked for an act.
use Rattle.std.specs.Prelude.{◌≡◌, if◌then◌else◌, Option, None, Result, Ok, Err, IfOk, OnOk, OnErr}
use Rattle.stage_state.specs.declared.act.Act.{Act}
use Rattle.stage_state.specs.declared.errors.StageError.{StageError}
use Rattle.stage_state.specs.declared.errors.StageError.TheVariants as fault
use Rattle.stage_state.specs.declared.reply.AskRefusal.{AskRefusal}
use Rattle.std.specs.declared.alloc.AllocError.{AllocError}
use Rattle.world_core.specs.declared.performer.Performer.{Performer}
use Rattle.world_core.specs.declared.told.Told.{Told}
use Rattle.world_core.specs.declared.told.Told.TheVariants as told
use Rattle.world_core.specs.Steps.{told_by_refusal, after_own_act, is_done}
use Rattle.world_core.specs.Values.{performer_state}
use Rattle.world_core.specs.WorldInvariant.{IsKeptPerformer, ActsOn}

-- what a step is told by what the stage said to an ask
abbrev pub IsToldAsk : Result (Unit {0}) StageError → Result Told AllocError → Type 0
IsToldAsk (Ok done) r = r ≡ Ok told.Done
IsToldAsk (Err fault.Closed) r = r ≡ Ok told.Unfit
IsToldAsk (Err (fault.BadBase want got)) r = r ≡ Ok (told.Base want got)
IsToldAsk (Err (fault.Blank place)) r = r ≡ Ok (told.Blank place)
IsToldAsk (Err fault.Memory) r = OnOk r ⊥

-- the performer's stage was asked for an act, which it refuses so, if it does
pub record AsksFor (a : Act) (refusal : Option AskRefusal) (result : Result Told AllocError) (old new : Performer) : Type 0 where
  pub told_is : IfOk result (λ t. t ≡ told_by_refusal refusal)
  pub state_is : OnOk result (performer_state new ≡ (if is_done (told_by_refusal refusal) then after_own_act a (performer_state old) else performer_state old))
  pub memory_is : OnErr result (performer_state new ≡ performer_state old)
  pub wanting_is : OnErr result (refusal ≡ None)
  pub kept_is : IsKeptPerformer new
  pub goes_on : ActsOn old.stage.staged new.stage.staged
