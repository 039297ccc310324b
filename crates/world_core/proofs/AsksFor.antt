-- What becomes of a performer whose stage is asked for an act.
use Rattle.std.proofs.Common.{◌≡◌, ℕ, List, true, false, if◌then◌else◌, Option, None, Some, Result, Ok, Err, IfErr, OnOk, OnErr, refl, sym, ap, ◌∙◌, subst, inl, inr}
use Rattle.std.specs.Prelude.{is_none}
use Rattle.std.specs.declared.alloc.AllocError.{AllocError}
use Rattle.stage_state.specs.declared.act.Act.{Act}
use Rattle.stage_state.specs.declared.errors.StageError.{StageError}
use Rattle.stage_state.specs.declared.reply.AskRefusal.{AskRefusal}
use Rattle.stage_state.specs.declared.reply.AskRefusal.TheVariants as ask
use Rattle.stage_state.specs.Machine.{Machine, CanAct}
use Rattle.stage_state.specs.Replies.{accepts, ask_error, eval_refusal, reset_refusal, type_refusal}
use Rattle.stage_state.specs.Causes.{IsEvalCause, IsResetCause, IsTypeCause}
use Rattle.ot_text.specs.Change.{Change}
use Rattle.stage_state.specs.Staged.{Staged, machine, with_act}
use Rattle.stage_state.proofs.Replies.{can_placed, eval_cause_is, reset_cause_is, type_cause_is}
use Rattle.agreement.specs.Stages.{is_local}
use Rattle.world_core.specs.declared.performer.Performer.{Performer}
use Rattle.world_core.specs.declared.told.Told.{Told}
use Rattle.world_core.specs.declared.told.Told.TheVariants as told
use Rattle.world_core.specs.Asks.{AsksFor, IsToldAsk}
use Rattle.world_core.specs.Steps.{after_own_act, is_done, told_by_refusal}
use Rattle.world_core.specs.States.{PerformerState}
use Rattle.world_core.specs.Values.{performer_state}
use Rattle.world_core.specs.WorldInvariant.{ActsOn, IsKeptPerformer}
use Rattle.world_core.proofs.IsKeptPerformer.{kept_local}

-- nothing but the stage, or the room in it, has changed
record Beside (old new : Performer) : Type 0 where
  who_is : new.who ≡ old.who
  name_is : new.name ≡ old.name
  waiting_is : new.waiting ≡ old.waiting
  driver_is : new.driver ≡ old.driver

-- an act that was placed
pub went : (a : Act) (old new : Performer) → is_local a ≡ true → CanAct (machine old.stage.staged) a → new.stage.staged ≡ with_act 0 a old.stage.staged → ActsOn old.stage.staged new.stage.staged
went a old new local can staged = inr (a, local, can, staged)

stayed : (s t : Staged) → t ≡ s → ActsOn s t
stayed s t same = inl same

-- the performer behind an act that was placed
pub acted : (a : Act) (p : PerformerState) → CanAct (machine p.staged) a → after_own_act a p ≡ record p { staged = with_act 0 a p.staged }
acted a p can = ap (λ b. record p { staged = if b then with_act 0 a p.staged else p.staged }) (can_placed (machine p.staged) a can)

same_performer : (old new : Performer) (s : Staged) → new.name ≡ old.name → new.waiting ≡ old.waiting → new.driver ≡ old.driver → new.stage.staged ≡ s
    → performer_state new ≡ record (performer_state old) { staged = s }
same_performer old new s name waiting driver staged = rw (name, waiting, driver, staged) refl

-- what the stage said to an ask, and what becomes of the performer
pub asked : (a : Act) (refusal : Option AskRefusal) (given : Result (Unit {0}) StageError) (result : Result Told AllocError) (old new : Performer) → is_local a ≡ true
    → (accepts (machine old.stage.staged) a ≡ is_none refusal)
    → OnOk given (new.stage.staged ≡ with_act 0 a old.stage.staged) → OnOk given (CanAct (machine old.stage.staged) a)
    → IfErr given (λ e. e ≡ ask_error refusal) → OnErr given (new.stage.staged ≡ old.stage.staged)
    → IsToldAsk given result → new.who ≡ old.who → new.name ≡ old.name → new.waiting ≡ old.waiting → new.driver ≡ old.driver → IsKeptPerformer old
    → AsksFor a refusal result old new
asked a refusal (Ok done) result old new local test staged can cause kept is who name waiting driver h =
    let on = went a old new local can staged in
    let none : is_none refusal ≡ true = sym test ∙ can_placed (machine old.stage.staged) a can in
    let refused : refusal ≡ None = by_refusal refusal none in
    rw (is, refused) (record {
      told_is = refl;
      state_is = same_performer old new (with_act 0 a old.stage.staged) name waiting driver staged ∙ sym (acted a (performer_state old) can);
      memory_is = tt;
      wanting_is = tt;
      kept_is = kept_local old new on who waiting driver h;
      goes_on = on;
    })
  where
    by_refusal : (r : Option AskRefusal) → is_none r ≡ true → r ≡ None
    by_refusal None e = refl
    by_refusal (Some r) e = absurd (cc)
asked a refusal (Err error) result old new local test staged can cause kept is who name waiting driver h = by_refusal refusal error result cause is
  where
    on : ActsOn old.stage.staged new.stage.staged
    on = stayed old.stage.staged new.stage.staged kept

    state : performer_state new ≡ performer_state old
    state = same_performer old new old.stage.staged name waiting driver kept

    kept_on : IsKeptPerformer new
    kept_on = kept_local old new on who waiting driver h

    done : (r : Option AskRefusal) (t : Told) (given : Result Told AllocError) → given ≡ Ok t → t ≡ told_by_refusal r → is_done t ≡ false → AsksFor a r given old new
    done r t given is same none =
        let not_done : is_done (told_by_refusal r) ≡ false = ap is_done (sym same) ∙ none in
        rw is (record { told_is = same; state_is = state ∙ sym (ap (λ b. if b then after_own_act a (performer_state old) else performer_state old) not_done); memory_is = tt; wanting_is = tt; kept_is = kept_on; goes_on = on })

    wanting : (given : Result Told AllocError) → OnOk given ⊥ → AsksFor a None given old new
    wanting (Ok t) never = absurd never
    wanting (Err e) never = record { told_is = tt; state_is = tt; memory_is = state; wanting_is = refl; kept_is = kept_on; goes_on = on }

    by_refusal : (r : Option AskRefusal) (e : StageError) (given : Result Told AllocError) → e ≡ ask_error r → IsToldAsk (Err e) given → AsksFor a r given old new
    by_refusal None e given is said = wanting given (subst (λ (x : StageError). IsToldAsk (Err x) given) is said)
    by_refusal (Some ask.Closed) e given is said = done (Some ask.Closed) told.Unfit given (subst (λ (x : StageError). IsToldAsk (Err x) given) is said) refl refl
    by_refusal (Some (ask.BadBase want got)) e given is said = done (Some (ask.BadBase want got)) (told.Base want got) given (subst (λ (x : StageError). IsToldAsk (Err x) given) is said) refl refl
    by_refusal (Some (ask.Blank place)) e given is said = done (Some (ask.Blank place)) (told.Blank place) given (subst (λ (x : StageError). IsToldAsk (Err x) given) is said) refl refl

-- ---- the causes of an ask's errors, as the refusals

pub type_causes : (m : Machine) (op : Change) (given : Result (Unit {0}) StageError) → IfErr given (IsTypeCause m op) → IfErr given (λ e. e ≡ ask_error (type_refusal m op))
type_causes m op (Ok done) cause = tt
type_causes m op (Err error) cause = type_cause_is m op error cause

pub eval_causes : (m : Machine) (place : ℕ) (given : Result (Unit {0}) StageError) → IfErr given (IsEvalCause m place) → IfErr given (λ e. e ≡ ask_error (eval_refusal m place))
eval_causes m place (Ok done) cause = tt
eval_causes m place (Err error) cause = eval_cause_is m place error cause

pub reset_causes : (m : Machine) (text : List ℕ) (given : Result (Unit {0}) StageError) → IfErr given (IsResetCause m text) → IfErr given (λ e. e ≡ ask_error (reset_refusal m))
reset_causes m text (Ok done) cause = tt
reset_causes m text (Err error) cause = reset_cause_is m text error cause
