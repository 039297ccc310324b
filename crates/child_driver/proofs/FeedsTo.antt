-- What a feed leaves, by the values of the driver.
use Rattle.std.proofs.Common.{◌≡◌, ℕ, ◌+◌, ◌-◌, ◌<◌, ◌≤◌, ◌^◌, List, [], ◌∷◌, ◌++◌, Bool, true, false, not, sym, ◌∙◌, ap, subst, arith}
use Rattle.std.specs.Prelude.{Option, None, Some, IfSome, is_some}
use Rattle.troop_entry.specs.declared.block.Block.{Block}
use Rattle.pipe_ports.specs.Pipes.{Starts}
use Rattle.lang_wrap.specs.Wraps.{wrap}
use Rattle.troop_entry.specs.declared.note.Note.{Note}
use Rattle.child_driver.specs.declared.fed.Fed.{Fed}
use Rattle.child_driver.specs.Lives.{births_by, fate_bytes, without_unclosed, IsTold, AreBelow, fate_of, faulty_count}
use Rattle.child_driver.specs.Drivers.{DriverValue, births, driver_lives, earlier_count, Sight, sight, pipe_count}
use Rattle.child_driver.specs.Steps.{answer_of, FeedsTo}
use Rattle.child_driver.specs.DriverInvariant.{no_life, IsSteady, HasLife}
use Rattle.child_driver.proofs.Turns.{births_more}
use Rattle.child_driver.proofs.LivesOf.{given_same}
use Rattle.child_driver.proofs.IsFeedStep.{stands_step, kept_step, told_step, faulty_step}

-- a standing life is held with more room for notes too
pub held_more : {H C : Type 0} (graves : H → ℕ) (closed : C → Bool) (hatch : H) (life : Option C) (spare more : ℕ) → spare ≤ more
    → HasLife graves closed hatch life spare → HasLife graves closed hatch life more
held_more graves closed hatch None spare more h held = tt
held_more graves closed hatch (Some child) spare more h held = (held.0, held.1, omega (arith, held.2))

-- what is equal is steady too
pub steady_same : (stands stands1 closed : Bool) (notes notes1 : List Note) → stands1 ≡ stands → notes1 ≡ notes → IsSteady stands notes closed → IsSteady stands1 notes1 closed
steady_same stands stands1 closed notes notes1 same_life same_notes steady = record {
  standing = λ calm. ap not same_life ∙ steady.standing calm ∙ ap (no_life true) (sym same_notes);
  kept = λ calm. ap without_unclosed same_notes ∙ steady.kept calm ∙ sym same_notes;
}

-- a driver stays steady behind a feed
pub steady_step : (boot wrapped : List ℕ) (place : ℕ) (answer : Fed) (old new : Sight) (closed : Bool) → FeedsTo boot wrapped place answer old new
    → IsSteady old.stands old.notes closed → IsSteady new.stands new.notes closed
steady_step boot wrapped place answer old new closed step steady = record {
  standing = λ calm. stands_step boot wrapped place step.0 old new (steady.standing calm) step.2;
  kept = λ calm. kept_step boot wrapped place step.0 old new (steady.kept calm) step.2;
}

-- a step of what is equal
pub steps_same : (boot boot1 wrapped wrapped1 : List ℕ) (place : ℕ) (answer : Fed) (old old1 new : Sight) → boot1 ≡ boot → wrapped1 ≡ wrapped → old1 ≡ old
    → FeedsTo boot1 wrapped1 place answer old1 new → FeedsTo boot wrapped place answer old new
steps_same boot boot1 wrapped wrapped1 place answer old old1 new same_boot same_bytes same_old step =
    subst (λ b. FeedsTo b wrapped place answer old new) same_boot
    (subst (λ w. FeedsTo boot1 w place answer old new) same_bytes
    (subst (λ s. FeedsTo boot1 wrapped1 place answer s new) same_old step))

-- ## A feed, by the values of the driver

module _ {H C : Type 0} (buried : H → Option (List (List ℕ))) (starts : H → Option Starts) (faults : H → ℕ)
    (taken : C → Option (List ℕ)) (limit : C → Option (Option ℕ)) (child_faults : C → ℕ) where
  -- what a feed did, said of the value at its start
  pub step_of : (d0 d : DriverValue H C) (block : Block) (answer : Fed) (new : Sight) → d0 ≡ d
      → FeedsTo d0.boot (wrap d0.lang block.text) block.place answer (sight buried starts faults taken limit child_faults d0) new
      → FeedsTo d.boot (wrap d.lang block.text) block.place answer (sight buried starts faults taken limit child_faults d) new
  step_of d0 d block answer new same step =
      subst (λ (d : DriverValue H C). FeedsTo d.boot (wrap d.lang block.text) block.place answer (sight buried starts faults taken limit child_faults d) new) same step

  -- what is told of the blocks fed is told of this one too
  TellsMore : DriverValue H C → DriverValue H C → Block → Fed → Type 0
  TellsMore d d1 block answer = d.closed ≡ false → (blocks : List Block)
      → IsTold d.lang d.boot blocks (driver_lives buried taken d) d.notes → AreBelow block.place blocks
      → IsTold d.lang d.boot (blocks ++ block ∷ []) (driver_lives buried taken d1) d1.notes × (answer ≡ answer_of (fate_of d1.notes block.place))

  told_at : (d d1 : DriverValue H C) (block : Block) (answer : Fed) → IsSteady (is_some d.life) d.notes d.closed
      → FeedsTo d.boot (wrap d.lang block.text) block.place answer (sight buried starts faults taken limit child_faults d) (sight buried starts faults taken limit child_faults d1)
      → TellsMore d d1 block answer
  unfolding TellsMore
  told_at d d1 block answer steady step calm blocks told below =
      let more = told_step d.lang d.boot blocks block step.0 (sight buried starts faults taken limit child_faults d) (sight buried starts faults taken limit child_faults d1)
      (steady.standing calm) (steady.kept calm) step.2 told below in
      (more.0, step.1 ∙ ap answer_of (sym more.1))

  -- what is told of the blocks fed is told of one more behind a feed, which answers by its fate
  pub told_feed : (d0 d d1 : DriverValue H C) (block : Block) (answer : Fed) → d0 ≡ d → IsSteady (is_some d0.life) d0.notes d0.closed
      → FeedsTo d0.boot (wrap d0.lang block.text) block.place answer (sight buried starts faults taken limit child_faults d0) (sight buried starts faults taken limit child_faults d1)
      → d.closed ≡ false → (blocks : List Block)
      → IsTold d.lang d.boot blocks (driver_lives buried taken d) d.notes → AreBelow block.place blocks
      → IsTold d.lang d.boot (blocks ++ block ∷ []) (driver_lives buried taken d1) d1.notes × (answer ≡ answer_of (fate_of d1.notes block.place))
  unfolding TellsMore
  told_feed d0 d d1 block answer same steady step = subst (λ (d : DriverValue H C). TellsMore d d1 block answer) same (told_at d0 d1 block answer steady step)

  -- a feed tells of no more faults than were counted, while the pipe count is below its last value
  pub faults_feed : (d0 d d1 : DriverValue H C) (block : Block) (answer : Fed) → d0 ≡ d
      → FeedsTo d0.boot (wrap d0.lang block.text) block.place answer (sight buried starts faults taken limit child_faults d0) (sight buried starts faults taken limit child_faults d1)
      → pipe_count faults child_faults d1 < 2 ^ 64 - 1
      → faulty_count d1.notes + pipe_count faults child_faults d ≤ faulty_count d.notes + pipe_count faults child_faults d1
  faults_feed d0 d d1 block answer same step below =
      subst (λ (d : DriverValue H C). faulty_count d1.notes + pipe_count faults child_faults d ≤ faulty_count d.notes + pipe_count faults child_faults d1) same
      (faulty_step d0.boot (wrap d0.lang block.text) block.place step.0 (sight buried starts faults taken limit child_faults d0) (sight buried starts faults taken limit child_faults d1) step.2 below)

  -- how many children there were before the hatch was handed in stays the same behind a feed
  pub given_feed : (d0 d d1 : DriverValue H C) (block : Block) (answer : Fed) → d0 ≡ d
      → FeedsTo d0.boot (wrap d0.lang block.text) block.place answer (sight buried starts faults taken limit child_faults d0) (sight buried starts faults taken limit child_faults d1)
      → IfSome (earlier_count buried taken d1) (λ n. Some n ≡ earlier_count buried taken d)
  given_feed d0 d d1 block answer same step =
      let opens : Bool = not (is_some d0.life) in
      subst (λ (d : DriverValue H C). IfSome (earlier_count buried taken d1) (λ n. Some n ≡ earlier_count buried taken d)) same
      (given_same (births d0.notes) (births d1.notes) opens step.0 (fate_bytes d0.boot opens (wrap d0.lang block.text) step.0) _ _
      (ap births step.2.notes_are ∙ births_more d0.notes opens (births d0.notes + births_by opens step.0) block.place step.0) step.2.children_are)
