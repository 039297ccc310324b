-- How an activity ends at the stage: it is halted, or finished.
use Rattle.std.proofs.Common.{◌≡◌, ℕ, Bool, true, false, not, List, ◌++◌, Option, None, Some, Result, Ok, Err, IsOk, IfOk, refl, ap, ◌∙◌, append-nil}
use Rattle.std.specs.Prelude.{is_some}
use Rattle.std.specs.declared.alloc.AllocError.{AllocError}
use Rattle.seat_lock.specs.Values.{SeatValue}
use Rattle.stage_state.specs.declared.act.Act.TheVariants as act
use Rattle.stage_state.specs.declared.reply.ActReply.{ActReply}
use Rattle.stage_state.specs.declared.played.Origin.{Origin}
use Rattle.stage_state.specs.Origins.{machine_at}
use Rattle.stage_state.specs.Replies.{accepts}
use Rattle.activities.specs.declared.errors.PerformError.{PerformError}
use Rattle.activities.specs.declared.commands.Flow.{Flow}
use Rattle.activities.specs.declared.commands.Flow.TheVariants as flow
use Rattle.activities.specs.Memory.{PlacedAct, placed_row, ActsAt}
use Rattle.activities.specs.Ending.{Halts, IsFinished, FinishesStage, IsEnd, found_closed}
use Rattle.activities.proofs.MachineAt.{one_more}

-- ---- the halt

halted_then : (o : Origin) (log seen : List PlacedAct) (n : ℕ) (b : Bool) → (machine_at o log).halted ≡ b → seen ≡ log ++ placed_row (not b) n act.Halt → (machine_at o seen).halted ≡ true
halted_then o log seen n true was is = ap (λ rows. (machine_at o rows).halted) (is ∙ append-nil log) ∙ was
halted_then o log seen n false was is = ap (λ rows. (machine_at o rows).halted) is ∙ ap (λ m. m.halted) (one_more o log n act.Halt)

-- where there is an error, the stage is halted behind a halt
pub halts : (o : Origin) (end : Option PerformError) (s t : SeatValue PlacedAct Origin) (r : Result ActReply AllocError) → is_some end ≡ true → IsOk r
    → IfOk r (λ reply. ActsAt o act.Halt s reply t) → Halts o end s t
halts o None s t r some ok acts = absurd (cc)
halts o (Some e) s t (Ok reply) some ok acts =
    let m = machine_at o acts.0 in
    (accepts m act.Halt, acts.4, halted_then o acts.0 t.seen s.number m.halted refl acts.3)
halts o (Some e) s t (Err x) some ok acts = absurd (cc)

-- ---- the finish

finished_then : (o : Origin) (log seen : List PlacedAct) (n : ℕ) (b : Bool) → (machine_at o log).finishing ≡ b → seen ≡ log ++ placed_row (not b) n act.Finish → (machine_at o seen).finishing ≡ true
finished_then o log seen n true was is = ap (λ rows. (machine_at o rows).finishing) (is ∙ append-nil log) ∙ was
finished_then o log seen n false was is = ap (λ rows. (machine_at o rows).finishing) is ∙ ap (λ m. m.finishing) (one_more o log n act.Finish)

is_finished : (o : Origin) (s t : SeatValue PlacedAct Origin) (r : Result ActReply AllocError) → IsOk r → IfOk r (λ reply. ActsAt o act.Finish s reply t) → IsFinished o s t
is_finished o s t (Ok reply) ok acts =
    let m = machine_at o acts.0 in
    (accepts m act.Finish, acts.4, finished_then o acts.0 t.seen s.number m.finishing refl acts.3)
is_finished o s t (Err x) ok acts = absurd (cc)

-- the stage is finished behind a finish
pub finishes : (o : Origin) (end : Result Flow PerformError) (s t : SeatValue PlacedAct Origin) (r : Result ActReply AllocError) → IsEnd end → found_closed end ≡ false → IsOk r
    → IfOk r (λ reply. ActsAt o act.Finish s reply t) → FinishesStage o end s t
finishes o (Ok flow.On) s t r ends goes ok acts = absurd ends
finishes o (Ok flow.Ended) s t r ends goes ok acts = is_finished o s t r ok acts
finishes o (Ok flow.Closed) s t r ends goes ok acts = absurd (cc)
finishes o (Err e) s t r ends goes ok acts = is_finished o s t r ok acts
