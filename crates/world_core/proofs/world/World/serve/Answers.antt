use Rattle.std.proofs.Common.{◌≡◌, refl, sym, ap, ◌∙◌, subst, arith}
use Rattle.std.specs.List.{position_from}
use Rattle.std.specs.Prelude.{length}
use Rattle.stage_state.proofs.Replies.{on_err}
use Rattle.stage_state.specs.Machine.{next_of}
use Rattle.stage_state.specs.Staged.{Staged, machine}
use Rattle.wire_json.specs.declared.steps.Step.TheVariants as step
use Rattle.world_core.specs.declared.told.Told.TheVariants as told
use Rattle.world_core.specs.Steps.{is_done, told_by_next, told_if_here, told_of, world_after}
use Rattle.world_core.specs.Values.{WorldValue, performer_state, state_of}
use Rattle.world_core.proofs.PerformerWith.{has_number}
use Rattle.world_core.proofs.WorldAfter.{absent, serve_state, unmoved}
use Rattle.world_core.proofs.Again.{has_last}
use Rattle.world_core.proofs.Steps.{found_at, index_inside, quiet_log, quiet_stage, quiet_told, same_world, same_world_state, sends_done, sends_placed, sent_done, sent_world, serve_told}
use Rattle.world_core.proofs.world.World.serve.Goals as goal

pub returns-in_default-clause-told : goal.returns-in_default-clause-told
returns-in_default-clause-told c =
    subst (λ (w : WorldValue). told.Unfit ≡ told_of (step.Serve c.args.who) (state_of w)) c.self.view_is (sym (ap (told_if_here (λ p. told_by_next (next_of (machine p.staged)))) (absent c.self.inside.desk c.self.inside.performers.items c.self.inside.last_rows.items c.args.who c.self.invariant (ap (position_from (has_number c.args.who) 0) (sym c.deref.ensures.value) ∙ sym c.index_of.ensures ∙ c.in_default.is)).0))

pub returns-in_default-clause-state : goal.returns-in_default-clause-state
returns-in_default-clause-state c =
    sym (unmoved (step.Serve c.args.who) (state_of c.args.self.now) (ap is_done (subst (λ (w : WorldValue). told_of (step.Serve c.args.who) (state_of w) ≡ told.Unfit) c.self.view_is (ap (told_if_here (λ p. told_by_next (next_of (machine p.staged)))) (absent c.self.inside.desk c.self.inside.performers.items c.self.inside.last_rows.items c.args.who c.self.invariant (ap (position_from (has_number c.args.who) 0) (sym c.deref.ensures.value) ∙ sym c.index_of.ensures ∙ c.in_default.is)).0))))

pub index_mut-requires : goal.index_mut-requires
index_mut-requires c =
    omega (arith, index_inside c.self.inside.desk c.self.inside.performers.items c.self.inside.last_rows.items c.args.who c.in-Some.index c.self.invariant (ap (position_from (has_number c.args.who) 0) (sym c.deref.ensures.value) ∙ sym c.index_of.ensures ∙ c.in-Some.is), c.self.inside.performers.ok.0)

pub send_next-requires : goal.send_next-requires
send_next-requires c =
    sends_placed c.self.inside.desk c.self.inside.performers.items c.self.inside.last_rows.items c.args.who c.in-Some.index c.index_mut.result.now c.self.invariant (found_at c.self.inside.desk c.self.inside.performers.items c.self.inside.last_rows.items c.args.who c.in-Some.index c.index_mut.result.now c.self.invariant (ap (position_from (has_number c.args.who) 0) (sym c.deref.ensures.value) ∙ sym c.index_of.ensures ∙ c.in-Some.is) c.index_mut.ensures.value)

pub invariant_of-self : goal.invariant_of-self
invariant_of-self c =
    same_world c.self.inside.desk c.send_next.new.desk c.self.inside.performers.items c.self.inside.last_rows.items c.args.who c.in-Some.index c.index_mut.result.now
    (record { who = c.index_mut.result.now.who; name = c.index_mut.result.now.name; stage = c.send_next.new.stage; waiting = c.index_mut.result.now.waiting; driver = c.index_mut.result.now.driver })
    c.self.invariant (found_at c.self.inside.desk c.self.inside.performers.items c.self.inside.last_rows.items c.args.who c.in-Some.index c.index_mut.result.now c.self.invariant (ap (position_from (has_number c.args.who) 0) (sym c.deref.ensures.value) ∙ sym c.index_of.ensures ∙ c.in-Some.is) c.index_mut.ensures.value) c.in_err-at.ensures.memory_log c.in_err-at.ensures.memory_stage refl refl refl

pub returns-in_err-at-clause-memory : goal.returns-in_err-at-clause-memory
returns-in_err-at-clause-memory c =
    on_err c.from_residual.result
    (same_world_state c.self.inside.desk c.send_next.new.desk c.self.inside.performers.items c.args.who c.in-Some.index c.index_mut.result.now (record { who = c.index_mut.result.now.who; name = c.index_mut.result.now.name; stage = c.send_next.new.stage; waiting = c.index_mut.result.now.waiting; driver = c.index_mut.result.now.driver }) (found_at c.self.inside.desk c.self.inside.performers.items c.self.inside.last_rows.items c.args.who c.in-Some.index c.index_mut.result.now c.self.invariant (ap (position_from (has_number c.args.who) 0) (sym c.deref.ensures.value) ∙ sym c.index_of.ensures ∙ c.in-Some.is) c.index_mut.ensures.value) c.in_err-at.ensures.memory_log (ap (λ (s : Staged). record (performer_state c.index_mut.result.now) { staged = s }) c.in_err-at.ensures.memory_stage) ∙ ap state_of c.self.view_is)

pub returns-in_err-at-clause-wanting : goal.returns-in_err-at-clause-wanting
returns-in_err-at-clause-wanting c =
    on_err c.from_residual.result (ap is_done (subst (λ (w : WorldValue). told_of (step.Serve c.args.who) (state_of w) ≡ told_by_next (next_of (machine c.index_mut.result.now.stage.staged))) c.self.view_is (serve_told c.self.inside.desk c.self.inside.performers.items c.args.who c.in-Some.index c.index_mut.result.now (found_at c.self.inside.desk c.self.inside.performers.items c.self.inside.last_rows.items c.args.who c.in-Some.index c.index_mut.result.now c.self.invariant (ap (position_from (has_number c.args.who) 0) (sym c.deref.ensures.value) ∙ sym c.index_of.ensures ∙ c.in-Some.is) c.index_mut.ensures.value))) ∙ sends_done (next_of (machine c.index_mut.result.now.stage.staged)) c.in_err-at.ensures.wanting)

pub index_mut-requires-in-Some-2 : goal.index_mut-requires-in-Some-2
index_mut-requires-in-Some-2 c =
    omega (arith, has_last c.self.inside.desk c.self.inside.performers.items c.self.inside.last_rows.items c.args.who c.in-Some.index c.self.invariant (ap (position_from (has_number c.args.who) 0) (sym c.deref.ensures.value) ∙ sym c.index_of.ensures ∙ c.in-Some.is), c.self.inside.last_rows.ok.0)

pub invariant_of-self-in-Some-2 : goal.invariant_of-self-in-Some-2
invariant_of-self-in-Some-2 c =
    sent_world c.self.inside.desk c.send_next.new.desk c.self.inside.performers.items c.self.inside.last_rows.items c.args.who c.in-Some.index c.in-Some-2.at c.index_mut.result.now
    (record { who = c.index_mut.result.now.who; name = c.index_mut.result.now.name; stage = c.send_next.new.stage; waiting = c.index_mut.result.now.waiting; driver = c.index_mut.result.now.driver })
    c.self.invariant (found_at c.self.inside.desk c.self.inside.performers.items c.self.inside.last_rows.items c.args.who c.in-Some.index c.index_mut.result.now c.self.invariant (ap (position_from (has_number c.args.who) 0) (sym c.deref.ensures.value) ∙ sym c.index_of.ensures ∙ c.in-Some.is) c.index_mut.ensures.value) (sym c.in_ok-at.ensures.sent ∙ c.in-Some-2.is) c.in_ok-at.ensures.log c.in_ok-at.ensures.stage refl refl refl

pub invariant_of-self-in-None : goal.invariant_of-self-in-None
invariant_of-self-in-None c =
    same_world c.self.inside.desk c.send_next.new.desk c.self.inside.performers.items c.self.inside.last_rows.items c.args.who c.in-Some.index c.index_mut.result.now
    (record { who = c.index_mut.result.now.who; name = c.index_mut.result.now.name; stage = c.send_next.new.stage; waiting = c.index_mut.result.now.waiting; driver = c.index_mut.result.now.driver })
    c.self.invariant (found_at c.self.inside.desk c.self.inside.performers.items c.self.inside.last_rows.items c.args.who c.in-Some.index c.index_mut.result.now c.self.invariant (ap (position_from (has_number c.args.who) 0) (sym c.deref.ensures.value) ∙ sym c.index_of.ensures ∙ c.in-Some.is) c.index_mut.ensures.value) (c.in_ok-at.ensures.log ∙ quiet_log (length c.self.inside.desk) c.args.who c.self.inside.desk (next_of (machine c.index_mut.result.now.stage.staged)) (sym c.in_ok-at.ensures.sent ∙ c.in-None.is))
    (c.in_ok-at.ensures.stage ∙ quiet_stage (length c.self.inside.desk) (next_of (machine c.index_mut.result.now.stage.staged)) c.index_mut.result.now.stage.staged (sym c.in_ok-at.ensures.sent ∙ c.in-None.is)) refl refl refl

pub returns-in-Some-2-clause-told : goal.returns-in-Some-2-clause-told
returns-in-Some-2-clause-told c =
    sym ((subst (λ (w : WorldValue). told_of (step.Serve c.args.who) (state_of w) ≡ told_by_next (next_of (machine c.index_mut.result.now.stage.staged))) c.self.view_is (serve_told c.self.inside.desk c.self.inside.performers.items c.args.who c.in-Some.index c.index_mut.result.now (found_at c.self.inside.desk c.self.inside.performers.items c.self.inside.last_rows.items c.args.who c.in-Some.index c.index_mut.result.now c.self.invariant (ap (position_from (has_number c.args.who) 0) (sym c.deref.ensures.value) ∙ sym c.index_of.ensures ∙ c.in-Some.is) c.index_mut.ensures.value))) ∙ sent_done (length c.self.inside.desk) c.in-Some-2.at (next_of (machine c.index_mut.result.now.stage.staged)) (sym c.in_ok-at.ensures.sent ∙ c.in-Some-2.is))

pub returns-in-Some-2-clause-state : goal.returns-in-Some-2-clause-state
returns-in-Some-2-clause-state c =
    serve_state c.self.inside.desk c.send_next.new.desk c.self.inside.performers.items c.args.who c.in-Some.index c.index_mut.result.now (record { who = c.index_mut.result.now.who; name = c.index_mut.result.now.name; stage = c.send_next.new.stage; waiting = c.index_mut.result.now.waiting; driver = c.index_mut.result.now.driver }) (found_at c.self.inside.desk c.self.inside.performers.items c.self.inside.last_rows.items c.args.who c.in-Some.index c.index_mut.result.now c.self.invariant (ap (position_from (has_number c.args.who) 0) (sym c.deref.ensures.value) ∙ sym c.index_of.ensures ∙ c.in-Some.is) c.index_mut.ensures.value) c.in_ok-at.ensures.log (ap (λ (s : Staged). record (performer_state c.index_mut.result.now) { staged = s }) c.in_ok-at.ensures.stage)
    (sent_done (length c.self.inside.desk) c.in-Some-2.at (next_of (machine c.index_mut.result.now.stage.staged)) (sym c.in_ok-at.ensures.sent ∙ c.in-Some-2.is))
    ∙ ap (λ (w : WorldValue). world_after (step.Serve c.args.who) (state_of w)) c.self.view_is

pub returns-in-None-clause-told : goal.returns-in-None-clause-told
returns-in-None-clause-told c =
    sym ((subst (λ (w : WorldValue). told_of (step.Serve c.args.who) (state_of w) ≡ told_by_next (next_of (machine c.index_mut.result.now.stage.staged))) c.self.view_is (serve_told c.self.inside.desk c.self.inside.performers.items c.args.who c.in-Some.index c.index_mut.result.now (found_at c.self.inside.desk c.self.inside.performers.items c.self.inside.last_rows.items c.args.who c.in-Some.index c.index_mut.result.now c.self.invariant (ap (position_from (has_number c.args.who) 0) (sym c.deref.ensures.value) ∙ sym c.index_of.ensures ∙ c.in-Some.is) c.index_mut.ensures.value))) ∙ quiet_told (length c.self.inside.desk) (next_of (machine c.index_mut.result.now.stage.staged)) (sym c.in_ok-at.ensures.sent ∙ c.in-None.is))

pub returns-in-None-clause-state : goal.returns-in-None-clause-state
returns-in-None-clause-state c =
    same_world_state c.self.inside.desk c.send_next.new.desk c.self.inside.performers.items c.args.who c.in-Some.index c.index_mut.result.now (record { who = c.index_mut.result.now.who; name = c.index_mut.result.now.name; stage = c.send_next.new.stage; waiting = c.index_mut.result.now.waiting; driver = c.index_mut.result.now.driver }) (found_at c.self.inside.desk c.self.inside.performers.items c.self.inside.last_rows.items c.args.who c.in-Some.index c.index_mut.result.now c.self.invariant (ap (position_from (has_number c.args.who) 0) (sym c.deref.ensures.value) ∙ sym c.index_of.ensures ∙ c.in-Some.is) c.index_mut.ensures.value)
    (c.in_ok-at.ensures.log ∙ quiet_log (length c.self.inside.desk) c.args.who c.self.inside.desk (next_of (machine c.index_mut.result.now.stage.staged)) (sym c.in_ok-at.ensures.sent ∙ c.in-None.is))
    (ap (λ (s : Staged). record (performer_state c.index_mut.result.now) { staged = s }) (c.in_ok-at.ensures.stage ∙ quiet_stage (length c.self.inside.desk) (next_of (machine c.index_mut.result.now.stage.staged)) c.index_mut.result.now.stage.staged (sym c.in_ok-at.ensures.sent ∙ c.in-None.is)))
    ∙ ap state_of c.self.view_is
    ∙ sym (unmoved (step.Serve c.args.who) (state_of c.args.self.now) (ap is_done ((subst (λ (w : WorldValue). told_of (step.Serve c.args.who) (state_of w) ≡ told_by_next (next_of (machine c.index_mut.result.now.stage.staged))) c.self.view_is (serve_told c.self.inside.desk c.self.inside.performers.items c.args.who c.in-Some.index c.index_mut.result.now (found_at c.self.inside.desk c.self.inside.performers.items c.self.inside.last_rows.items c.args.who c.in-Some.index c.index_mut.result.now c.self.invariant (ap (position_from (has_number c.args.who) 0) (sym c.deref.ensures.value) ∙ sym c.index_of.ensures ∙ c.in-Some.is) c.index_mut.ensures.value))) ∙ quiet_told (length c.self.inside.desk) (next_of (machine c.index_mut.result.now.stage.staged)) (sym c.in_ok-at.ensures.sent ∙ c.in-None.is))))
