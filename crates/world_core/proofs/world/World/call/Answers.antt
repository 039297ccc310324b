use Rattle.std.proofs.Common.{◌≡◌, true, sym, ap, ◌∙◌, subst}
use Rattle.std.specs.List.{position_from}
use Rattle.std.specs.Prelude.{is_some}
use Rattle.log_model.specs.Answers.{answer}
use Rattle.stage_state.proofs.Replies.{on_err}
use Rattle.wire_json.specs.declared.steps.Step.TheVariants as step
use Rattle.world_core.specs.declared.told.Told.TheVariants as told
use Rattle.world_core.specs.Steps.{is_done, told_by_reply, told_of, world_after}
use Rattle.world_core.specs.Values.{WorldValue, state_of}
use Rattle.world_core.proofs.PerformerWith.{has_number}
use Rattle.world_core.proofs.WorldAfter.{unmoved}
use Rattle.world_core.proofs.Steps.{call_state, call_told, call_unfit, call_wanting, call_world}
use Rattle.world_core.proofs.world.World.call.Goals as goal

pub returns-then-is_some-clause-told : goal.returns-then-is_some-clause-told
returns-then-is_some-clause-told c =
    subst (λ (w : WorldValue). told.Unfit ≡ told_of (step.Call c.args.who c.args.num c.args.call.now) (state_of w)) c.self.view_is (sym (call_unfit c.self.inside.desk c.self.inside.performers.items c.self.inside.last_rows.items c.args.who c.args.num c.args.call.now c.self.invariant (ap (λ ps. is_some (position_from (has_number c.args.who) 0 ps)) (sym c.deref.ensures.value) ∙ ap is_some (sym c.index_of.ensures) ∙ sym c.is_some.ensures ∙ c.if-is_some.true)))

pub returns-then-is_some-clause-state : goal.returns-then-is_some-clause-state
returns-then-is_some-clause-state c =
    sym (unmoved (step.Call c.args.who c.args.num c.args.call.now) (state_of c.args.self.now) (ap is_done (subst (λ (w : WorldValue). told_of (step.Call c.args.who c.args.num c.args.call.now) (state_of w) ≡ told.Unfit) c.self.view_is (call_unfit c.self.inside.desk c.self.inside.performers.items c.self.inside.last_rows.items c.args.who c.args.num c.args.call.now c.self.invariant (ap (λ ps. is_some (position_from (has_number c.args.who) 0 ps)) (sym c.deref.ensures.value) ∙ ap is_some (sym c.index_of.ensures) ∙ sym c.is_some.ensures ∙ c.if-is_some.true)))))

pub returns-in_err-serve-clause-wanting : goal.returns-in_err-serve-clause-wanting
returns-in_err-serve-clause-wanting c =
    on_err c.from_residual.result (subst (λ (w : WorldValue). is_done (told_of (step.Call c.args.who c.args.num c.args.call.now) (state_of w)) ≡ true) c.self.view_is (call_wanting c.self.inside.desk c.self.inside.performers.items c.self.inside.last_rows.items c.args.who c.args.num c.args.call.now c.self.invariant (ap (λ ps. is_some (position_from (has_number c.args.who) 0 ps)) (sym c.deref.ensures.value) ∙ ap is_some (sym c.index_of.ensures) ∙ sym c.is_some.ensures ∙ c.if-is_some.false) c.in_err-serve.ensures.wanting))

pub invariant_of-self-2 : goal.invariant_of-self-2
invariant_of-self-2 c =
    call_world c.self.inside.desk c.serve.new.self c.self.inside.performers.items c.self.inside.last_rows.items c.args.who c.args.num c.args.call.now c.self.invariant (ap (λ ps. is_some (position_from (has_number c.args.who) 0 ps)) (sym c.deref.ensures.value) ∙ ap is_some (sym c.index_of.ensures) ∙ sym c.is_some.ensures ∙ c.if-is_some.false) c.in_ok-serve.ensures.row

pub returns-clause-told : goal.returns-clause-told
returns-clause-told c =
    c.told_by_reply.ensures ∙ ap told_by_reply c.in_ok-serve.ensures.answer
    ∙ sym (subst (λ (w : WorldValue). told_of (step.Call c.args.who c.args.num c.args.call.now) (state_of w) ≡ told_by_reply (answer c.self.inside.desk c.args.who c.args.num c.args.call.now)) c.self.view_is (call_told c.self.inside.desk c.self.inside.performers.items c.self.inside.last_rows.items c.args.who c.args.num c.args.call.now c.self.invariant (ap (λ ps. is_some (position_from (has_number c.args.who) 0 ps)) (sym c.deref.ensures.value) ∙ ap is_some (sym c.index_of.ensures) ∙ sym c.is_some.ensures ∙ c.if-is_some.false)))

pub returns-clause-state : goal.returns-clause-state
returns-clause-state c =
    call_state c.self.inside.desk c.serve.new.self c.self.inside.performers.items c.self.inside.last_rows.items c.args.who c.args.num c.args.call.now c.self.invariant (ap (λ ps. is_some (position_from (has_number c.args.who) 0 ps)) (sym c.deref.ensures.value) ∙ ap is_some (sym c.index_of.ensures) ∙ sym c.is_some.ensures ∙ c.if-is_some.false) c.in_ok-serve.ensures.row
    ∙ ap (λ (w : WorldValue). world_after (step.Call c.args.who c.args.num c.args.call.now) (state_of w)) c.self.view_is
