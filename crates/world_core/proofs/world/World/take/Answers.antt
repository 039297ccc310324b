use Rattle.std.proofs.Common.{◌≡◌, sym, ap, ◌∙◌, subst, arith}
use Rattle.std.specs.List.{position_from}
use Rattle.stage_state.specs.Staged.{machine}
use Rattle.wire_json.specs.declared.steps.Step.TheVariants as step
use Rattle.world_core.specs.declared.told.Told.TheVariants as told
use Rattle.world_core.specs.Steps.{is_done, next_entry, told_by_some, told_if_here, told_of, world_after}
use Rattle.world_core.specs.Values.{WorldValue, state_of}
use Rattle.world_core.proofs.IsFedDriver.{err_then, if_ok_then, ok_then}
use Rattle.world_core.proofs.PerformerWith.{has_number}
use Rattle.world_core.proofs.WorldAfter.{absent, same_states, unmoved}
use Rattle.world_core.proofs.Steps.{fits_next, found_at, index_inside, take_state, take_told, taken_world}
use Rattle.world_core.proofs.world.World.take.Goals as goal

pub index_mut-requires : goal.index_mut-requires
index_mut-requires c =
    omega (arith, index_inside c.self.inside.desk c.self.inside.performers.items c.self.inside.last_rows.items c.args.who c.in-Some.index c.self.invariant (ap (position_from (has_number c.args.who) 0) (sym c.deref.ensures.value) ∙ sym c.index_of.ensures ∙ c.in-Some.is), c.self.inside.performers.ok.0)

pub take_next-requires-clause-kept : goal.take_next-requires-clause-kept
take_next-requires-clause-kept c =
    c.self.invariant.kept c.in-Some.index c.index_mut.result.now (found_at c.self.inside.desk c.self.inside.performers.items c.self.inside.last_rows.items c.args.who c.in-Some.index c.index_mut.result.now c.self.invariant (ap (position_from (has_number c.args.who) 0) (sym c.deref.ensures.value) ∙ sym c.index_of.ensures ∙ c.in-Some.is) c.index_mut.ensures.value).is_there

pub take_next-requires-clause-fits : goal.take_next-requires-clause-fits
take_next-requires-clause-fits c =
    fits_next c.self.inside.desk c.self.inside.performers.items c.self.inside.last_rows.items c.args.who c.in-Some.index c.index_mut.result.now c.self.invariant (found_at c.self.inside.desk c.self.inside.performers.items c.self.inside.last_rows.items c.args.who c.in-Some.index c.index_mut.result.now c.self.invariant (ap (position_from (has_number c.args.who) 0) (sym c.deref.ensures.value) ∙ sym c.index_of.ensures ∙ c.in-Some.is) c.index_mut.ensures.value)

pub invariant_of-self : goal.invariant_of-self
invariant_of-self c =
    taken_world c.self.inside.desk c.self.inside.performers.items c.self.inside.last_rows.items c.args.who c.in-Some.index c.index_mut.result.now c.take_next.new.self c.self.invariant (found_at c.self.inside.desk c.self.inside.performers.items c.self.inside.last_rows.items c.args.who c.in-Some.index c.index_mut.result.now c.self.invariant (ap (position_from (has_number c.args.who) 0) (sym c.deref.ensures.value) ∙ sym c.index_of.ensures ∙ c.in-Some.is) c.index_mut.ensures.value) c.take_next.ensures.kept c.take_next.ensures.stage

pub returns-in-Some-clause-told : goal.returns-in-Some-clause-told
returns-in-Some-clause-told c =
    if_ok_then c.take_next.result (λ t is. is ∙ sym (subst (λ (w : WorldValue). told_of (step.Take c.args.who) (state_of w) ≡ told_by_some (next_entry c.self.inside.desk (machine c.index_mut.result.now.stage.staged))) c.self.view_is (take_told c.self.inside.desk c.self.inside.performers.items c.args.who c.in-Some.index c.index_mut.result.now (found_at c.self.inside.desk c.self.inside.performers.items c.self.inside.last_rows.items c.args.who c.in-Some.index c.index_mut.result.now c.self.invariant (ap (position_from (has_number c.args.who) 0) (sym c.deref.ensures.value) ∙ sym c.index_of.ensures ∙ c.in-Some.is) c.index_mut.ensures.value)))) c.take_next.ensures.told

pub returns-in-Some-clause-state : goal.returns-in-Some-clause-state
returns-in-Some-clause-state c =
    ok_then c.take_next.result
    (λ is. take_state c.self.inside.desk c.self.inside.performers.items c.args.who c.in-Some.index c.index_mut.result.now c.take_next.new.self (found_at c.self.inside.desk c.self.inside.performers.items c.self.inside.last_rows.items c.args.who c.in-Some.index c.index_mut.result.now c.self.invariant (ap (position_from (has_number c.args.who) 0) (sym c.deref.ensures.value) ∙ sym c.index_of.ensures ∙ c.in-Some.is) c.index_mut.ensures.value) is ∙ ap (λ (w : WorldValue). world_after (step.Take c.args.who) (state_of w)) c.self.view_is)
    c.take_next.ensures.state

pub returns-in-Some-clause-memory : goal.returns-in-Some-clause-memory
returns-in-Some-clause-memory c =
    err_then c.take_next.result
    (λ is. same_states c.self.inside.desk c.self.inside.performers.items c.in-Some.index c.index_mut.result.now c.take_next.new.self (found_at c.self.inside.desk c.self.inside.performers.items c.self.inside.last_rows.items c.args.who c.in-Some.index c.index_mut.result.now c.self.invariant (ap (position_from (has_number c.args.who) 0) (sym c.deref.ensures.value) ∙ sym c.index_of.ensures ∙ c.in-Some.is) c.index_mut.ensures.value).is_there is ∙ ap state_of c.self.view_is)
    c.take_next.ensures.memory

pub returns-in-Some-clause-wanting : goal.returns-in-Some-clause-wanting
returns-in-Some-clause-wanting c =
    err_then c.take_next.result (λ done. ap is_done (subst (λ (w : WorldValue). told_of (step.Take c.args.who) (state_of w) ≡ told_by_some (next_entry c.self.inside.desk (machine c.index_mut.result.now.stage.staged))) c.self.view_is (take_told c.self.inside.desk c.self.inside.performers.items c.args.who c.in-Some.index c.index_mut.result.now (found_at c.self.inside.desk c.self.inside.performers.items c.self.inside.last_rows.items c.args.who c.in-Some.index c.index_mut.result.now c.self.invariant (ap (position_from (has_number c.args.who) 0) (sym c.deref.ensures.value) ∙ sym c.index_of.ensures ∙ c.in-Some.is) c.index_mut.ensures.value))) ∙ done) c.take_next.ensures.wanting

pub returns-in-None-clause-told : goal.returns-in-None-clause-told
returns-in-None-clause-told c =
    subst (λ (w : WorldValue). told.Unfit ≡ told_of (step.Take c.args.who) (state_of w)) c.self.view_is (sym (ap (told_if_here (λ p. told_by_some (next_entry c.self.inside.desk (machine p.staged)))) (absent c.self.inside.desk c.self.inside.performers.items c.self.inside.last_rows.items c.args.who c.self.invariant (ap (position_from (has_number c.args.who) 0) (sym c.deref.ensures.value) ∙ sym c.index_of.ensures ∙ c.in-None.is)).0))

pub returns-in-None-clause-state : goal.returns-in-None-clause-state
returns-in-None-clause-state c =
    sym (unmoved (step.Take c.args.who) (state_of c.args.self.now) (ap is_done (subst (λ (w : WorldValue). told_of (step.Take c.args.who) (state_of w) ≡ told.Unfit) c.self.view_is (ap (told_if_here (λ p. told_by_some (next_entry c.self.inside.desk (machine p.staged)))) (absent c.self.inside.desk c.self.inside.performers.items c.self.inside.last_rows.items c.args.who c.self.invariant (ap (position_from (has_number c.args.who) 0) (sym c.deref.ensures.value) ∙ sym c.index_of.ensures ∙ c.in-None.is)).0))))
