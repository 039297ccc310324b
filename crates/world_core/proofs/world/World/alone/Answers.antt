use Rattle.std.proofs.Common.{◌≡◌, sym, ap, ◌∙◌, subst, arith}
use Rattle.std.specs.List.{position_from}
use Rattle.world_core.specs.declared.told.Told.TheVariants as told
use Rattle.world_core.specs.Steps.{is_done, told_alone, told_if_here, told_of, world_after}
use Rattle.world_core.specs.Values.{WorldValue, performer_state, state_of}
use Rattle.world_core.proofs.IsFedDriver.{err_then, if_ok_then, ok_then}
use Rattle.world_core.proofs.PerformerWith.{has_number}
use Rattle.world_core.proofs.WorldAfter.{absent, alone_state, same_states, told_alone_is, told_here, unmoved}
use Rattle.world_core.proofs.IsWorld.{world_alone}
use Rattle.world_core.proofs.Steps.{found_at, index_inside}
use Rattle.world_core.proofs.world.World.alone.Goals as goal

pub index_mut-requires : goal.index_mut-requires
index_mut-requires c =
    omega (arith, index_inside c.self.inside.desk c.self.inside.performers.items c.self.inside.last_rows.items c.args.who c.in-Some.index c.self.invariant (ap (position_from (has_number c.args.who) 0) (sym c.deref.ensures.value) ∙ sym c.index_of.ensures ∙ c.in-Some.is), c.self.inside.performers.ok.0)

pub take_alone-requires : goal.take_alone-requires
take_alone-requires c =
    c.self.invariant.kept c.in-Some.index c.index_mut.result.now (found_at c.self.inside.desk c.self.inside.performers.items c.self.inside.last_rows.items c.args.who c.in-Some.index c.index_mut.result.now c.self.invariant (ap (position_from (has_number c.args.who) 0) (sym c.deref.ensures.value) ∙ sym c.index_of.ensures ∙ c.in-Some.is) c.index_mut.ensures.value).is_there

pub invariant_of-self : goal.invariant_of-self
invariant_of-self c =
    world_alone c.self.inside.desk c.self.inside.performers.items c.self.inside.last_rows.items c.in-Some.index c.index_mut.result.now c.take_alone.new.self c.self.invariant (found_at c.self.inside.desk c.self.inside.performers.items c.self.inside.last_rows.items c.args.who c.in-Some.index c.index_mut.result.now c.self.invariant (ap (position_from (has_number c.args.who) 0) (sym c.deref.ensures.value) ∙ sym c.index_of.ensures ∙ c.in-Some.is) c.index_mut.ensures.value).is_there c.take_alone.ensures.kept c.take_alone.ensures.stage

pub returns-in-Some-clause-told : goal.returns-in-Some-clause-told
returns-in-Some-clause-told c =
    if_ok_then c.take_alone.result
    (λ t is. is ∙ sym (subst (λ (w : WorldValue). told_of c.args.step.now (state_of w) ≡ told_alone c.args.step.now (performer_state c.index_mut.result.now)) c.self.view_is
    (told_here c.args.step.now c.self.inside.desk c.self.inside.performers.items c.args.who c.in-Some.index c.index_mut.result.now c.requires (found_at c.self.inside.desk c.self.inside.performers.items c.self.inside.last_rows.items c.args.who c.in-Some.index c.index_mut.result.now c.self.invariant (ap (position_from (has_number c.args.who) 0) (sym c.deref.ensures.value) ∙ sym c.index_of.ensures ∙ c.in-Some.is) c.index_mut.ensures.value))))
    c.take_alone.ensures.told

pub returns-in-Some-clause-state : goal.returns-in-Some-clause-state
returns-in-Some-clause-state c =
    ok_then c.take_alone.result
    (λ is. alone_state c.args.step.now c.self.inside.desk c.self.inside.performers.items c.args.who c.in-Some.index c.index_mut.result.now c.take_alone.new.self c.requires (found_at c.self.inside.desk c.self.inside.performers.items c.self.inside.last_rows.items c.args.who c.in-Some.index c.index_mut.result.now c.self.invariant (ap (position_from (has_number c.args.who) 0) (sym c.deref.ensures.value) ∙ sym c.index_of.ensures ∙ c.in-Some.is) c.index_mut.ensures.value) is
    ∙ ap (λ (w : WorldValue). world_after c.args.step.now (state_of w)) c.self.view_is)
    c.take_alone.ensures.state

pub returns-in-Some-clause-memory : goal.returns-in-Some-clause-memory
returns-in-Some-clause-memory c =
    err_then c.take_alone.result
    (λ is. same_states c.self.inside.desk c.self.inside.performers.items c.in-Some.index c.index_mut.result.now c.take_alone.new.self (found_at c.self.inside.desk c.self.inside.performers.items c.self.inside.last_rows.items c.args.who c.in-Some.index c.index_mut.result.now c.self.invariant (ap (position_from (has_number c.args.who) 0) (sym c.deref.ensures.value) ∙ sym c.index_of.ensures ∙ c.in-Some.is) c.index_mut.ensures.value).is_there is ∙ ap state_of c.self.view_is)
    c.take_alone.ensures.memory

pub returns-in-Some-clause-wanting : goal.returns-in-Some-clause-wanting
returns-in-Some-clause-wanting c =
    err_then c.take_alone.result
    (λ done. ap is_done (subst (λ (w : WorldValue). told_of c.args.step.now (state_of w) ≡ told_alone c.args.step.now (performer_state c.index_mut.result.now)) c.self.view_is
    (told_here c.args.step.now c.self.inside.desk c.self.inside.performers.items c.args.who c.in-Some.index c.index_mut.result.now c.requires (found_at c.self.inside.desk c.self.inside.performers.items c.self.inside.last_rows.items c.args.who c.in-Some.index c.index_mut.result.now c.self.invariant (ap (position_from (has_number c.args.who) 0) (sym c.deref.ensures.value) ∙ sym c.index_of.ensures ∙ c.in-Some.is) c.index_mut.ensures.value))) ∙ done)
    c.take_alone.ensures.wanting

pub returns-in-None-clause-told : goal.returns-in-None-clause-told
returns-in-None-clause-told c =
    subst (λ (w : WorldValue). told.Unfit ≡ told_of c.args.step.now (state_of w)) c.self.view_is (sym (told_alone_is c.args.step.now c.args.who (state_of (record { log = c.self.inside.desk; performers = c.self.inside.performers.items })) c.requires ∙ ap (told_if_here (told_alone c.args.step.now)) (absent c.self.inside.desk c.self.inside.performers.items c.self.inside.last_rows.items c.args.who c.self.invariant (ap (position_from (has_number c.args.who) 0) (sym c.deref.ensures.value) ∙ sym c.index_of.ensures ∙ c.in-None.is)).0))

pub returns-in-None-clause-state : goal.returns-in-None-clause-state
returns-in-None-clause-state c =
    sym (unmoved c.args.step.now (state_of c.args.self.now) (ap is_done (subst (λ (w : WorldValue). told_of c.args.step.now (state_of w) ≡ told.Unfit) c.self.view_is (told_alone_is c.args.step.now c.args.who (state_of (record { log = c.self.inside.desk; performers = c.self.inside.performers.items })) c.requires ∙ ap (told_if_here (told_alone c.args.step.now)) (absent c.self.inside.desk c.self.inside.performers.items c.self.inside.last_rows.items c.args.who c.self.invariant (ap (position_from (has_number c.args.who) 0) (sym c.deref.ensures.value) ∙ sym c.index_of.ensures ∙ c.in-None.is)).0))))
