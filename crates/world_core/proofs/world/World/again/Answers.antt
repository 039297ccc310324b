use Rattle.std.proofs.Common.{◌≡◌, List, true, sym, ap, ◌∙◌, subst, arith}
use Rattle.std.specs.List.{position_from}
use Rattle.std.specs.Prelude.{length}
use Rattle.world_core.proofs.PerformerWith.{has_number}
use Rattle.stage_state.proofs.Replies.{on_err}
use Rattle.troop_entry.specs.declared.row.Row.{Row}
use Rattle.wire_json.specs.declared.steps.Step.TheVariants as step
use Rattle.world_core.specs.declared.told.Told.TheVariants as told
use Rattle.world_core.specs.Steps.{is_done, told_of}
use Rattle.world_core.specs.Values.{WorldValue, state_of}
use Rattle.world_core.specs.WorldInvariant.{IsWorld}
use Rattle.world_core.proofs.Again.{again_absent, again_done, again_none, asked_again, has_last, row_inside}
use Rattle.world_core.proofs.world.World.again.Goals as goal

pub returns-in_default-clause-told : goal.returns-in_default-clause-told
returns-in_default-clause-told c =
    subst (λ (w : WorldValue). told.Unfit ≡ told_of (step.Again c.args.who) (state_of w)) c.self.view_is
    (sym (again_absent c.self.inside.desk c.self.inside.performers.items c.self.inside.last_rows.items c.args.who c.self.invariant
    (ap (position_from (has_number c.args.who) 0) (sym c.deref.ensures.value) ∙ sym c.index_of.ensures ∙ c.in_default.is)))

pub index-requires : goal.index-requires
index-requires c =
    omega (
      arith,
      has_last c.self.inside.desk c.self.inside.performers.items c.self.inside.last_rows.items c.args.who c.in-Some.index c.self.invariant
          (ap (position_from (has_number c.args.who) 0) (sym c.deref.ensures.value) ∙ sym c.index_of.ensures ∙ c.in-Some.is),
      c.self.inside.last_rows.ok.0,
    )

pub returns-in_default-index-clause-told : goal.returns-in_default-index-clause-told
returns-in_default-index-clause-told c =
    subst (λ (w : WorldValue). told.Unfit ≡ told_of (step.Again c.args.who) (state_of w)) c.self.view_is
    (sym (again_none c.self.inside.desk c.self.inside.performers.items c.self.inside.last_rows.items c.args.who c.in-Some.index c.self.invariant
    (ap (position_from (has_number c.args.who) 0) (sym c.deref.ensures.value) ∙ sym c.index_of.ensures ∙ c.in-Some.is)
    c.index.result.now c.index.ensures c.in_default-index.is))

pub offset_bounds-rows-at : goal.offset_bounds-rows-at
offset_bounds-rows-at c =
    omega (
      arith,
      row_inside c.self.inside.desk c.self.inside.performers.items c.self.inside.last_rows.items c.args.who c.in-Some.index c.in-Some-index.at c.self.invariant
          (ap (position_from (has_number c.args.who) 0) (sym c.deref.ensures.value) ∙ sym c.index_of.ensures ∙ c.in-Some.is)
          c.index.result.now c.index.ensures c.in-Some-index.is,
      ap (λ (rows : List Row). length rows) c.rows.ensures.rows,
      c.rows.type_inv,
    )

pub bounds-rows-at : goal.bounds-rows-at
bounds-rows-at c =
    omega (
      arith,
      row_inside c.self.inside.desk c.self.inside.performers.items c.self.inside.last_rows.items c.args.who c.in-Some.index c.in-Some-index.at c.self.invariant
          (ap (position_from (has_number c.args.who) 0) (sym c.deref.ensures.value) ∙ sym c.index_of.ensures ∙ c.in-Some.is)
          c.index.result.now c.index.ensures c.in-Some-index.is,
      ap (λ (rows : List Row). length rows) c.rows.ensures.rows,
    )

pub returns-in_err-call-clause-wanting : goal.returns-in_err-call-clause-wanting
returns-in_err-call-clause-wanting c =
    on_err c.from_residual.result
    (subst (λ (w : WorldValue). is_done (told_of (step.Again c.args.who) (state_of w)) ≡ true) c.self.view_is
    (ap is_done (again_done c.self.inside.desk c.self.inside.performers.items c.self.inside.last_rows.items c.args.who c.in-Some.index c.in-Some-index.at c.self.invariant
    (ap (position_from (has_number c.args.who) 0) (sym c.deref.ensures.value) ∙ sym c.index_of.ensures ∙ c.in-Some.is)
    c.index.result.now c.index.ensures c.in-Some-index.is)))

pub returns-in_err-serve-clause-wanting : goal.returns-in_err-serve-clause-wanting
returns-in_err-serve-clause-wanting c =
    on_err c.from_residual-in_err-serve.result
    (subst (λ (w : WorldValue). is_done (told_of (step.Again c.args.who) (state_of w)) ≡ true) c.self.view_is
    (ap is_done (again_done c.self.inside.desk c.self.inside.performers.items c.self.inside.last_rows.items c.args.who c.in-Some.index c.in-Some-index.at c.self.invariant
    (ap (position_from (has_number c.args.who) 0) (sym c.deref.ensures.value) ∙ sym c.index_of.ensures ∙ c.in-Some.is)
    c.index.result.now c.index.ensures c.in-Some-index.is)))

pub returns-clause-told : goal.returns-clause-told
returns-clause-told c =
    subst (λ (w : WorldValue). told.Done ≡ told_of (step.Again c.args.who) (state_of w)) c.self.view_is
    (sym (again_done c.self.inside.desk c.self.inside.performers.items c.self.inside.last_rows.items c.args.who c.in-Some.index c.in-Some-index.at c.self.invariant
    (ap (position_from (has_number c.args.who) 0) (sym c.deref.ensures.value) ∙ sym c.index_of.ensures ∙ c.in-Some.is)
    c.index.result.now c.index.ensures c.in-Some-index.is))

same_log : (c : goal.Joined-call-2) → c.serve.new.self ≡ c.self.inside.desk
same_log c =
    asked_again c.self.inside.desk c.serve.new.self c.self.inside.performers.items c.self.inside.last_rows.items c.args.who c.in-Some.index c.in-Some-index.at c.index-rows-at.result c.in_ok-call.call c.self.invariant
    (ap (position_from (has_number c.args.who) 0) (sym c.deref.ensures.value) ∙ sym c.index_of.ensures ∙ c.in-Some.is)
    c.index.result.now c.index.ensures c.in-Some-index.is
    c.rows.result.now c.rows.ensures.rows c.index-rows-at.is c.in_ok-call.ensures.copy c.in_ok-serve.ensures.row

pub invariant_of-self-2 : goal.invariant_of-self-2
invariant_of-self-2 c =
    subst (λ (rows : List Row). IsWorld rows c.self.inside.performers.items c.self.inside.last_rows.items) (sym (same_log c)) c.self.invariant

pub returns-clause-state : goal.returns-clause-state
returns-clause-state c =
    ap (λ (rows : List Row). record { log = rows; performers = c.self.inside.performers.items }) (same_log c) ∙ c.self.view_is
