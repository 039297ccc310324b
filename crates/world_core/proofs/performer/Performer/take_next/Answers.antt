use Rattle.std.proofs.Common.{◌≡◌, ℕ, ◌+◌, ◌-◌, None, Some, slice_get, inl, inr, refl, sym, ap, ◌∙◌, subst, arith}
use Rattle.log_model.specs.Log.{entries}
use Rattle.stage_state.specs.Staged.{machine}
use Rattle.stage_state.proofs.Replies.{on_err}
use Rattle.world_core.specs.Steps.{after_next_entry, next_entry, told_by_some}
use Rattle.world_core.specs.Values.{performer_state}
use Rattle.world_core.proofs.IsKeptPerformer.{kept_taken}
use Rattle.world_core.proofs.NextEntry.{first_entry, next_done, wanting_next, none_gone, none_left, not_none, some_next, taken_state}
use Rattle.world_core.proofs.performer.Performer.take_next.Goals.{then-is_gone-via-then-is_gone, then-is_gone-via-else-is_gone+then-at-length}
use Rattle.world_core.proofs.performer.Performer.take_next.Goals as goal

pub returns-then-is_gone-clause-told : goal.returns-then-is_gone-clause-told
returns-then-is_gone-clause-told c =
    let none : next_entry c.args.desk.now (machine c.args.self.now.stage.staged) ≡ None =
    elim c.then-is_gone.branch [
      | then-is_gone-via-then-is_gone w ↦ none_gone c.args.desk.now (machine c.args.self.now.stage.staged) (sym c.is_gone.ensures ∙ w.if-is_gone.true)
      | then-is_gone-via-else-is_gone+then-at-length w ↦ none_left c.args.desk.now (machine c.args.self.now.stage.staged) (omega (arith, c.taken-at.ensures, w.length.ensures, w.if-at-length.true))
    ] in
    sym (ap told_by_some none)

pub returns-then-is_gone-clause-state : goal.returns-then-is_gone-clause-state
returns-then-is_gone-clause-state c =
    let none : next_entry c.args.desk.now (machine c.args.self.now.stage.staged) ≡ None =
    elim c.then-is_gone.branch [
      | then-is_gone-via-then-is_gone w ↦ none_gone c.args.desk.now (machine c.args.self.now.stage.staged) (sym c.is_gone.ensures ∙ w.if-is_gone.true)
      | then-is_gone-via-else-is_gone+then-at-length w ↦ none_left c.args.desk.now (machine c.args.self.now.stage.staged) (omega (arith, c.taken-at.ensures, w.length.ensures, w.if-at-length.true))
    ] in
    sym (ap (λ o. after_next_entry o (performer_state c.args.self.now)) none)

pub returns-in_err-found-clause-wanting : goal.returns-in_err-found-clause-wanting
returns-in_err-found-clause-wanting c =
    on_err c.from_residual.result
    (wanting_next c.args.desk.now (machine c.args.self.now.stage.staged) (sym c.is_gone.ensures ∙ c.if-is_gone.false) (omega (arith, c.taken-at.ensures, c.length.ensures, c.if-at-length.false)))

pub unreachable-requires : goal.unreachable-requires
unreachable-requires c =
    not_none c.args.desk.now c.taken-at.result (omega (arith, c.length.ensures, c.if-at-length.false))
    (first_entry (entries c.args.desk.now) c.taken-at.result (c.taken-at.result + 1 - c.taken-at.result) None (omega arith)
    (ap (λ es. slice_get es 0) (sym (c.deref.ensures.value ∙ c.in_ok-found.ensures.entries)) ∙ sym c.in_default.ensures.value))

pub take-requires : goal.take-requires
take-requires c =
    c.requires.fits c.in-Some.entry.now
    (some_next c.args.desk.now (machine c.args.self.now.stage.staged) c.in-Some.entry.now (sym c.is_gone.ensures ∙ c.if-is_gone.false)
    (subst (λ (n : ℕ). slice_get (entries c.args.desk.now) n ≡ Some c.in-Some.entry.now) c.taken-at.ensures
    (first_entry (entries c.args.desk.now) c.taken-at.result (c.taken-at.result + 1 - c.taken-at.result) (Some c.in-Some.entry.now) (omega arith)
    (ap (λ es. slice_get es 0) (sym (c.deref.ensures.value ∙ c.in_ok-found.ensures.entries)) ∙ sym c.in-Some.ensures.value))))

pub returns-in_err-take-clause-wanting : goal.returns-in_err-take-clause-wanting
returns-in_err-take-clause-wanting c =
    on_err c.from_residual-in_err-take.result
    (wanting_next c.args.desk.now (machine c.args.self.now.stage.staged) (sym c.is_gone.ensures ∙ c.if-is_gone.false) (omega (arith, c.taken-at.ensures, c.length.ensures, c.if-at-length.false)))

pub returns-clause-told : goal.returns-clause-told
returns-clause-told c =
    sym (next_done c.args.desk.now (machine c.args.self.now.stage.staged) (sym c.is_gone.ensures ∙ c.if-is_gone.false) (omega (arith, c.taken-at.ensures, c.length.ensures, c.if-at-length.false)))

pub returns-clause-state : goal.returns-clause-state
returns-clause-state c =
    let next = some_next c.args.desk.now (machine c.args.self.now.stage.staged) c.in-Some.entry.now (sym c.is_gone.ensures ∙ c.if-is_gone.false)
    (subst (λ (n : ℕ). slice_get (entries c.args.desk.now) n ≡ Some c.in-Some.entry.now) c.taken-at.ensures
    (first_entry (entries c.args.desk.now) c.taken-at.result (c.taken-at.result + 1 - c.taken-at.result) (Some c.in-Some.entry.now) (omega arith)
    (ap (λ es. slice_get es 0) (sym (c.deref.ensures.value ∙ c.in_ok-found.ensures.entries)) ∙ sym c.in-Some.ensures.value))) in
    taken_state c.args.desk.now c.args.self.now
    (record { who = c.args.self.now.who; name = c.args.self.now.name; stage = c.take.new.stage; waiting = c.take.new.self; driver = c.args.self.now.driver })
    c.in-Some.entry.now next refl refl c.in_ok-take.ensures.stage c.in_ok-take.ensures.blocks

pub returns-clause-kept : goal.returns-clause-kept
returns-clause-kept c =
    let next = some_next c.args.desk.now (machine c.args.self.now.stage.staged) c.in-Some.entry.now (sym c.is_gone.ensures ∙ c.if-is_gone.false)
    (subst (λ (n : ℕ). slice_get (entries c.args.desk.now) n ≡ Some c.in-Some.entry.now) c.taken-at.ensures
    (first_entry (entries c.args.desk.now) c.taken-at.result (c.taken-at.result + 1 - c.taken-at.result) (Some c.in-Some.entry.now) (omega arith)
    (ap (λ es. slice_get es 0) (sym (c.deref.ensures.value ∙ c.in_ok-found.ensures.entries)) ∙ sym c.in-Some.ensures.value))) in
    kept_taken c.args.self.now
    (record { who = c.args.self.now.who; name = c.args.self.now.name; stage = c.take.new.stage; waiting = c.take.new.self; driver = c.args.self.now.driver })
    c.in-Some.entry.now c.in_ok-take.ensures.stage (c.requires.fits c.in-Some.entry.now next).1.place c.in_ok-take.ensures.blocks refl refl c.requires.kept

pub returns-clause-stage : goal.returns-clause-stage
returns-clause-stage c =
    inr (
      c.in-Some.entry.now,
      some_next c.args.desk.now (machine c.args.self.now.stage.staged) c.in-Some.entry.now (sym c.is_gone.ensures ∙ c.if-is_gone.false)
          (subst (λ (n : ℕ). slice_get (entries c.args.desk.now) n ≡ Some c.in-Some.entry.now) c.taken-at.ensures
          (first_entry (entries c.args.desk.now) c.taken-at.result (c.taken-at.result + 1 - c.taken-at.result) (Some c.in-Some.entry.now) (omega arith)
          (ap (λ es. slice_get es 0) (sym (c.deref.ensures.value ∙ c.in_ok-found.ensures.entries)) ∙ sym c.in-Some.ensures.value))),
      c.in_ok-take.ensures.stage,
    )

pub returns-in_err-take-clause-stage : goal.returns-in_err-take-clause-stage
returns-in_err-take-clause-stage c = inl c.in_err-take.ensures.stage_kept
