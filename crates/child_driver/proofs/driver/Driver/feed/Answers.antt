use Rattle.std.proofs.Common.{[], ◌∙◌, ap}
use Rattle.std.proofs.lemmas.Result.{err_from_is_err_and}
use Rattle.child_driver.specs.Drivers.{Sight, sight_of}
use Rattle.child_driver.proofs.FeedsTo.{held_more, steady_same, steady_step, steps_same, step_of, told_feed, faults_feed, given_feed}
use Rattle.child_driver.proofs.driver.Driver.feed.Goals as goal

pub invariant_of-self-in_err-make_ready : goal.invariant_of-self-in_err-make_ready
invariant_of-self-in_err-make_ready g c = record {
  steady = steady_same _ _ _ _ _ (ap (λ (s : Sight). s.stands) (c.make_ready.ensures.same [])) c.reserve.ensures.notes c.self.invariant.steady;
  held = c.make_ready.ensures.held _ (held_more g.H.Hatch.graves g.H.C.Child.closed c.self.inside.hatch c.self.inside.life _ _ c.reserve.ensures.spare c.self.invariant.held);
}

pub returns-in_err-make_ready-clause-memory : goal.returns-in_err-make_ready-clause-memory
returns-in_err-make_ready-clause-memory g c =
    let see = sight_of g.H.Hatch.buried g.H.Hatch.starts g.H.Hatch.faults g.H.C.Child.taken g.H.C.Child.limit g.H.C.Child.faults in
    let p = err_from_is_err_and c.from_residual-in_err-make_ready.result c.from_residual-in_err-make_ready.ensures.1 in
    rw p.1 (c.make_ready.ensures.same _
    ∙ ap (see c.self.inside.hatch c.self.inside.life) c.reserve.ensures.notes
    ∙ ap (λ d. see d.hatch d.life d.notes) c.self.view_is)

pub invariant_of-self-2 : goal.invariant_of-self-2
invariant_of-self-2 g c = record {
  steady = steady_step _ _ _ _ _ _ _ c.feed_either.ensures.step
      (steady_same _ _ _ _ _ (ap (λ (s : Sight). s.stands) (c.make_ready.ensures.same [])) c.reserve.ensures.notes c.self.invariant.steady);
  held = c.feed_either.ensures.held;
}

pub returns-clause-step : goal.returns-clause-step
returns-clause-step g c =
    let h = g.H.Hatch in
    let k = g.H.C.Child in
    let see = sight_of h.buried h.starts h.faults k.taken k.limit k.faults in
    step_of h.buried h.starts h.faults k.taken k.limit k.faults _ c.args.self.now c.args.block.now _ _ c.self.view_is
    (steps_same _ _ _ _ _ _ _ _ _ c.as_slice-3.ensures.value (c.as_slice-4.ensures.value ∙ c.in_ok-bytes.ensures)
    (c.make_ready.ensures.same _ ∙ ap (see c.self.inside.hatch c.self.inside.life) c.reserve.ensures.notes) c.feed_either.ensures.step)

pub returns-clause-told : goal.returns-clause-told
returns-clause-told g c calm blocks told below =
    let h = g.H.Hatch in
    let k = g.H.C.Child in
    let see = sight_of h.buried h.starts h.faults k.taken k.limit k.faults in
    (told_feed h.buried h.starts h.faults k.taken k.limit k.faults _ c.args.self.now
    (record c.args.self.now { hatch = c.feed_either.new.hatch; life = c.feed_either.new.life; notes = c.feed_either.new.journal.notes })
    c.args.block.now _ c.self.view_is c.self.invariant.steady
    (steps_same _ _ _ _ _ _ _ _ _ c.as_slice-3.ensures.value (c.as_slice-4.ensures.value ∙ c.in_ok-bytes.ensures)
    (c.make_ready.ensures.same _ ∙ ap (see c.self.inside.hatch c.self.inside.life) c.reserve.ensures.notes) c.feed_either.ensures.step) calm blocks told below).0

pub returns-clause-fate : goal.returns-clause-fate
returns-clause-fate g c calm blocks told below =
    let h = g.H.Hatch in
    let k = g.H.C.Child in
    let see = sight_of h.buried h.starts h.faults k.taken k.limit k.faults in
    (told_feed h.buried h.starts h.faults k.taken k.limit k.faults _ c.args.self.now
    (record c.args.self.now { hatch = c.feed_either.new.hatch; life = c.feed_either.new.life; notes = c.feed_either.new.journal.notes })
    c.args.block.now _ c.self.view_is c.self.invariant.steady
    (steps_same _ _ _ _ _ _ _ _ _ c.as_slice-3.ensures.value (c.as_slice-4.ensures.value ∙ c.in_ok-bytes.ensures)
    (c.make_ready.ensures.same _ ∙ ap (see c.self.inside.hatch c.self.inside.life) c.reserve.ensures.notes) c.feed_either.ensures.step) calm blocks told below).1

pub returns-clause-faults : goal.returns-clause-faults
returns-clause-faults g c =
    let h = g.H.Hatch in
    let k = g.H.C.Child in
    let see = sight_of h.buried h.starts h.faults k.taken k.limit k.faults in
    faults_feed h.buried h.starts h.faults k.taken k.limit k.faults _ c.args.self.now
    (record c.args.self.now { hatch = c.feed_either.new.hatch; life = c.feed_either.new.life; notes = c.feed_either.new.journal.notes })
    c.args.block.now _ c.self.view_is
    (steps_same _ _ _ _ _ _ _ _ _ c.as_slice-3.ensures.value (c.as_slice-4.ensures.value ∙ c.in_ok-bytes.ensures)
    (c.make_ready.ensures.same _ ∙ ap (see c.self.inside.hatch c.self.inside.life) c.reserve.ensures.notes) c.feed_either.ensures.step)

pub returns-clause-handed : goal.returns-clause-handed
returns-clause-handed g c =
    let h = g.H.Hatch in
    let k = g.H.C.Child in
    let see = sight_of h.buried h.starts h.faults k.taken k.limit k.faults in
    given_feed h.buried h.starts h.faults k.taken k.limit k.faults _ c.args.self.now
    (record c.args.self.now { hatch = c.feed_either.new.hatch; life = c.feed_either.new.life; notes = c.feed_either.new.journal.notes })
    c.args.block.now _ c.self.view_is
    (steps_same _ _ _ _ _ _ _ _ _ c.as_slice-3.ensures.value (c.as_slice-4.ensures.value ∙ c.in_ok-bytes.ensures)
    (c.make_ready.ensures.same _ ∙ ap (see c.self.inside.hatch c.self.inside.life) c.reserve.ensures.notes) c.feed_either.ensures.step)
