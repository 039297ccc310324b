use Rattle.std.proofs.Common.{◌≡◌, ℕ, List, refl, sym, ap, ◌∙◌, subst, IfOk, arith}
use Rattle.wire_print.specs.Printed.{drill_data, printed_line}
use Rattle.world_core.specs.Values.{state_of}
use Rattle.drill_run.specs.Drilling.{DrillState, after_lines, new_drill}
use Rattle.drill_run.specs.OpenWorlds.{IsOpenWorld}
use Rattle.drill_run.specs.Script.{IsScripted}
use Rattle.drill_run.proofs.AfterLines.{all_drawn, join_taken, joined_open, joined_scripted, joins_done, none_after, other_drawn, unfit_drawn}
use Rattle.drill_run.proofs.AfterRound.{drained_open}
use Rattle.drill_run.proofs.DrawnLine.{on_ok}
use Rattle.drill_run.proofs.Ends.{ends, line_is}
use Rattle.drill_run.proofs.runs.play.Goals as goal
use Rattle.drill_run.proofs.runs.play.Goals.{in-Unfit, in_default}

pub loop-join-init : goal.loop-join-init
loop-join-init c = record {
  world_is = c.new-world.ensures.state ∙ sym (ap (λ (d : DrillState). d.world) (none_after (new_drill c.args.seed)));
  number_is = c.new-draws.ensures ∙ sym (ap (λ (d : DrillState). d.number) (none_after (new_drill c.args.seed)));
}

pub next_step-requires : goal.next_step-requires
next_step-requires c = subst IsScripted (sym c.loop-join.invariant.world_is) (joined_scripted c.args.seed c.loop-join._join-index (omega arith))

pub loop-join-preserved : goal.loop-join-preserved
loop-join-preserved c =
    let taken = join_taken (new_drill c.args.seed) c.loop-join._join-index c.loop-join.draws c.next_step.new.draws (state_of c.loop-join.world) (state_of c.next_step.new.world) c.loop-join.invariant.world_is c.loop-join.invariant.number_is
    c.in_ok-next_step.ensures.state c.in_ok-next_step.ensures.number in
    record { world_is = taken.0; number_is = taken.1 }

pub loop-step-init : goal.loop-step-init
loop-step-init c = record {
  drill_is = joins_done c.args.seed c.loop-join._join-index c.loop-join.draws (state_of c.loop-join.world) (omega arith) (omega arith) c.loop-join.invariant.world_is c.loop-join.invariant.number_is;
  open_is =
      let three : c.loop-join._join-index ≡ 3 = omega arith in
      subst IsOpenWorld (sym (c.loop-join.invariant.world_is ∙ ap (λ (k : ℕ). (after_lines k (new_drill c.args.seed)).world) three)) (joined_open c.args.seed);
  few = omega arith;
}

pub loop-step-preserved : goal.loop-step-preserved
loop-step-preserved c =
    elim c.match-branch-3.branch [
      | in-Unfit w ↦
          unfit_drawn (after_lines 3 (new_drill c.args.seed)) c.loop-step._step c.loop-step.draws c.loop-step.unfit c.next_step-in-loop-step.new.draws (state_of c.loop-step.world) (state_of c.next_step-in-loop-step.new.world) c.in_ok-next_step-2.field-0
          c.loop-step.invariant c.in_ok-next_step-2.ensures.told c.in_ok-next_step-2.ensures.state c.in_ok-next_step-2.ensures.number c.match-branch-3.unfit w.in-Unfit.is w.unfit-is
      | in_default w ↦
          other_drawn (after_lines 3 (new_drill c.args.seed)) c.loop-step._step c.loop-step.draws c.loop-step.unfit c.next_step-in-loop-step.new.draws (state_of c.loop-step.world) (state_of c.next_step-in-loop-step.new.world) c.in_ok-next_step-2.field-0
          c.loop-step.invariant c.in_ok-next_step-2.ensures.told c.in_ok-next_step-2.ensures.state c.in_ok-next_step-2.ensures.number c.match-branch-3.unfit w.in_default.not-Unfit w.unfit-is
    ]

pub sum_up-requires : goal.sum_up-requires
sum_up-requires c = (subst IsOpenWorld (sym c.in_ok-drain.ensures.state) (drained_open (state_of c.loop-step.world) c.loop-step.invariant.open_is)).numbers_are

pub returns-clause-line : goal.returns-clause-line
returns-clause-line c =
    let drawn = all_drawn (after_lines 3 (new_drill c.args.seed)) c.loop-step._step c.args.steps c.loop-step.draws c.loop-step.unfit (state_of c.loop-step.world) c.loop-step.invariant (omega arith) (omega arith) in
    subst (λ (t : List ℕ). IfOk c.print_drill.result (λ l. l.items ≡ t))
    (line_is c.args.seed c.args.steps c.loop-step.unfit (state_of c.loop-step.world) (state_of c.drain.new.world) c.sum_up.result (printed_line (drill_data c.sum_up.result)) drawn.0 drawn.1 c.in_ok-drain.ensures.state c.sum_up.ensures refl)
    c.print_drill.ensures

pub returns-clause-equal : goal.returns-clause-equal
returns-clause-equal c =
    let drawn = all_drawn (after_lines 3 (new_drill c.args.seed)) c.loop-step._step c.args.steps c.loop-step.draws c.loop-step.unfit (state_of c.loop-step.world) c.loop-step.invariant (omega arith) (omega arith) in
    on_ok c.print_drill.result (ends c.args.seed c.args.steps (state_of c.loop-step.world) (state_of c.drain.new.world) drawn.0 c.in_ok-drain.ensures.state c.in_ok-drain.ensures.sound c.in_ok-drain.ensures.drained)
