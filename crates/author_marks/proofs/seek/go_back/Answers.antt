use Rattle.std.proofs.Common.{◌-◌, ◌∙◌, sym, ap, length, arith}
use Rattle.std.proofs.lemmas.List.{take-append-drop}
use Rattle.gap_buffer.specs.Gapped.{whole_list}
use Rattle.author_marks.specs.GapRuns.{last_run}
use Rattle.author_marks.proofs.WrittenMarks.{none_written_last, length_last, before_back}
use Rattle.author_marks.proofs.seek.go_back.Goals as goal

pub returns-in_default-clause-reached : goal.returns-in_default-clause-reached
returns-in_default-clause-reached c =
    let none = none_written_last c.loop-at.runs.front (sym (c.in_default.ensures ∙ ap last_run c.front.ensures.value)) in
    absurd (omega (arith, none, c.loop-at.invariant.before))

pub overflow_sub-at : goal.overflow_sub-at
overflow_sub-at c =
    let is = sym (c.in-Some.ensures ∙ ap last_run c.front.ensures.value) in
    omega (arith, length_last c.loop-at.runs.front c.in-Some.last is, c.loop-at.invariant.before)

pub loop-at-preserved : goal.loop-at-preserved
loop-at-preserved c =
    let is = sym (c.in-Some.ensures ∙ ap last_run c.front.ensures.value) in
    let back = before_back c.loop-at.runs.front c.loop-at.runs.behind c.in-Some.last is in
    let start = ap (λ runs. length runs - 1) c.front-in-loop-at.ensures.value in
    rw (c.move_to.ensures.front, c.move_to.ensures.behind, start) (record {
      runs = take-append-drop (length c.loop-at.runs.front - 1) (whole_list c.loop-at.runs) ∙ c.loop-at.invariant.runs;
      before = omega (arith, back, c.loop-at.invariant.before);
      spare = c.move_to.ensures.spare ∙ c.loop-at.invariant.spare;
    })
