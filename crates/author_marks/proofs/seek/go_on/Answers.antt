use Rattle.std.proofs.Common.{◌+◌, ◌∙◌, subst, sym, ap, length, arith}
use Rattle.std.proofs.lemmas.List.{take-append-drop}
use Rattle.gap_buffer.specs.Gapped.{whole_list}
use Rattle.author_marks.specs.GapRuns.{AreTidy, written_marks, first_run}
use Rattle.author_marks.proofs.WrittenMarks.{none_written_first, length_whole, before_on}
use Rattle.author_marks.proofs.AreTidy.{tidy_left, tidy_right}
use Rattle.author_marks.proofs.seek.go_on.Goals as goal

pub returns-in_default-clause-place : goal.returns-in_default-clause-place
returns-in_default-clause-place c =
    let none = none_written_first c.loop-at.runs.behind (sym (c.in_default.ensures ∙ ap first_run c.behind.ensures.value)) in
    absurd (omega (
      arith,
      none,
      length_whole c.loop-at.runs.front c.loop-at.runs.behind,
      ap (λ runs. length (written_marks runs)) c.loop-at.invariant.runs,
      c.loop-at.invariant.before,
    ))

pub loop-at-preserved : goal.loop-at-preserved
loop-at-preserved c =
    let is = sym (c.in-Some.ensures ∙ ap first_run c.behind.ensures.value) in
    let on = before_on c.loop-at.runs.front c.loop-at.runs.behind c.in-Some.first is in
    let end = ap (λ runs. length runs + 1) c.front.ensures.value in
    rw (c.move_to.ensures.front, c.move_to.ensures.behind, end) (record {
      runs = take-append-drop (length c.loop-at.runs.front + 1) (whole_list c.loop-at.runs) ∙ c.loop-at.invariant.runs;
      before = omega (arith, on, c.loop-at.invariant.before);
      behind = omega arith;
      spare = c.move_to.ensures.spare ∙ c.loop-at.invariant.spare;
    })

pub returns-clause-front_tidy : goal.returns-clause-front_tidy
returns-clause-front_tidy c =
    tidy_left c.loop-at.runs.front c.loop-at.runs.behind (subst (λ r. AreTidy r) (sym c.loop-at.invariant.runs) c.requires.tidy)

pub returns-clause-behind_tidy : goal.returns-clause-behind_tidy
returns-clause-behind_tidy c =
    tidy_right c.loop-at.runs.front c.loop-at.runs.behind (subst (λ r. AreTidy r) (sym c.loop-at.invariant.runs) c.requires.tidy)

pub returns-in_default-clause-front_tidy : goal.returns-in_default-clause-front_tidy
returns-in_default-clause-front_tidy c =
    tidy_left c.loop-at.runs.front c.loop-at.runs.behind (subst (λ r. AreTidy r) (sym c.loop-at.invariant.runs) c.requires.tidy)

pub returns-in_default-clause-behind_tidy : goal.returns-in_default-clause-behind_tidy
returns-in_default-clause-behind_tidy c =
    tidy_right c.loop-at.runs.front c.loop-at.runs.behind (subst (λ r. AreTidy r) (sym c.loop-at.invariant.runs) c.requires.tidy)
