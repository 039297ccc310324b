use Rattle.std.proofs.Common.{◌∙◌, sym, ap, arith}
use Rattle.author_marks.specs.GapRuns.{last_run, first_run}
use Rattle.author_marks.proofs.LastRun.{differ_as, no_first, no_last}
use Rattle.author_marks.proofs.WrittenMarks.{length_last, length_first, length_whole}
use Rattle.author_marks.proofs.JoinedRuns.{joined_runs-joined, joined_runs-apart}
use Rattle.author_marks.proofs.joined.joined_run.Goals as goal

pub overflow_add-result : goal.overflow_add-result
overflow_add-result c =
    let last = sym (c.in-Some-Some.ensures ∙ ap last_run c.front.ensures.value) in
    let first = sym (c.in-Some-Some.ensures' ∙ ap first_run c.behind.ensures.value) in
    let runs = c.args.runs.now in
    omega (
      arith,
      length_last runs.front c.in-Some-Some.last last,
      length_first runs.behind c.in-Some-Some.first first,
      length_whole runs.front runs.behind,
    )

pub returns-in-Some-Some-clause-joined : goal.returns-in-Some-Some-clause-joined
returns-in-Some-Some-clause-joined c =
    let last = sym (c.in-Some-Some.ensures ∙ ap last_run c.front.ensures.value) in
    let first = sym (c.in-Some-Some.ensures' ∙ ap first_run c.behind.ensures.value) in
    joined_runs-joined c.args.runs.now.front c.args.runs.now.behind c.in-Some-Some.last c.in-Some-Some.first last first c.if-last-first.true

pub returns-in_default-clause-apart : goal.returns-in_default-clause-apart
returns-in_default-clause-apart c = λ none. joined_runs-apart c.args.runs.now.front c.args.runs.now.behind (λ last first e i.
    differ_as last first c.in-Some-Some.last c.in-Some-Some.first c.args.runs.now.front c.args.runs.now.behind e i
    (sym (c.in-Some-Some.ensures ∙ ap last_run c.front.ensures.value)) (sym (c.in-Some-Some.ensures' ∙ ap first_run c.behind.ensures.value)) c.if-last-first.false)

pub returns-in_default-2-clause-apart : goal.returns-in_default-2-clause-apart
returns-in_default-2-clause-apart c = λ none. joined_runs-apart c.args.runs.now.front c.args.runs.now.behind (λ last first e i. absurd (no_first first c.args.runs.now.behind i (sym (c.in_default.ensures' ∙ ap first_run c.behind.ensures.value))))

pub returns-in_default-3-clause-apart : goal.returns-in_default-3-clause-apart
returns-in_default-3-clause-apart c = λ none. joined_runs-apart c.args.runs.now.front c.args.runs.now.behind (λ last first e i. absurd (no_last last c.args.runs.now.front e (ap last_run (sym c.front.ensures.value) ∙ sym c.last_run.ensures ∙ c.in_default.is-0)))
