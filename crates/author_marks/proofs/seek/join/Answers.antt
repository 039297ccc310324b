use Rattle.std.proofs.Common.{◌+◌, refl, drop, ◌∙◌, sym, ap, arith}
use Rattle.author_marks.specs.GapRuns.{last_run, first_run}
use Rattle.author_marks.proofs.LastRun.{differ_as, no_first, no_last}
use Rattle.author_marks.proofs.WrittenMarks.{length_last, length_first, length_whole, written_joined, length_joined}
use Rattle.author_marks.proofs.AreTidy.{tidy_first, tidy_behind_first, tidy_joined, tidy_both}
use Rattle.author_marks.proofs.seek.join.Goals as goal

pub overflow_add-last : goal.overflow_add-last
overflow_add-last c =
    let last = sym (c.in-Some-Some.ensures ∙ ap last_run c.front.ensures.value) in
    let first = sym (c.in-Some-Some.ensures' ∙ ap first_run c.behind.ensures.value) in
    let runs = c.args.runs.now in
    omega (
      arith,
      length_last runs.front c.in-Some-Some.last last,
      length_first runs.behind c.in-Some-Some.first first,
      length_whole runs.front runs.behind,
    )

pub returns-in-Some-Some-clause-marks : goal.returns-in-Some-Some-clause-marks
returns-in-Some-Some-clause-marks c =
    let last = sym (c.in-Some-Some.ensures ∙ ap last_run c.front.ensures.value) in
    let first = sym (c.in-Some-Some.ensures' ∙ ap first_run c.behind.ensures.value) in
    let runs = c.args.runs.now in
    rw (c.put_front.ensures.front, c.put_front.ensures.behind, c.take_behind.ensures.front, c.take_behind.ensures.behind, c.take_front.ensures.front, c.take_front.ensures.behind)
    (written_joined runs.front runs.behind c.in-Some-Some.last c.in-Some-Some.first last first c.if-last-first.true)

pub returns-in-Some-Some-clause-before : goal.returns-in-Some-Some-clause-before
returns-in-Some-Some-clause-before c =
    let last = sym (c.in-Some-Some.ensures ∙ ap last_run c.front.ensures.value) in
    let joined = length_joined c.args.runs.now.front c.in-Some-Some.last c.in-Some-Some.first.count last in
    rw (c.put_front.ensures.front, c.take_behind.ensures.front, c.take_front.ensures.front) (omega (arith, joined))

pub returns-in-Some-Some-clause-tidy : goal.returns-in-Some-Some-clause-tidy
returns-in-Some-Some-clause-tidy c =
    let last = sym (c.in-Some-Some.ensures ∙ ap last_run c.front.ensures.value) in
    let first = sym (c.in-Some-Some.ensures' ∙ ap first_run c.behind.ensures.value) in
    let runs = c.args.runs.now in
    let some = tidy_first c.in-Some-Some.first (drop 1 runs.behind) (tidy_behind_first runs.behind c.in-Some-Some.first first c.requires.behind_tidy) in
    rw (c.put_front.ensures.front, c.put_front.ensures.behind, c.take_behind.ensures.front, c.take_behind.ensures.behind, c.take_front.ensures.front, c.take_front.ensures.behind)
    (tidy_joined runs.front runs.behind c.in-Some-Some.last c.in-Some-Some.first record { who = c.in-Some-Some.last.who; count = c.in-Some-Some.last.count + c.in-Some-Some.first.count } last first c.if-last-first.true (omega (arith, some)) refl c.requires.front_tidy c.requires.behind_tidy)

pub returns-in_default-clause-tidy : goal.returns-in_default-clause-tidy
returns-in_default-clause-tidy c =
    tidy_both c.args.runs.now.front c.args.runs.now.behind c.requires.front_tidy c.requires.behind_tidy (λ last first e i.
    differ_as last first c.in-Some-Some.last c.in-Some-Some.first c.args.runs.now.front c.args.runs.now.behind e i
    (sym (c.in-Some-Some.ensures ∙ ap last_run c.front.ensures.value)) (sym (c.in-Some-Some.ensures' ∙ ap first_run c.behind.ensures.value)) c.if-last-first.false)

pub returns-in_default-2-clause-tidy : goal.returns-in_default-2-clause-tidy
returns-in_default-2-clause-tidy c =
    tidy_both c.args.runs.now.front c.args.runs.now.behind c.requires.front_tidy c.requires.behind_tidy (λ last first e i. absurd (no_first first c.args.runs.now.behind i (sym (c.in_default.ensures' ∙ ap first_run c.behind.ensures.value))))

pub returns-in_default-3-clause-tidy : goal.returns-in_default-3-clause-tidy
returns-in_default-3-clause-tidy c =
    tidy_both c.args.runs.now.front c.args.runs.now.behind c.requires.front_tidy c.requires.behind_tidy (λ last first e i. absurd (no_last last c.args.runs.now.front e (ap last_run (sym c.front.ensures.value) ∙ sym c.last_run.ensures ∙ c.in_default.is-0)))
