use Rattle.std.proofs.Common.{◌+◌, ◌∷◌, [], refl, ◌∙◌, sym, ap, arith}
use Rattle.author_marks.specs.GapRuns.{last_run}
use Rattle.author_marks.proofs.LastRun.{differ_as, no_last}
use Rattle.author_marks.proofs.WrittenMarks.{length_last, written_longer}
use Rattle.author_marks.proofs.AreTidy.{tidy_longer, tidy_both}
use Rattle.author_marks.specs.declared.run.Run.{Run}
use Rattle.author_marks.proofs.edits.put_marks.Goals as goal
use Rattle.author_marks.proofs.edits.put_marks.Goals.{in_default-via-in-Some+else-last-who, in_default-via-in_default}

pub overflow_add-count : goal.overflow_add-count
overflow_add-count c =
    omega (arith, length_last c.args.runs.now.front c.in-Some.last (sym (c.in-Some.ensures ∙ ap last_run c.front.ensures.value)))

pub returns-in-Some-clause-front : goal.returns-in-Some-clause-front
returns-in-Some-clause-front c =
    let is = sym (c.in-Some.ensures ∙ ap last_run c.front.ensures.value) in
    rw (c.put_front.ensures.front, c.take_front.ensures.front)
    (written_longer c.args.runs.now.front c.in-Some.last c.args.who c.args.count is c.if-last-who.true)

pub returns-in-Some-clause-tidy : goal.returns-in-Some-clause-tidy
returns-in-Some-clause-tidy c =
    let is = sym (c.in-Some.ensures ∙ ap last_run c.front.ensures.value) in
    rw (c.put_front.ensures.front, c.take_front.ensures.front)
    (tidy_longer c.args.runs.now.front c.in-Some.last record { who = c.args.who; count = c.in-Some.last.count + c.args.count } is (omega (arith, c.requires.some)) (sym c.if-last-who.true) c.requires.tidy)

pub returns-in_default-clause-tidy : goal.returns-in_default-clause-tidy
returns-in_default-clause-tidy c =
    let run : Run = record { who = c.args.who; count = c.args.count } in
    let is = ap last_run (sym c.front.ensures.value) ∙ sym c.last_run.ensures in
    rw c.put_front-in_default.ensures.front
    (tidy_both c.args.runs.now.front (run ∷ []) c.requires.tidy c.requires.some (λ last first e i.
    elim c.in_default.branch [
      | in_default-via-in-Some+else-last-who w ↦ differ_as last first w.in-Some.last run c.args.runs.now.front (run ∷ []) e i (is ∙ w.in-Some.is) refl w.if-last-who.false
      | in_default-via-in_default w ↦ absurd (no_last last c.args.runs.now.front e (is ∙ w.in_default.is))
    ]))
