use Rattle.std.proofs.Common.{◌∙◌, sym, ap, arith}
use Rattle.author_marks.specs.GapRuns.{last_run, first_run}
use Rattle.author_marks.proofs.JoinGain.{join_gain-le}
use Rattle.author_marks.proofs.WrittenMarks.{none_written_first, length_first, drop_first}
use Rattle.author_marks.proofs.AreTidy.{tidy_drop}
use Rattle.author_marks.proofs.edits.take_marks.Goals as goal

pub returns-in_default-clause-behind : goal.returns-in_default-clause-behind
returns-in_default-clause-behind c =
    let none = none_written_first c.loop-left.runs.behind (sym (c.in_default.ensures ∙ ap first_run c.behind.ensures.value)) in
    absurd (omega (arith, none, c.loop-left.invariant.within))

pub loop-left-preserved : goal.loop-left-preserved
loop-left-preserved c =
    let is = sym (c.in-Some.ensures ∙ ap first_run c.behind.ensures.value) in
    let le = join_gain-le (last_run c.loop-left.runs.front) (first_run c.loop-left.runs.behind) in
    rw (c.take_behind.ensures.front, c.take_behind.ensures.behind) (record {
      front = c.loop-left.invariant.front;
      within = omega (arith, length_first c.loop-left.runs.behind c.in-Some.first is);
      behind = drop_first c.loop-left.runs.behind c.in-Some.first c.loop-left.left is (omega arith) ∙ c.loop-left.invariant.behind;
      tidy = tidy_drop c.loop-left.runs.behind c.loop-left.invariant.tidy;
      room = omega (arith, le, c.loop-left.invariant.room);
    })
