use Rattle.std.proofs.Common.{◌-◌, refl, arith}
use Rattle.author_marks.proofs.WrittenMarks.{drop_within}
use Rattle.author_marks.proofs.AreTidy.{tidy_cut_behind}
use Rattle.author_marks.proofs.edits.shorten_first.Goals as goal

pub returns-clause-behind : goal.returns-clause-behind
returns-clause-behind c =
    rw (c.put_behind.ensures.behind, c.take_behind.ensures.behind)
    (drop_within c.args.runs.now.behind c.args.first c.args.count c.requires.first (omega arith))

pub returns-clause-tidy : goal.returns-clause-tidy
returns-clause-tidy c =
    rw (c.put_behind.ensures.behind, c.take_behind.ensures.behind)
    (tidy_cut_behind c.args.runs.now.behind c.args.first record { who = c.args.first.who; count = c.args.first.count - c.args.count } c.requires.first (omega arith) refl c.requires.tidy)
