use Rattle.std.proofs.Common.{refl, arith, drop, ◌-◌}
use Rattle.author_marks.proofs.JoinGain.{join_gain-same}
use Rattle.author_marks.proofs.WrittenMarks.{written_split}
use Rattle.author_marks.proofs.AreTidy.{tidy_cut_front, tidy_cut_behind, tidy_right}
use Rattle.author_marks.proofs.seek.split_first.Goals as goal

pub returns-clause-marks : goal.returns-clause-marks
returns-clause-marks c =
    rw (c.put_behind.ensures.front, c.put_behind.ensures.behind, c.put_front.ensures.front, c.put_front.ensures.behind, c.take_behind.ensures.front, c.take_behind.ensures.behind)
    (written_split c.args.runs.now.front c.args.runs.now.behind c.args.first c.args.count c.requires.first (omega arith))

pub returns-clause-room : goal.returns-clause-room
returns-clause-room c =
    let same = join_gain-same c.args.runs.now.front (drop 1 c.args.runs.now.behind) c.args.first.who c.args.count (c.args.first.count - c.args.count) in
    rw (c.put_behind.ensures.front, c.put_behind.ensures.behind, c.put_front.ensures.front, c.take_behind.ensures.front) (omega (arith, same))

pub returns-clause-front_tidy : goal.returns-clause-front_tidy
returns-clause-front_tidy c =
    rw (c.put_behind.ensures.front, c.put_front.ensures.front, c.take_behind.ensures.front)
    (tidy_cut_front c.args.runs.now.front c.args.runs.now.behind c.args.first record { who = c.args.first.who; count = c.args.count } c.requires.first c.requires.some refl c.requires.tidy)

pub returns-clause-behind_tidy : goal.returns-clause-behind_tidy
returns-clause-behind_tidy c =
    rw (c.put_behind.ensures.behind, c.put_front.ensures.behind, c.take_behind.ensures.behind)
    (tidy_cut_behind c.args.runs.now.behind c.args.first record { who = c.args.first.who; count = c.args.first.count - c.args.count } c.requires.first (omega arith) refl (tidy_right c.args.runs.now.front c.args.runs.now.behind c.requires.tidy))
