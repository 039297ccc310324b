use Rattle.std.proofs.Common.{refl, arith}
use Rattle.author_marks.specs.GapRuns.{joined_runs}
use Rattle.author_marks.proofs.JoinedRuns.{same_gets}
use Rattle.author_marks.proofs.joined.same_runs.Goals as goal

pub returns : goal.returns
returns c =
    let a = c.args.runs.now in
    let b = c.args.other.now in (
      λ t. same_gets (joined_runs a.front a.behind) (joined_runs b.front b.behind) (omega (arith, c.joined_len-len.ensures, c.joined_len.ensures, c.if-len-joined_len.false))
          (λ k within. c.loop-place.invariant k (omega (arith, c.joined_len-len.ensures))),
      λ e. refl,
    )
