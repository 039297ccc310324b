use Rattle.author_marks.proofs.JoinedRuns.{joined_runs-are}
use Rattle.author_marks.proofs.marks.Marks.runs.Goals as goal

pub returns : goal.returns
returns c =
    let runs = c.self.inside.runs in
    rw (← c.self.view_is, joined_runs-are runs.front runs.behind c.self.invariant.front_tidy c.self.invariant.behind_tidy) c.joined_runs.ensures
