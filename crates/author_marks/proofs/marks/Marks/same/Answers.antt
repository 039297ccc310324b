use Rattle.std.proofs.Common.{◌∙◌, sym, ap, map}
use Rattle.ot_text.specs.Marked.{runs_of}
use Rattle.author_marks.specs.Runs.{run_of}
use Rattle.author_marks.specs.GapRuns.{written_marks}
use Rattle.author_marks.proofs.JoinedRuns.{joined_runs-are, written-joined_runs}
use Rattle.author_marks.proofs.marks.Marks.same.Goals as goal

pub returns : goal.returns
returns c =
    let a = c.self.inside.runs in
    let b = c.other.inside.runs in
    rw (← c.self.view_is, ← c.other.view_is) (
      λ t. sym (written-joined_runs a.front a.behind) ∙ ap written_marks (c.same_runs.ensures.0 t) ∙ written-joined_runs b.front b.behind,
      λ e. c.same_runs.ensures.1 (
          sym (joined_runs-are a.front a.behind c.self.invariant.front_tidy c.self.invariant.behind_tidy) ∙ ap (λ marks. map run_of (runs_of marks)) e
          ∙ joined_runs-are b.front b.behind c.other.invariant.front_tidy c.other.invariant.behind_tidy
          ),
    )
