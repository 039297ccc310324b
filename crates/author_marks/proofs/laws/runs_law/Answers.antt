use Rattle.author_marks.proofs.RunsOf.{runs_of-are, runs_of-only}
use Rattle.author_marks.proofs.laws.runs_law.Goals as goal

pub returns-clause-runs : goal.returns-clause-runs
returns-clause-runs c = runs_of-are

pub returns-clause-only : goal.returns-clause-only
returns-clause-only c = runs_of-only
