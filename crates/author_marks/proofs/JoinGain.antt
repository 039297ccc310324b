-- How many runs fewer a join makes.
use Rattle.std.proofs.Common.{◌≡◌, ℕ, ◌≤◌, List, [], ◌∷◌, ◌++◌, refl, arith}
use Rattle.std.proofs.lemmas.Bool.{eq-eqb}
use Rattle.std.proofs.lemmas.Bool.Decides.{nat_tests}
use Rattle.std.specs.Prelude.{Option, None, Some}
use Rattle.author_marks.specs.declared.run.Run.{Run}
use Rattle.author_marks.specs.GapRuns.{join_gain, last_run, first_run}
use Rattle.author_marks.proofs.LastRun.{last_run-push}

-- two neighbours of one number
pub join_gain-same : (runs rest : List Run) (who count other : ℕ)
    → join_gain (last_run (runs ++ record { who = who; count = count } ∷ [])) (first_run (record { who = who; count = other } ∷ rest)) ≡ 1
join_gain-same runs rest who count other = rw (last_run-push runs record { who = who; count = count }, eq-eqb who who refl) refl

-- a join makes one run fewer at most
pub join_gain-le : (run next : Option Run) → join_gain run next ≤ 1
join_gain-le None next = omega arith
join_gain-le (Some run) None = omega arith
join_gain-le (Some run) (Some next) = grind (arith, nat_tests)
