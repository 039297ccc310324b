-- Runs of marks: neighbours of one number, told as the number and how many there are.
use Rattle.std.specs.Prelude.{◌≡◌, ◌≢◌, ℕ, ◌≤◌, List, [], ◌∷◌, All, flat_map, replicate}
use Rattle.author_marks.specs.declared.run.Run.{Run}

-- a pair of a number and a count, as a run
abbrev pub run_of : ℕ × ℕ → Run
run_of pair = record { who = pair.0; count = pair.1 }

-- the marks that the runs stand for, one after the other
abbrev pub marks_of_runs : List (ℕ × ℕ) → List ℕ
marks_of_runs runs = flat_map (λ run. replicate run.1 run.0) runs

-- no run has the number of the one before it
abbrev pub NeighboursDiffer : List (ℕ × ℕ) → Type 0
NeighboursDiffer [] = Unit {0}
NeighboursDiffer (run ∷ []) = Unit {0}
NeighboursDiffer (run ∷ next ∷ runs) = (run.0 ≢ next.0) × NeighboursDiffer (next ∷ runs)

-- the runs are those of the marks: none is empty, no neighbours have one number, and written out they are the marks
pub record AreRunsOf (runs : List (ℕ × ℕ)) (marks : List ℕ) : Type 0 where
  pub counts : All (λ run. 1 ≤ run.1) runs
  pub neighbours : NeighboursDiffer runs
  pub whole : marks_of_runs runs ≡ marks
