-- The runs of marks are what they should be, and nothing else is.
use Rattle.std.proofs.Common.{◌≡◌, ℕ, zero, suc, ◌+◌, ◌≤◌, List, [], ◌∷◌, ◌++◌, replicate, refl, sym, ap, ◌∙◌, arith}
use Rattle.std.proofs.lemmas.Bool.{eqb-true, eqb-false, eq-eqb, ne_eqb, cond_both}
use Rattle.std.specs.Prelude.{All, ◌==◌}
use Rattle.ot_text.specs.Marked.{with_first, runs_of}
use Rattle.author_marks.specs.Runs.{marks_of_runs, NeighboursDiffer, AreRunsOf}

abbrev Runs : Type 0
Runs = List (ℕ × ℕ)

abbrev HaveCounts : Runs → Type 0
HaveCounts runs = All (λ run. 1 ≤ run.1) runs

counts-cons : (run : ℕ × ℕ) (runs : Runs) → 1 ≤ run.1 → HaveCounts runs → HaveCounts (run ∷ runs)
counts-cons run runs some h zero d l = some
counts-cons run runs some h (suc k) d l = h k d (omega arith)

counts-tail : (run : ℕ × ℕ) (runs : Runs) → HaveCounts (run ∷ runs) → HaveCounts runs
counts-tail run runs h k d l = h (suc k) d (omega arith)

counts-with_first : (who : ℕ) (runs : Runs) → HaveCounts runs → HaveCounts (with_first who runs)
counts-with_first who [] h = counts-cons (who, 1) [] (omega arith) h
counts-with_first who ((other, count) ∷ runs) h =
    cond_both (who == other) ((other, count + 1) ∷ runs) ((who, 1) ∷ (other, count) ∷ runs) HaveCounts
    (λ e. counts-cons (other, count + 1) runs (omega arith) (counts-tail (other, count) runs h))
    (λ e. counts-cons (who, 1) ((other, count) ∷ runs) (omega arith) h)

-- a run's count is of no matter to its neighbours
neighbours-count : (who count other : ℕ) (runs : Runs) → NeighboursDiffer ((who, count) ∷ runs)
    → NeighboursDiffer ((who, other) ∷ runs)
neighbours-count who count other [] h = tt
neighbours-count who count other (next ∷ runs) h = h

neighbours-with_first : (who : ℕ) (runs : Runs) → NeighboursDiffer runs → NeighboursDiffer (with_first who runs)
neighbours-with_first who [] h = tt
neighbours-with_first who ((other, count) ∷ runs) h =
    cond_both (who == other) ((other, count + 1) ∷ runs) ((who, 1) ∷ (other, count) ∷ runs) NeighboursDiffer
    (λ e. neighbours-count other count (count + 1) runs h) (λ e. (eqb-false who other e, h))

marks_of_runs-with_first : (who : ℕ) (runs : Runs) → marks_of_runs (with_first who runs) ≡ who ∷ marks_of_runs runs
marks_of_runs-with_first who [] = refl
marks_of_runs-with_first who ((other, count) ∷ runs) =
    cond_both (who == other) ((other, count + 1) ∷ runs) ((who, 1) ∷ (other, count) ∷ runs) (λ made. marks_of_runs made ≡ who ∷ marks_of_runs ((other, count) ∷ runs))
    (λ e. let more : count + 1 ≡ suc count = omega arith in rw (more, eqb-true who other e) refl) (λ e. refl)

-- the runs of marks are runs of them
pub runs_of-are : (marks : List ℕ) → AreRunsOf (runs_of marks) marks
runs_of-are [] = record { counts = λ k d l. absurd (omega arith); neighbours = tt; whole = refl }
runs_of-are (who ∷ marks) =
    let h = runs_of-are marks in
    record {
      counts = counts-with_first who (runs_of marks) h.counts;
      neighbours = neighbours-with_first who (runs_of marks) h.neighbours;
      whole = marks_of_runs-with_first who (runs_of marks) ∙ ap (λ rest. who ∷ rest) h.whole;
    }

-- one more mark in front of a run of its number, and in front of runs that begin with another number
with_first-unchanged : (who count : ℕ) (runs : Runs) → with_first who ((who, count) ∷ runs) ≡ (who, suc count) ∷ runs
with_first-unchanged who count runs = let more : count + 1 ≡ suc count = omega arith in rw (eq-eqb who who refl, more) refl

with_first-other : (who : ℕ) (runs : Runs) → NeighboursDiffer ((who, 1) ∷ runs) → with_first who runs ≡ (who, 1) ∷ runs
with_first-other who [] h = refl
with_first-other who ((other, count) ∷ runs) h = rw (ne_eqb who other h.0) refl

runs_of-replicate : (who k : ℕ) (marks : List ℕ) (runs : Runs) → runs_of marks ≡ runs → NeighboursDiffer ((who, 1) ∷ runs)
    → runs_of (replicate (suc k) who ++ marks) ≡ (who, suc k) ∷ runs
runs_of-replicate who zero marks runs e h = rw e (with_first-other who runs h)
runs_of-replicate who (suc k) marks runs e h = rw (runs_of-replicate who k marks runs e h) (with_first-unchanged who (suc k) runs)

neighbours-tail : (run : ℕ × ℕ) (runs : Runs) → NeighboursDiffer (run ∷ runs) → NeighboursDiffer runs
neighbours-tail run [] h = tt
neighbours-tail run (next ∷ runs) h = h.1

runs_of-marks_of_runs : (runs : Runs) → HaveCounts runs → NeighboursDiffer runs → runs_of (marks_of_runs runs) ≡ runs
runs_of-marks_of_runs [] some h = refl
runs_of-marks_of_runs ((who, zero) ∷ runs) some h = let one : 1 ≤ 0 = some 0 (who, zero) (omega arith) in absurd (omega arith)
runs_of-marks_of_runs ((who, suc k) ∷ runs) some h =
    runs_of-replicate who k (marks_of_runs runs) runs
    (runs_of-marks_of_runs runs (counts-tail (who, suc k) runs some) (neighbours-tail (who, suc k) runs h))
    (neighbours-count who (suc k) 1 runs h)

-- no other runs are runs of these marks
pub runs_of-only : (runs : Runs) (marks : List ℕ) → AreRunsOf runs marks → runs ≡ runs_of marks
runs_of-only runs marks h = sym (runs_of-marks_of_runs runs h.counts h.neighbours) ∙ ap runs_of h.whole
