-- The runs on both sides of the gap are the runs of the marks.
use Rattle.std.proofs.Common.{◌≡◌, ◌≢◌, ℕ, zero, suc, ◌+◌, ◌-◌, ◌≤◌, ◌<◌, List, [], ◌∷◌, ◌++◌, length, map, take, drop, replicate, refl, sym, ap, ◌∙◌, append_assoc, arith}
use Rattle.std.proofs.lemmas.List.{replicate-append-replicate}
use Rattle.std.proofs.lemmas.Bool.{eqb-true, eqb-false, eq-eqb, ne_eqb, cond_both}
use Rattle.std.specs.Prelude.{Some, All, slice_get, ◌==◌}
use Rattle.ot_text.specs.Marked.{runs_of}
use Rattle.author_marks.specs.declared.run.Run.{Run}
use Rattle.author_marks.specs.Runs.{run_of, marks_of_runs, NeighboursDiffer}
use Rattle.author_marks.proofs.RunsOf.{runs_of-only}
use Rattle.author_marks.specs.GapRuns.{written_marks, AreTidy, last_run, first_run, with_first_run, joined_runs}
use Rattle.author_marks.proofs.AreTidy.{tidy_first, tidy_rest, tidy_first_other}
use Rattle.author_marks.proofs.LastRun.{split_last, split_first, last_more}

abbrev pair_of : Run → ℕ × ℕ
pair_of run = (run.who, run.count)

counts : (runs : List Run) → AreTidy runs → All (λ run. 1 ≤ run.1) (map pair_of runs)
counts [] h k d l = absurd (omega arith)
counts (run ∷ runs) h zero d l = tidy_first run runs h
counts (run ∷ runs) h (suc k) d l = counts runs (tidy_rest run runs h) k d (omega arith)

neighbours : (runs : List Run) → AreTidy runs → NeighboursDiffer (map pair_of runs)
neighbours [] h = tt
neighbours (run ∷ []) h = tt
neighbours (run ∷ next ∷ runs) h = (h.1, neighbours (next ∷ runs) h.2)

whole_is : (runs : List Run) → marks_of_runs (map pair_of runs) ≡ written_marks runs
whole_is [] = refl
whole_is (run ∷ runs) = ap (λ t. replicate run.count run.who ++ t) (whole_is runs)

back : (runs : List Run) → map run_of (map pair_of runs) ≡ runs
back [] = refl
back (run ∷ runs) = ap (λ rest. run ∷ rest) (back runs)

-- tidy runs are the runs of what they stand for
pub tidy_are : (runs : List Run) → AreTidy runs → map run_of (runs_of (written_marks runs)) ≡ runs
tidy_are runs h =
    ap (map run_of) (sym (runs_of-only (map pair_of runs) (written_marks runs) record { counts = counts runs h; neighbours = neighbours runs h; whole = whole_is runs }))
    ∙ back runs

written_join : (run : Run) (runs : List Run) → written_marks (with_first_run run runs) ≡ replicate run.count run.who ++ written_marks runs
written_join run [] = refl
written_join run (next ∷ runs) =
    cond_both (run.who == next.who) (record { who = run.who; count = run.count + next.count } ∷ runs) (run ∷ next ∷ runs) (λ made. written_marks made ≡ replicate run.count run.who ++ written_marks (next ∷ runs))
    (λ e.
    ap (λ t. t ++ written_marks runs) (sym (replicate-append-replicate run.count next.count run.who))
    ∙ append_assoc (replicate run.count run.who) (replicate next.count run.who) (written_marks runs)
    ∙ ap (λ w. replicate run.count run.who ++ (replicate next.count w ++ written_marks runs)) (eqb-true run.who next.who e))
    (λ e. refl)

-- the marks of the runs so joined are those of both sides
pub written-joined_runs : (front behind : List Run) → written_marks (joined_runs front behind) ≡ written_marks (front ++ behind)
written-joined_runs [] behind = refl
written-joined_runs (run ∷ []) behind = written_join run behind
written-joined_runs (run ∷ next ∷ front) behind = ap (λ t. replicate run.count run.who ++ t) (written-joined_runs (next ∷ front) behind)

tidy_join : (run : Run) (runs : List Run) → 1 ≤ run.count → AreTidy runs → AreTidy (with_first_run run runs)
tidy_join run [] some h = some
tidy_join run (next ∷ runs) some h =
    cond_both (run.who == next.who) (record { who = run.who; count = run.count + next.count } ∷ runs) (run ∷ next ∷ runs) AreTidy
    (λ e. tidy_first_other next record { who = run.who; count = run.count + next.count } runs (omega arith) (eqb-true run.who next.who e) h)
    (λ e. (some, eqb-false run.who next.who e, h))

-- what may stand in front of a run may stand in front of it and those that are joined with it
tidy_before : (run last : Run) (runs : List Run) → 1 ≤ run.count → run.who ≢ last.who → AreTidy (with_first_run last runs) → AreTidy (run ∷ with_first_run last runs)
tidy_before run last [] some differ h = (some, differ, h)
tidy_before run last (next ∷ runs) some differ h =
    cond_both (last.who == next.who) (record { who = last.who; count = last.count + next.count } ∷ runs) (last ∷ next ∷ runs) (λ made. AreTidy made → AreTidy (run ∷ made))
    (λ e h. (some, differ, h)) (λ e h. (some, differ, h)) h

-- tidy runs, so joined, are tidy
pub tidy-joined_runs : (front behind : List Run) → AreTidy front → AreTidy behind → AreTidy (joined_runs front behind)
tidy-joined_runs [] behind h i = i
tidy-joined_runs (run ∷ []) behind h i = tidy_join run behind h i
tidy-joined_runs (run ∷ next ∷ []) behind h i = tidy_before run next behind h.0 h.1 (tidy_join next behind h.2 i)
tidy-joined_runs (run ∷ next ∷ more ∷ front) behind h i = (h.0, h.1, tidy-joined_runs (next ∷ more ∷ front) behind h.2 i)

-- tidy runs, so joined, are the runs of their marks
pub joined_runs-are : (front behind : List Run) → AreTidy front → AreTidy behind → map run_of (runs_of (written_marks (front ++ behind))) ≡ joined_runs front behind
joined_runs-are front behind h i =
    ap (λ marks. map run_of (runs_of marks)) (sym (written-joined_runs front behind)) ∙ tidy_are (joined_runs front behind) (tidy-joined_runs front behind h i)

-- the runs on both sides, where the two next to the gap have one number
pub joined_runs-joined : (front behind : List Run) (last first : Run) → last_run front ≡ Some last → first_run behind ≡ Some first → last.who ≡ first.who
    → joined_runs front behind ≡ (take (length front - 1) front ++ record { who = last.who; count = last.count + first.count } ∷ []) ++ drop 1 behind
joined_runs-joined front behind last first h i e =
    ap (λ runs. joined_runs runs behind) (split_last front last h)
    ∙ ap (joined_runs (take (length front - 1) front ++ last ∷ [])) (split_first behind first i)
    ∙ joined_runs-ends (take (length front - 1) front) last first (drop 1 behind) e
    ∙ sym (append_assoc (take (length front - 1) front) (record { who = last.who; count = last.count + first.count } ∷ []) (drop 1 behind))
  where
    joined_runs-ends : (xs : List Run) (last first : Run) (rest : List Run) → last.who ≡ first.who
        → joined_runs (xs ++ last ∷ []) (first ∷ rest) ≡ xs ++ record { who = last.who; count = last.count + first.count } ∷ rest
    joined_runs-ends [] last first rest e = rw (eq-eqb last.who first.who e) refl
    joined_runs-ends (x ∷ []) last first rest e = ap (λ runs. x ∷ runs) (joined_runs-ends [] last first rest e)
    joined_runs-ends (x ∷ next ∷ xs) last first rest e = ap (λ runs. x ∷ runs) (joined_runs-ends (next ∷ xs) last first rest e)

-- and where they do not
pub joined_runs-apart : (front behind : List Run) → ((last first : Run) → last_run front ≡ Some last → first_run behind ≡ Some first → last.who ≢ first.who)
    → joined_runs front behind ≡ front ++ behind
joined_runs-apart [] behind differ = refl
joined_runs-apart (run ∷ []) [] differ = refl
joined_runs-apart (run ∷ []) (next ∷ behind) differ = rw (ne_eqb run.who next.who (differ run next refl refl)) refl
joined_runs-apart (run ∷ next ∷ front) behind differ =
    ap (λ runs. run ∷ runs) (joined_runs-apart (next ∷ front) behind (λ last first e j. differ last first (last_more run next front ∙ e) j))

-- runs that are the same at each place are the same
pub same_gets : (xs ys : List Run) → length xs ≡ length ys → ((k : ℕ) → k < length xs → slice_get xs k ≡ slice_get ys k) → xs ≡ ys
same_gets [] [] l h = refl
same_gets [] (y ∷ ys) l h = absurd (omega arith)
same_gets (x ∷ xs) [] l h = absurd (omega arith)
same_gets (x ∷ xs) (y ∷ ys) l h =
    let first : Some x ≡ Some y = h 0 (omega arith) in
    let rest = same_gets xs ys (omega arith) (λ k within. h (suc k) (omega arith)) in
    let one : x ≡ y = cc in
    ap (λ run. run ∷ xs) one ∙ ap (λ runs. y ∷ runs) rest
