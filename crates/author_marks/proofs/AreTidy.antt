-- Runs without an empty one and without neighbours of one number.
use Rattle.std.proofs.Common.{◌≡◌, ◌≢◌, ◌-◌, ◌≤◌, List, [], ◌∷◌, ◌++◌, length, take, drop, refl, sym, subst, ◌∙◌, append_assoc}
use Rattle.std.specs.Prelude.{Some}
use Rattle.author_marks.specs.declared.run.Run.{Run}
use Rattle.author_marks.specs.GapRuns.{AreTidy, last_run, first_run}
use Rattle.author_marks.proofs.LastRun.{split_last, split_first, last_more}

-- the first of tidy runs is not empty
pub tidy_first : (run : Run) (runs : List Run) → AreTidy (run ∷ runs) → 1 ≤ run.count
tidy_first run [] h = h
tidy_first run (next ∷ runs) h = h.0

-- tidy runs without the first
pub tidy_rest : (run : Run) (runs : List Run) → AreTidy (run ∷ runs) → AreTidy runs
tidy_rest run [] h = tt
tidy_rest run (next ∷ runs) h = h.2

-- the first of tidy runs
pub tidy_left : (xs ys : List Run) → AreTidy (xs ++ ys) → AreTidy xs
tidy_left [] ys h = tt
tidy_left (x ∷ []) ys h = tidy_first x ys h
tidy_left (x ∷ next ∷ xs) ys h = (h.0, h.1, tidy_left (next ∷ xs) ys h.2)

-- the last of tidy runs
pub tidy_right : (xs ys : List Run) → AreTidy (xs ++ ys) → AreTidy ys
tidy_right [] ys h = h
tidy_right (x ∷ xs) ys h = tidy_right xs ys (tidy_rest x (xs ++ ys) h)

-- another count in the place of one
pub tidy_first_other : (run other : Run) (runs : List Run) → 1 ≤ other.count → other.who ≡ run.who → AreTidy (run ∷ runs) → AreTidy (other ∷ runs)
tidy_first_other run other [] some e h = some
tidy_first_other run other (next ∷ runs) some e h = (some, (λ i. h.1 (sym e ∙ i)), h.2)

-- another count in the place of one, anywhere
pub tidy_other : (xs ys : List Run) (run other : Run) → 1 ≤ other.count → other.who ≡ run.who → AreTidy (xs ++ run ∷ ys) → AreTidy (xs ++ other ∷ ys)
tidy_other [] ys run other some e h = tidy_first_other run other ys some e h
tidy_other (x ∷ []) ys run other some e h = (h.0, (λ i. h.1 (i ∙ e)), tidy_first_other run other ys some e h.2)
tidy_other (x ∷ next ∷ xs) ys run other some e h = (h.0, h.1, tidy_other (next ∷ xs) ys run other some e h.2)

-- tidy runs behind a run of another number
pub tidy_next : (run : Run) (runs : List Run) → 1 ≤ run.count → AreTidy runs → ((next : Run) → first_run runs ≡ Some next → run.who ≢ next.who) → AreTidy (run ∷ runs)
tidy_next run [] some h differ = some
tidy_next run (next ∷ runs) some h differ = (some, differ next refl, h)

-- tidy runs behind tidy runs, if the two in the middle have two numbers
pub tidy_both : (xs ys : List Run) → AreTidy xs → AreTidy ys
    → ((last first : Run) → last_run xs ≡ Some last → first_run ys ≡ Some first → last.who ≢ first.who) → AreTidy (xs ++ ys)
tidy_both [] ys h i differ = i
tidy_both (x ∷ []) ys h i differ = tidy_next x ys h i (λ next e. differ x next refl e)
tidy_both (x ∷ next ∷ xs) ys h i differ =
    (h.0, h.1, tidy_both (next ∷ xs) ys h.2 i (λ last first e j. differ last first (last_more x next xs ∙ e) j))

-- the last run made longer
pub tidy_longer : (runs : List Run) (last other : Run) → last_run runs ≡ Some last → 1 ≤ other.count → other.who ≡ last.who → AreTidy runs
    → AreTidy (take (length runs - 1) runs ++ other ∷ [])
tidy_longer runs last other h some e tidy =
    let all = subst (λ (r : List Run). AreTidy r) (split_last runs last h) tidy in
    tidy_other (take (length runs - 1) runs) [] last other some e all

-- tidy runs as the first of them and the rest
pub tidy_behind_first : (runs : List Run) (first : Run) → first_run runs ≡ Some first → AreTidy runs → AreTidy (first ∷ drop 1 runs)
tidy_behind_first runs first h tidy = subst (λ (r : List Run). AreTidy r) (split_first runs first h) tidy

-- two runs of one number as one
pub tidy_joined : (front behind : List Run) (last first other : Run) → last_run front ≡ Some last → first_run behind ≡ Some first
    → last.who ≡ first.who → 1 ≤ other.count → other.who ≡ last.who → AreTidy front → AreTidy behind
    → AreTidy ((take (length front - 1) front ++ other ∷ []) ++ drop 1 behind)
tidy_joined front behind last first other h i e some j front_tidy behind_tidy =
    let rest = tidy_first_other first other (drop 1 behind) some (j ∙ e) (tidy_behind_first behind first i behind_tidy) in
    let all = subst (λ (r : List Run). AreTidy r) (split_last front last h) front_tidy in
    subst (λ (r : List Run). AreTidy r) (sym (append_assoc (take (length front - 1) front) (other ∷ []) (drop 1 behind)))
    (tidy_behind (take (length front - 1) front) last other (drop 1 behind) j all rest)
  where
    tidy_behind : (xs : List Run) (run other : Run) (ys : List Run) → other.who ≡ run.who → AreTidy (xs ++ run ∷ []) → AreTidy (other ∷ ys) → AreTidy (xs ++ other ∷ ys)
    tidy_behind [] run other ys e h i = i
    tidy_behind (x ∷ []) run other ys e h i = (h.0, (λ k. h.1 (k ∙ e)), i)
    tidy_behind (x ∷ next ∷ xs) run other ys e h i = (h.0, h.1, tidy_behind (next ∷ xs) run other ys e h.2 i)

-- one run as two of its number
pub tidy_cut_front : (front behind : List Run) (first other : Run) → first_run behind ≡ Some first → 1 ≤ other.count → other.who ≡ first.who
    → AreTidy (front ++ behind) → AreTidy (front ++ other ∷ [])
tidy_cut_front front behind first other h some e tidy =
    let all = subst (λ (r : List Run). AreTidy (front ++ r)) (split_first behind first h) tidy in
    tidy_left_one front other (drop 1 behind) (tidy_other front (drop 1 behind) first other some e all)
  where
    tidy_left_one : (xs : List Run) (run : Run) (ys : List Run) → AreTidy (xs ++ run ∷ ys) → AreTidy (xs ++ run ∷ [])
    tidy_left_one [] run ys h = tidy_first run ys h
    tidy_left_one (x ∷ []) run ys h = (h.0, h.1, tidy_first run ys h.2)
    tidy_left_one (x ∷ next ∷ xs) run ys h = (h.0, h.1, tidy_left_one (next ∷ xs) run ys h.2)

-- the rest of a run in the place of the first
pub tidy_cut_behind : (behind : List Run) (first other : Run) → first_run behind ≡ Some first → 1 ≤ other.count → other.who ≡ first.who
    → AreTidy behind → AreTidy (other ∷ drop 1 behind)
tidy_cut_behind behind first other h some e tidy = tidy_first_other first other (drop 1 behind) some e (tidy_behind_first behind first h tidy)

-- tidy runs without the first, if there is one
pub tidy_drop : (runs : List Run) → AreTidy runs → AreTidy (drop 1 runs)
tidy_drop [] h = h
tidy_drop (run ∷ runs) h = tidy_rest run runs h
