-- The last run, and the first one.
use Rattle.std.proofs.Common.{◌≡◌, ◌≢◌, ℕ, zero, suc, ◌+◌, ◌-◌, ◌<◌, ◌≤◌, List, [], ◌∷◌, ◌++◌, length, take, drop, refl, sym, ap, ◌∙◌, length-append, arith}
use Rattle.std.specs.Prelude.{None, Some, slice_get}
use Rattle.author_marks.specs.declared.run.Run.{Run}
use Rattle.author_marks.specs.GapRuns.{last_run, first_run}

split_at_last : (runs : List Run) (n : ℕ) (last : Run) → n + 1 ≡ length runs → slice_get runs n ≡ Some last → runs ≡ take n runs ++ last ∷ []
split_at_last [] n last l h = absurd (omega arith)
split_at_last (run ∷ []) zero last l h = cc
split_at_last (run ∷ []) (suc n) last l h = absurd (omega arith)
split_at_last (run ∷ next ∷ runs) zero last l h = absurd (omega arith)
split_at_last (run ∷ next ∷ runs) (suc n) last l h = ap (λ rest. run ∷ rest) (split_at_last (next ∷ runs) n last (omega arith) h)

some_last : (runs : List Run) (last : Run) → last_run runs ≡ Some last → 1 ≤ length runs
some_last [] last h = cc
some_last (run ∷ runs) last h = omega arith

-- the last run, and those in front of it
pub split_last : (runs : List Run) (last : Run) → last_run runs ≡ Some last → runs ≡ take (length runs - 1) runs ++ last ∷ []
split_last runs last h =
    let some = some_last runs last h in split_at_last runs (length runs - 1) last (omega arith) h

-- the first run, and those behind it
pub split_first : (runs : List Run) (first : Run) → first_run runs ≡ Some first → runs ≡ first ∷ drop 1 runs
split_first [] first h = cc
split_first (run ∷ runs) first h = cc

-- no run, where there is no first one
pub none_first : (runs : List Run) → first_run runs ≡ None → runs ≡ []
none_first [] h = refl
none_first (run ∷ runs) h = cc

-- no run, where there is no last one
pub none_last : (runs : List Run) → last_run runs ≡ None → runs ≡ []
none_last [] h = refl
none_last (run ∷ runs) h = absurd (some_at (run ∷ runs) (length (run ∷ runs) - 1) (omega arith) h)
  where
    some_at : (xs : List Run) (n : ℕ) → n < length xs → slice_get xs n ≡ None → ⊥
    some_at [] n l h = omega arith
    some_at (x ∷ xs) zero l h = cc
    some_at (x ∷ xs) (suc n) l h = some_at xs n (omega arith) h

last_at : (runs : List Run) (run : Run) (n : ℕ) → n ≡ length runs → slice_get (runs ++ run ∷ []) n ≡ Some run
last_at [] run n h = rw h refl
last_at (first ∷ runs) run zero h = absurd (omega arith)
last_at (first ∷ runs) run (suc n) h = last_at runs run n (omega arith)

-- the run that was put behind the others is the last
pub last_run-push : (runs : List Run) (run : Run) → last_run (runs ++ run ∷ []) ≡ Some run
last_run-push runs run = last_at runs run (length (runs ++ run ∷ []) - 1) (omega (arith, length-append runs (run ∷ [])))

-- the last run of more of them
pub last_more : (x next : Run) (xs : List Run) → last_run (x ∷ next ∷ xs) ≡ last_run (next ∷ xs)
last_more x next xs =
    let e : length (x ∷ next ∷ xs) - 1 ≡ suc (length (next ∷ xs) - 1) = omega arith in ap (slice_get (x ∷ next ∷ xs)) e

-- the last run and the first of others are told apart by any two that they are
pub differ_as : (last first one other : Run) (runs rest : List Run) → last_run runs ≡ Some last → first_run rest ≡ Some first
    → last_run runs ≡ Some one → first_run rest ≡ Some other → (one.who ≡ other.who → ⊥) → last.who ≢ first.who
differ_as last first one other runs rest e i f j differ k =
    let same : last ≡ one = cc in
    let next : first ≡ other = cc in
    differ (sym (ap (λ (r : Run). r.who) same) ∙ k ∙ ap (λ (r : Run). r.who) next)

-- a last run is there, or none
pub no_last : (last : Run) (runs : List Run) → last_run runs ≡ Some last → last_run runs ≡ None → ⊥
no_last last runs e i = cc

-- a first run is there, or none
pub no_first : (first : Run) (runs : List Run) → first_run runs ≡ Some first → first_run runs ≡ None → ⊥
no_first first runs e i = cc
