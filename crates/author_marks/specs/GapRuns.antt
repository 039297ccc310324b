-- Marks kept as runs.
use Rattle.std.specs.Prelude.{◌≢◌, ℕ, ◌+◌, ◌-◌, ◌≤◌, List, [], ◌∷◌, length, replicate, flat_map, Option, None, Some, slice_get, ◌==◌, if◌then◌else◌}
use Rattle.author_marks.specs.declared.run.Run.{Run}
use Rattle.gap_buffer.specs.Gapped.{Gapped}

-- the marks that the runs stand for, one after the other
abbrev pub written_marks : List Run → List ℕ
written_marks runs = flat_map (λ run. replicate run.count run.who) runs

-- 1 where both runs are there and have one number, so that they could be one run
abbrev pub join_gain : Option Run → Option Run → ℕ
join_gain None next = 0
join_gain (Some run) None = 0
join_gain (Some run) (Some next) = if run.who == next.who then 1 else 0

-- the last of the runs
abbrev pub last_run : List Run → Option Run
last_run runs = slice_get runs (length runs - 1)

-- the first of the runs
abbrev pub first_run : List Run → Option Run
first_run runs = slice_get runs 0

-- how many more runs there is room for, once the runs on both sides of the gap are joined where they can be
abbrev pub run_room : Gapped Run → ℕ
run_room g = g.spare + join_gain (last_run g.front) (first_run g.behind)

-- no run is empty, and none has the number of the one before it
abbrev pub AreTidy : List Run → Type 0
AreTidy [] = Unit {0}
AreTidy (run ∷ []) = 1 ≤ run.count
AreTidy (run ∷ next ∷ runs) = (1 ≤ run.count) × (run.who ≢ next.who) × AreTidy (next ∷ runs)

-- a run and those behind it, with the first of them as one with it where they have one number
abbrev pub with_first_run : Run → List Run → List Run
with_first_run run [] = run ∷ []
with_first_run run (next ∷ runs) =
    if run.who == next.who then record { who = run.who; count = run.count + next.count } ∷ runs else run ∷ next ∷ runs

-- the runs on both sides of the gap, with the two next to it as one where they have one number
abbrev pub joined_runs : List Run → List Run → List Run
joined_runs [] behind = behind
joined_runs (run ∷ []) behind = with_first_run run behind
joined_runs (run ∷ next ∷ front) behind = run ∷ joined_runs (next ∷ front) behind
