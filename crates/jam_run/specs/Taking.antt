-- A stage that takes entries.
use Rattle.std.specs.Prelude.{◌≡◌, ◌<◌, ◌≤◌, ℕ, List, [], ◌∷◌, length, drop, slice_index_or}
use Rattle.troop_entry.specs.declared.entry.Entry.{Entry}
use Rattle.stage_state.specs.declared.act.Act.TheVariants as act
use Rattle.stage_state.specs.Machine.{taken_count, CanAct}
use Rattle.stage_state.specs.Staged.{Staged, StageValue, machine, with_act}
use Rattle.troop_entry.specs.declared.row.Row.{Row}
use Rattle.log_model.specs.Log.{entries}

-- from the one stage to the other these entries were taken, in order
abbrev pub TakesAll : List Entry → Staged → Staged → Type 0
TakesAll [] s t = t ≡ s
TakesAll (e ∷ es) s t = CanAct (machine s) (act.Take e) × TakesAll es (with_act 0 (act.Take e) s) t

-- the stage took what it hadn't taken of the log
abbrev pub TakesRest : List Row → Staged → Staged → Type 0
TakesRest log s t = TakesAll (drop (taken_count (machine s)) (entries log)) s t

-- it has taken no more than the log has
abbrev pub IsWithin : List Row → StageValue → Type 0
IsWithin log v = taken_count (machine v.staged) ≤ length log

-- each stage took the rest of the log
abbrev pub TakeRests : List Row → List StageValue → List StageValue → Type 0
TakeRests log vs ws = (i : ℕ) (d : StageValue) → i < length vs → TakesRest log (slice_index_or vs i d).staged (slice_index_or ws i d).staged
