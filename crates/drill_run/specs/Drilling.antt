-- A world through the steps of a generated script.
use Rattle.std.specs.Prelude.{ℕ, zero, suc, ◌+◌}
use Rattle.world_core.specs.declared.told.Told.{Told}
use Rattle.world_core.specs.declared.told.Told.TheVariants as told
use Rattle.world_core.specs.States.{WorldState, new_world}
use Rattle.world_core.specs.Steps.{told_of, world_after}
use Rattle.drill_run.specs.Script.{DrawnStep, script_line}

-- how far a drill has come: the world, the number held, and how many steps were unfit
pub record DrillState : Type 0 where
  pub world : WorldState
  pub number : ℕ
  pub unfit : ℕ

-- 1 for a step that was unfit
abbrev pub unfit_count : Told → ℕ
unfit_count told.Done = 0
unfit_count told.Unfit = 1
unfit_count (told.Refused reply) = 0
unfit_count (told.Base want got) = 0
unfit_count (told.Blank place) = 0
unfit_count told.Show = 0

-- a drill after this step
abbrev pub after_drawn : DrawnStep → DrillState → DrillState
after_drawn line d = record { world = world_after line.step d.world; number = line.number; unfit = d.unfit + unfit_count (told_of line.step d.world) }

-- a drill after so many of the script's next steps
unfoldable pub after_lines : ℕ → DrillState → DrillState
after_lines zero d = d
after_lines (suc n) d = after_lines n (after_drawn (script_line d.world d.number) d)

-- a drill before its first step
abbrev pub new_drill : ℕ → DrillState
new_drill seed = record { world = new_world; number = seed; unfit = 0 }

-- a drill behind its three joins, and then so many drawn steps; no join is unfit
abbrev pub drilled : ℕ → ℕ → DrillState
drilled seed steps = after_lines steps (after_lines 3 (new_drill seed))
