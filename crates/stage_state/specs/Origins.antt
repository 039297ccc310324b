-- A stage as a hall sees it: the part that no act changes, and the acts as the rows.
use Rattle.std.specs.Prelude.{ℕ, List}
use Rattle.stage_state.specs.declared.act.Act.{Act}
use Rattle.stage_state.specs.declared.played.Origin.{Origin}
use Rattle.stage_state.specs.Machine.{Machine}
use Rattle.stage_state.specs.Staged.{Staged, machine, IsStagePlayed}

-- the part of a stage that no act changes
abbrev pub origin_of : Staged → Origin
origin_of s = record { own = s.own; joined = s.joined; start = s.start; text = s.text }

-- the stage of this origin with these acts
abbrev pub stage_from : Origin → List (ℕ × Act) → Staged
stage_from o acts = record { own = o.own; joined = o.joined; start = o.start; text = o.text; acts = acts }

-- the machine that these acts lead to from this origin
abbrev pub machine_at : Origin → List (ℕ × Act) → Machine
machine_at o acts = machine (stage_from o acts)

-- each of these acts was placed where those before it had led
abbrev pub ArePlayed : Origin → List (ℕ × Act) → Type 0
ArePlayed o acts = IsStagePlayed (stage_from o acts)
