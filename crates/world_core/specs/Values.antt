-- What contracts see of a world, and the state that it is in.
use Rattle.std.specs.Prelude.{◌≤◌, ◌<◌, ◌-◌, ◌^◌, ℕ, List, [], ◌∷◌, ◌++◌, Option, None, Some, map, option_map}
use Rattle.troop_entry.specs.declared.row.Row.{Row}
use Rattle.pipe_ports.specs.Scripts.{ChildValue, HatchValue}
use Rattle.child_driver.specs.Drivers.{DriverValue, pipe_count}
use Rattle.child_driver.specs.Lives.{faulty_count}
use Rattle.world_core.specs.declared.performer.Performer.{Performer}
use Rattle.world_core.specs.States.{InterpreterState, PerformerState, WorldState}

-- a log, and the performers that are here
pub record WorldValue : Type 0 where
  pub log : List Row
  pub performers : List Performer

-- the bytes of the lives buried, and then those of the standing one
abbrev pub lives_with : List (List ℕ) → Option ChildValue → List (List ℕ)
lives_with past None = past
lives_with past (Some child) = past ++ child.taken ∷ []

-- the state of a driver over a hatch in memory. Its faults are those that its journal tells of.
abbrev pub interpreter_of : DriverValue HatchValue ChildValue → InterpreterState
interpreter_of d = record {
  lang = d.lang;
  boot = d.boot;
  notes = d.notes;
  lives = lives_with d.hatch.past d.life;
  pipe = record { life = option_map (λ (c : ChildValue). c.limit) d.life; starts = record { refusals = d.hatch.refusals; limit = d.hatch.limit } };
  faults = faulty_count d.notes;
}

-- the state of a performer
abbrev pub performer_state : Performer → PerformerState
performer_state p = record { name = p.name; staged = p.stage.staged; waiting = p.waiting; interpreter = interpreter_of p.driver }

-- the state of a world
abbrev pub state_of : WorldValue → WorldState
state_of w = record { log = w.log; performers = map performer_state w.performers }

-- the faults that a driver's pipe counted: those of its hatch and of its standing life
abbrev pub faults_counted : DriverValue HatchValue ChildValue → ℕ
faults_counted d = pipe_count (λ (h : HatchValue). h.faults) (λ (c : ChildValue). c.faults) d

-- the driver's pipe counted no fewer faults than its state has, as long as the count is below its last value
abbrev pub CountsFaults : DriverValue HatchValue ChildValue → Type 0
CountsFaults d = faults_counted d < 2 ^ 64 - 1 → (interpreter_of d).faults ≤ faults_counted d
