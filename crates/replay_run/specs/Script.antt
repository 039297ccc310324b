-- A script: the world after its lines, what they print, and the first line that stops it.
use Rattle.std.specs.Prelude.{◌≢◌, ◌≤◌, ℕ, ◌+◌, ◌-◌, List, [], ◌∷◌, ◌++◌, length, nat_lt, Option, Some, None, if◌then◌else◌}
use Rattle.wire_lines.specs.Lines.{with_feeds}
use Rattle.wire_json.specs.Fields.{is_blank_line}
use Rattle.wire_json.specs.Steps.{step_of_line}
use Rattle.wire_json.specs.declared.steps.Step.{Step}
use Rattle.world_core.specs.States.{WorldState, new_world}
use Rattle.world_core.specs.Steps.{world_after}
use Rattle.replay_run.specs.declared.meaning.Meaning.{Meaning}
use Rattle.replay_run.specs.declared.meaning.Meaning.TheVariants as meaning
use Rattle.replay_run.specs.declared.outcome.Outcome.{Outcome}
use Rattle.replay_run.specs.declared.outcome.Outcome.TheVariants as outcome
use Rattle.replay_run.specs.Shown.{shown_step, shown_world}

-- how many bytes a line may have, without its line feed
abbrev pub most_line : ℕ
most_line = 1048576

-- what a line that has more than white space means
abbrev pub meaning_of_step : Option Step → Meaning
meaning_of_step (Some s) = meaning.Step s
meaning_of_step None = meaning.Bad

-- what a line means
unfoldable pub meaning_of : List ℕ → Meaning
meaning_of line = if is_blank_line line then meaning.Blank else meaning_of_step (step_of_line line)

-- the world after a line; a line that isn't a step leaves it as it is
abbrev pub after_meaning : WorldState → Meaning → WorldState
after_meaning world meaning.Blank = world
after_meaning world (meaning.Step s) = world_after s world
after_meaning world meaning.Bad = world

-- what line n prints
abbrev pub shown_meaning : ℕ → WorldState → Meaning → List ℕ
shown_meaning n world meaning.Blank = []
shown_meaning n world (meaning.Step s) = shown_step n s world
shown_meaning n world meaning.Bad = []

-- the world after these lines, from a world on
abbrev pub world_from : WorldState → List (List ℕ) → WorldState
world_from world [] = world
world_from world (line ∷ others) = world_from (after_meaning world (meaning_of line)) others

-- what these lines print, from a world on, where the first of them has number n
abbrev pub shown_from : ℕ → WorldState → List (List ℕ) → List ℕ
shown_from n world [] = []
shown_from n world (line ∷ others) = shown_meaning n world (meaning_of line) ++ shown_from (n + 1) (after_meaning world (meaning_of line)) others

-- the world after a script
abbrev pub world : List (List ℕ) → WorldState
world script = world_from new_world script

-- what the steps of a script print, in order
abbrev pub shown : List (List ℕ) → List ℕ
shown script = shown_from 1 new_world script

-- all that is written for a script: what its steps print, and then all of its world
abbrev pub output : List (List ℕ) → List ℕ
output script = shown script ++ shown_world (world script)

-- ---- The line that stops a script.

-- how many bytes these lines have, each with one for its line feed
abbrev pub script_size : List (List ℕ) → ℕ
script_size script = length (with_feeds script)

-- a line within the limit of a line, which is blank or a step
abbrev pub IsPlayable : List ℕ → Type 0
IsPlayable line = (length line ≤ most_line) × (meaning_of line ≢ meaning.Bad)

-- how line n stops a run by what it means, if it does
abbrev pub stop_by : ℕ → Meaning → Option Outcome
stop_by n meaning.Blank = None
stop_by n (meaning.Step s) = None
stop_by n meaning.Bad = Some (outcome.BadLine n)

-- how line n stops a run, if it does, where so many bytes may still be read: it is over the limit of a line, or with its
-- line feed over the limit of the input, or neither blank nor a step
abbrev pub stop_at : ℕ → ℕ → List ℕ → Option Outcome
stop_at room n line =
    if nat_lt most_line (length line) then Some (outcome.BadLine n)
    else (if nat_lt room (length line + 1) then Some outcome.TooMuch
    else stop_by n (meaning_of line))

-- the first, or else the second
abbrev pub or_else : Option Outcome → Option Outcome → Option Outcome
or_else (Some stop) later = Some stop
or_else None later = later

-- the first stop among these lines, of which the first has number n, where they may have so many bytes
abbrev pub stop_from : ℕ → ℕ → List (List ℕ) → Option Outcome
stop_from room n [] = None
stop_from room n (line ∷ others) = or_else (stop_at room n line) (stop_from (room - (length line + 1)) (n + 1) others)

-- the line in front of others, unless it stops the run
abbrev pub unless_stopped : Option Outcome → List ℕ → List (List ℕ) → List (List ℕ)
unless_stopped (Some stop) line others = []
unless_stopped None line others = line ∷ others

-- the lines in front of the first that stops
abbrev pub before_from : ℕ → ℕ → List (List ℕ) → List (List ℕ)
before_from room n [] = []
before_from room n (line ∷ others) = unless_stopped (stop_at room n line) line (before_from (room - (length line + 1)) (n + 1) others)

-- how a script stops, where its lines, each with a line feed, may have so many bytes
abbrev pub stop_of : ℕ → List (List ℕ) → Option Outcome
stop_of limit script = stop_from limit 1 script

-- its lines in front of that
abbrev pub before_stop : ℕ → List (List ℕ) → List (List ℕ)
before_stop limit script = before_from limit 1 script

-- what is written behind the steps: all of the world, unless a line stopped the run
abbrev pub shown_end : Option Outcome → List (List ℕ) → List ℕ
shown_end (Some stop) script = []
shown_end None script = shown_world (world script)

-- all that a run without faults writes
abbrev pub all_written : ℕ → List (List ℕ) → List ℕ
all_written limit script = shown (before_stop limit script) ++ shown_end (stop_of limit script) script

-- how a run without faults ends
abbrev pub outcome_of : Option Outcome → Outcome
outcome_of (Some stop) = stop
outcome_of None = outcome.Done
