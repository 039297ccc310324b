-- What is printed of a world, and for a step.
use Rattle.std.specs.Prelude.{ℕ, List, [], ◌∷◌, ◌++◌, length}
use Rattle.troop_entry.specs.declared.reply.Reply.TheVariants as desk
use Rattle.troop_entry.specs.declared.row.Row.{Row}
use Rattle.log_model.specs.Log.{doc}
use Rattle.client_state.specs.declared.state.State.{State}
use Rattle.client_state.specs.declared.state.State.TheVariants.{Synchronized, Awaiting, WithBuffer}
use Rattle.stage_state.specs.Machine.{taken_count, held_text}
use Rattle.stage_state.specs.Staged.{Staged, machine}
use Rattle.wire_json.specs.declared.replies.WireReply.TheVariants as reply
use Rattle.wire_json.specs.declared.steps.Step.{Step}
use Rattle.wire_print.specs.Printed.{printed_line, reply_data, blank_data, performer_data, lives_data, journal_data, server_data}
use Rattle.world_core.specs.declared.told.Told.{Told}
use Rattle.world_core.specs.declared.told.Told.TheVariants as told
use Rattle.world_core.specs.States.{InterpreterState, PerformerState, WorldState}
use Rattle.world_core.specs.Steps.{told_of}

-- ---- The whole world.

-- how many operations are awaited and held back
abbrev pub awaits : State → ℕ
awaits Synchronized = 0
awaits (Awaiting sent) = 1
awaits (WithBuffer sent buffer) = 2

-- the line of a performer of this name: what its stage awaits, took and holds
abbrev pub shown_stage : List ℕ → Staged → List ℕ
shown_stage name s = printed_line (performer_data name s.own (awaits (machine s).pending) (taken_count (machine s)) (held_text (machine s)))

-- the line of the lives of performer `who`'s interpreter
abbrev pub shown_lives : ℕ → InterpreterState → List ℕ
shown_lives who i = printed_line (lives_data who i.lives)

-- the line of its journal
abbrev pub shown_journal : ℕ → InterpreterState → List ℕ
shown_journal who i = printed_line (journal_data who i.notes)

-- the three lines of a performer
abbrev pub shown_performer : PerformerState → List ℕ
shown_performer p = shown_stage p.name p.staged ++ (shown_lives p.staged.own p.interpreter ++ shown_journal p.staged.own p.interpreter)

-- the lines of these performers, in order
abbrev pub shown_performers : List PerformerState → List ℕ
shown_performers [] = []
shown_performers (p ∷ performers) = shown_performer p ++ shown_performers performers

-- the log's line
abbrev pub shown_log : List Row → List ℕ
shown_log log = printed_line (server_data (length log) (doc log))

-- what is printed of the whole world: the lines of each performer in the order of the joins, and then the log's
unfoldable pub shown_world : WorldState → List ℕ
shown_world w = shown_performers w.performers ++ shown_log w.log

-- ---- A step.

-- what the step of line n prints in a world where it is told this
abbrev pub shown_told : ℕ → WorldState → Told → List ℕ
shown_told n w told.Done = []
shown_told n w told.Unfit = printed_line (reply_data (reply.Unfit n))
shown_told n w (told.Refused r) = printed_line (reply_data (reply.Desk r))
shown_told n w (told.Base want got) = printed_line (reply_data (reply.Desk (desk.BadBase want got)))
shown_told n w (told.Blank place) = printed_line (blank_data place)
shown_told n w told.Show = shown_world w

-- what the step of line n prints in this world
unfoldable pub shown_step : ℕ → Step → WorldState → List ℕ
shown_step n s w = shown_told n w (told_of s w)
