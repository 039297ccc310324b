-- What a block does to an interpreter whose pipe tells how many bytes it takes and how many starts it refuses.
use Rattle.std.specs.Prelude.{ℕ, ◌+◌, List, ◌++◌, length, Bool, not, Option, None, Some, is_some}
use Rattle.troop_entry.specs.declared.block.Block.{Block}
use Rattle.lang_wrap.specs.Wraps.{wrap}
use Rattle.pipe_ports.specs.Pipes.{Starts}
use Rattle.child_driver.specs.Lives.{BlockFate, Whole, Cut, Boot, Refused, births_by, fate_bytes, notes_by}
use Rattle.child_driver.specs.Feeding.{Pipe, fed_fate, fed_pipe}
use Rattle.child_driver.specs.Drivers.{births, children_after}
use Rattle.world_core.specs.States.{InterpreterState}

-- how many faults a block of this fate is
abbrev pub fate_faults : BlockFate → ℕ
fate_faults Whole = 0
fate_faults (Cut n) = 1
fate_faults (Boot n) = 1
fate_faults Refused = 1

-- whether no life stands
abbrev pub opens_life : InterpreterState → Bool
opens_life s = not (is_some s.pipe.life)

-- the interpreter behind a block at this place that has this wrap and meets this fate: its notes, its lives, its pipe and its count of
-- faults are those of the fate
abbrev pub after_fate : ℕ → List ℕ → BlockFate → InterpreterState → InterpreterState
after_fate place wrapped fate s = record s {
  notes = s.notes ++ notes_by (opens_life s) (births s.notes + births_by (opens_life s) fate) place fate;
  lives = children_after (opens_life s) fate (fate_bytes s.boot (opens_life s) wrapped fate) s.lives;
  pipe = fed_pipe s.pipe (length s.boot) (length wrapped);
  faults = s.faults + fate_faults fate;
}

-- the interpreter behind a block, whose fate is the one that its pipe has for it
abbrev pub after_block : Block → InterpreterState → InterpreterState
after_block block s =
    after_fate block.place (wrap s.lang block.text) (fed_fate s.pipe (length s.boot) (length (wrap s.lang block.text))) s

-- the pipe of which the standing life, or else the one started next, takes so many bytes more
abbrev pub pipe_taking : Option (Option ℕ) → Starts → ℕ → Pipe
pipe_taking None starts n = record { life = None; starts = record { refusals = starts.refusals; limit = Some n } }
pipe_taking (Some limit) starts n = record { life = Some (Some n); starts = starts }

-- the interpreter whose life takes so many bytes more, or as many as before
abbrev pub taking : Option ℕ → InterpreterState → InterpreterState
taking None s = s
taking (Some n) s = record s { pipe = pipe_taking s.pipe.life s.pipe.starts n }

-- the interpreter of which so many further starts fail
abbrev pub refusing : ℕ → InterpreterState → InterpreterState
refusing starts s = record s { pipe = record { life = s.pipe.life; starts = record { refusals = starts; limit = s.pipe.starts.limit } } }
