-- For private clauses: what the log does with what goes out of a stage.
use Rattle.std.specs.Prelude.{ℕ, List, Option, None, Some}
use Rattle.troop_entry.specs.declared.row.Row.{Row}
use Rattle.log_model.specs.Answers.{log_after}
use Rattle.stage_state.specs.declared.act.Next.{Next}
use Rattle.stage_state.specs.declared.act.Next.TheVariants as next

-- the log after what goes out next of this performer's stage
abbrev pub log_after_next : List Row → ℕ → Next → List Row
log_after_next log who (next.Send num c) = log_after log 0 who num c
log_after_next log who next.NotYet = log
log_after_next log who next.Done = log

-- this position, where something goes out
abbrev pub position_sent : ℕ → Next → Option ℕ
position_sent at (next.Send num c) = Some at
position_sent at next.NotYet = None
position_sent at next.Done = None
