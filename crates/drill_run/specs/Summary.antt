-- What a drilled world comes to, and the line that sums it up.
use Rattle.std.specs.Prelude.{ℕ, Bool, true, false, ◌==◌, ◌&&◌, List, length, count_by, sum_by}
use Rattle.std.specs.List.{list_all}
use Rattle.std.specs.Cmp.Lexicographic.{pointwise}
use Rattle.ot_text.specs.Marked.{Marked}
use Rattle.troop_entry.specs.declared.call.Call.{Call}
use Rattle.troop_entry.specs.declared.call.Call.TheVariants as call
use Rattle.troop_entry.specs.declared.row.Row.{Row}
use Rattle.log_model.specs.Log.{doc}
use Rattle.stage_state.specs.Machine.{held_text}
use Rattle.stage_state.specs.Staged.{machine}
use Rattle.wire_print.specs.declared.summaries.DrillSummary.{DrillSummary}
use Rattle.wire_print.specs.Printed.{printed_line, drill_data}
use Rattle.world_core.specs.States.{PerformerState, WorldState}
use Rattle.drill_run.specs.Drilling.{DrillState, drilled}
use Rattle.drill_run.specs.Draining.{drained}

-- whether the call is an evaluation
abbrev pub is_eval : Call → Bool
is_eval (call.Join name lang) = false
is_eval call.Leave = false
is_eval (call.Edit seen op) = false
is_eval (call.Eval seen text) = true
is_eval (call.Reset seen text) = false

-- how many rows of a log are evaluations
abbrev pub block_count : List Row → ℕ
block_count log = count_by (λ (row : Row). is_eval row.call) log

-- how many lives the interpreters of these performers had
abbrev pub life_count : List PerformerState → ℕ
life_count performers = sum_by (λ (p : PerformerState). length p.interpreter.lives) performers

-- how many notes their journals have
abbrev pub note_count : List PerformerState → ℕ
note_count performers = sum_by (λ (p : PerformerState). length p.interpreter.notes) performers

-- whether a character is the same by the same performer
abbrev pub same_mark : ℕ × ℕ → ℕ × ℕ → Bool
same_mark a b = (a.0 == b.0) && (a.1 == b.1)

-- whether the documents have the same characters by the same performers
abbrev pub same_doc : Marked → Marked → Bool
same_doc a b = pointwise same_mark a b

-- whether each of these performers holds this document
abbrev pub all_hold : Marked → List PerformerState → Bool
all_hold m performers = list_all (λ (p : PerformerState). same_doc (held_text (machine p.staged)) m) performers

-- what a world sums up to, behind so many steps drawn from a seed of which so many were unfit
abbrev pub summary_of : ℕ → ℕ → ℕ → WorldState → DrillSummary
summary_of seed steps unfit w = record {
  blocks = block_count w.log;
  entries = length w.log;
  equal = all_hold (doc w.log) w.performers;
  lives = life_count w.performers;
  notes = note_count w.performers;
  seed = seed;
  steps = steps;
  unfit = unfit;
}

-- the world that a drill comes to
abbrev pub drill_world : ℕ → ℕ → WorldState
drill_world seed steps = drained (drilled seed steps).world

-- its summary
abbrev pub drill_summary : ℕ → ℕ → DrillSummary
drill_summary seed steps = summary_of seed steps (drilled seed steps).unfit (drill_world seed steps)

-- the summary's line
unfoldable pub drill_line : ℕ → ℕ → List ℕ
drill_line seed steps = printed_line (drill_data (drill_summary seed steps))
