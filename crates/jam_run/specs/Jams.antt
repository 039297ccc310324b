-- What a run of performers on threads hands back.
use Rattle.std.specs.Prelude.{◌≡◌, ℕ, ◌+◌, ◌*◌, ◌≤◌, true, List, [], ◌++◌, length, map, count_by, slice_get, Option, Some, None}
use Rattle.seat_lock.specs.Lists.{AllOf}
use Rattle.troop_entry.specs.declared.row.Row.{Row}
use Rattle.log_model.specs.Legal.{IsLegal}
use Rattle.log_model.specs.Log.{doc, entries}
use Rattle.client_state.specs.Pending.{outstanding}
use Rattle.stage_state.specs.Machine.{held_text}
use Rattle.stage_state.specs.Staged.{Staged, StageValue, acts_of, first_machine, machine}
use Rattle.agreement.specs.Agreement.{Agrees, is_edit, pairs_by}
use Rattle.wire_print.specs.Printed.{printed_line, jam_data}
use Rattle.replay_run.specs.declared.outcome.Outcome.{Outcome}
use Rattle.replay_run.specs.declared.outcome.Outcome.TheVariants as outcome
use Rattle.replay_run.specs.Outcome.{code_of, error_line}
use Rattle.replay_run.specs.Ports.{Port, IsCalm, IsFaulted, Took, TookPrefix, Reported}
use Rattle.jam_run.specs.declared.runs.Jammed.{Jammed}
use Rattle.jam_run.specs.Drawing.{first_number, is_typed, steps_of, burst_steps, AreDrawn}
use Rattle.jam_run.specs.Joins.{join_rows}

-- how many rows so many performers make with so many bursts each: a join each, and two edits a burst
abbrev pub entry_count : ℕ → ℕ → ℕ
entry_count performers calls = performers + 2 * performers * calls

-- the row is an edit by one of so many performers
pub record IsEditOfOne (performers : ℕ) (row : Row) : Type 0 where
  pub edit : is_edit row.call ≡ true
  pub from : 1 ≤ row.who
  pub to : row.who ≤ performers

-- two of these rows were placed through one seat exactly where they are one performer's
abbrev pub AreThroughOwn : List Row → Type 0
AreThroughOwn rows = AllOf (λ (r : Row). AllOf (λ (s : Row). (r.seat ≡ s.seat → r.who ≡ s.who) × (r.who ≡ s.who → r.seat ≡ s.seat)) rows) rows

-- the log is the joins of all performers in order, and then two edits of each for each burst, in any order, and no others;
-- each has a seat of its own for them
pub record AreJamRows (performers calls : ℕ) (log : List Row) : Type 0 where
  pub edits : List Row
  pub rows : log ≡ join_rows performers ++ edits
  pub every : AllOf (IsEditOfOne performers) edits
  pub apart : AreThroughOwn edits
  pub each : (who : ℕ) → 1 ≤ who → who ≤ performers → length (pairs_by who edits) ≡ 2 * calls
  pub count : length log ≡ entry_count performers calls

-- The stage of performer `who` has taken all of the log, awaits nothing, agrees with it with nothing in a lane, and so holds its document. Its
-- edits are three for each burst, each drawn for the text held before it, in order, from its own number on. But for entries taken its acts are bursts:
-- three edits are typed, and then twice a call goes out.
pub record HasJammed (log : List Row) (calls seed who : ℕ) (s : Staged) : Type 0 where
  pub own : s.own ≡ who
  pub took_all : (machine s).entries ≡ entries log
  pub awaits_none : outstanding (machine s).pending ≡ None
  pub agrees : Agrees log (machine s) None
  pub holds : held_text (machine s) ≡ doc log
  pub drawn : AreDrawn (first_number seed who) (first_machine s) (acts_of s.acts)
  pub typed : count_by is_typed (acts_of s.acts) ≡ 3 * calls
  pub bursts : steps_of (acts_of s.acts) ≡ burst_steps calls

-- the stages alone
abbrev pub staged_of : List StageValue → List Staged
staged_of stages = map (λ (s : StageValue). s.staged) stages

-- a run of so many performers with so many bursts each, drawn from this seed: a closed log, and their stages in the order of their numbers
pub record IsJam (performers calls seed : ℕ) (log : List Row) (stages : List Staged) : Type 0 where
  pub legal : IsLegal log
  pub rows : AreJamRows performers calls log
  pub count : length stages ≡ performers
  pub each : (i : ℕ) (s : Staged) → slice_get stages i ≡ Some s → HasJammed log calls seed (i + 1) s

-- the line that sums up such a run, by its numbers: all are equal
abbrev pub jam_line : ℕ → ℕ → List ℕ
jam_line performers calls = printed_line (jam_data (record { calls = calls; entries = entry_count performers calls; equal = true; performers = performers }))

-- The table: what each outcome says of what is handed back, and of the output.
abbrev pub SaysJam : ℕ → ℕ → ℕ → Outcome → Option Jammed → Port → Type 0
SaysJam performers calls seed outcome.Done None out = ⊥
SaysJam performers calls seed outcome.Done (Some j) out = IsCalm out × Took out (jam_line performers calls) × IsJam performers calls seed j.desk (staged_of j.stages.items)
SaysJam performers calls seed outcome.Usage j out = ⊥
SaysJam performers calls seed outcome.Memory None out = IsCalm out × Took out []
SaysJam performers calls seed outcome.Memory (Some j) out = ⊥
SaysJam performers calls seed outcome.ReadFault j out = ⊥
SaysJam performers calls seed outcome.WriteFault None out = IsFaulted out × TookPrefix out (jam_line performers calls)
SaysJam performers calls seed outcome.WriteFault (Some j) out = ⊥
SaysJam performers calls seed outcome.NetFault j out = ⊥
SaysJam performers calls seed (outcome.BadLine n) j out = ⊥
SaysJam performers calls seed outcome.TooMuch j out = ⊥

-- a run of `jam` that ended with this status and handed this back
pub record Jams (performers calls seed code : ℕ) (handed : Option Jammed) (out err : Port) : Type 0 where
  pub outcome : Outcome
  pub says : SaysJam performers calls seed outcome handed out
  pub code_is : code ≡ code_of outcome
  pub reported : Reported err (error_line outcome)
