-- How a performer's stage agrees with the log: what it took, what it sent, and where its outstanding operation is.
use Rattle.std.specs.Prelude.{◌≡◌, ◌≤◌, ℕ, suc, Bool, true, false, if◌then◌else◌, ◌==◌, ◌&&◌, not, Option, None, Some, List, [], ◌∷◌, ◌++◌, length, take, drop, slice_get, option_map}
use Rattle.ot_text.specs.Change.{Change, base}
use Rattle.ot_transform.specs.Chain.{through}
use Rattle.troop_entry.specs.declared.call.Call.{Call}
use Rattle.troop_entry.specs.declared.call.Call.TheVariants.{Join, Leave, Edit, Eval, Reset}
use Rattle.troop_entry.specs.declared.row.Row.{Row}
use Rattle.troop_entry.specs.Kinds.{is_leave}
use Rattle.log_model.specs.Log.{ops, doc, entries, is_join_by, is_member}
use Rattle.client_state.specs.declared.state.State.TheVariants.{Synchronized}
use Rattle.client_state.specs.Pending.{outstanding}
use Rattle.client_state.specs.Standing.{FitsOn}
use Rattle.stage_state.specs.Machine.{Machine, taken_count, sent_pairs}

-- ---- the performer's rows

-- whether the call is an edit
abbrev pub is_edit : Call → Bool
is_edit (Join name lang) = false
is_edit Leave = false
is_edit (Edit seen op) = true
is_edit (Eval seen text) = false
is_edit (Reset seen text) = false

-- whether the row is an edit by this performer
abbrev pub is_edit_by : ℕ → Row → Bool
is_edit_by who row = is_edit row.call && (row.who == who)

-- whether there is a row, and it is this performer's join
abbrev pub is_own_join : ℕ → Option Row → Bool
is_own_join who None = false
is_own_join who (Some row) = is_join_by who row

-- the number and the call of each row of this performer, in order
abbrev pub pairs_by : ℕ → List Row → List (ℕ × Call)
pairs_by who [] = []
pairs_by who (row ∷ rows) = if row.who == who then (row.num, row.call) ∷ pairs_by who rows else pairs_by who rows

-- the positions of this performer's edits among these rows, of which the first stands at position `at`
abbrev pub edit_positions : ℕ → ℕ → List Row → List ℕ
edit_positions who at [] = []
edit_positions who at (row ∷ rows) =
    if is_edit_by who row then at ∷ edit_positions who (suc at) rows else edit_positions who (suc at) rows

-- the positions of the performer's edits from position t on
abbrev pub positions_ahead : List Row → ℕ → ℕ → List ℕ
positions_ahead log own t = edit_positions own t (drop t log)

-- the operation of a row, if there is a row and it has one
abbrev pub op_of_row : Option Row → Option Change
op_of_row None = None
op_of_row (Some row) = row.op

-- the operation of the row at a position, if there is one
abbrev pub op_at : List Row → ℕ → Option Change
op_at log at = op_of_row (slice_get log at)

-- ---- the calls that are under way

-- the call in the lane, which is sent and not served, with its number, if there is one
abbrev pub lane_pairs : Option (ℕ × Call) → List (ℕ × Call)
lane_pairs None = []
lane_pairs (Some sent) = sent ∷ []

-- that call alone
abbrev pub lane_call : Option (ℕ × Call) → Option Call
lane_call lane = option_map (λ (sent : ℕ × Call). sent.1) lane

-- that call, unless it is a leave
abbrev pub lane_waiting : Option Call → List Call
lane_waiting None = []
lane_waiting (Some call) = if is_leave call then [] else call ∷ []

-- the calls that the log has not served, in order: the one in the lane, unless it is a leave, and those that are to go out
abbrev pub waiting_calls : Option Call → Machine → List Call
waiting_calls lane m = lane_waiting lane ++ m.outgoing

-- these calls are edits, evaluations and resets, and what they have seen is from low to high and never falls
abbrev pub SeenRises : ℕ → ℕ → List Call → Type 0
SeenRises low high [] = low ≤ high
SeenRises low high (Join name lang ∷ calls) = ⊥
SeenRises low high (Leave ∷ calls) = ⊥
SeenRises low high (Edit seen op ∷ calls) = (low ≤ seen) × SeenRises seen high calls
SeenRises low high (Eval seen text ∷ calls) = (low ≤ seen) × SeenRises seen high calls
SeenRises low high (Reset seen text ∷ calls) = (low ≤ seen) × SeenRises seen high calls

-- what each edit among these calls has seen, and its operation
abbrev pub edits_among : List Call → List (ℕ × Change)
edits_among [] = []
edits_among (Join name lang ∷ calls) = edits_among calls
edits_among (Leave ∷ calls) = edits_among calls
edits_among (Edit seen op ∷ calls) = (seen, op) ∷ edits_among calls
edits_among (Eval seen text ∷ calls) = edits_among calls
edits_among (Reset seen text ∷ calls) = edits_among calls

-- whether the call in the lane is a leave
abbrev pub is_leaving : Option Call → Bool
is_leaving None = false
is_leaving (Some call) = is_leave call

-- what is in the lane is the leave exactly where one was sent
abbrev pub LaneFits : Option Call → Bool → Type 0
LaneFits None left = Unit {0}
LaneFits (Some call) left = is_leave call ≡ left

-- ---- where the outstanding operation is

-- u is the operation of an edit that is not served, moved through what was taken since it was made
pub record IsUnserved (log : List Row) (own t seen : ℕ) (op u : Change) : Type 0 where
  pub fits : base op ≡ length (doc (take seen log))
  pub moved : u ≡ through op (ops (drop seen (take t log)))
  pub ahead : positions_ahead log own t ≡ []

-- just one of the rows that are not taken is an edit by the performer, and its operation is u, moved through the rows in front of it
pub record IsServed (log : List Row) (own t : ℕ) (u : Change) : Type 0 where
  pub at : ℕ
  pub ahead : positions_ahead log own t ≡ at ∷ []
  pub moved : op_at log at ≡ Some (through u (ops (drop t (take at log))))

-- where the outstanding operation is: it waits as the one edit among the calls that are not served; it is served and not taken; or
-- there is none, and no edit waits or is to be taken
abbrev pub IsAccountedFor : List Row → ℕ → ℕ → Option Change → List (ℕ × Change) → Type 0
IsAccountedFor log own t None [] = positions_ahead log own t ≡ []
IsAccountedFor log own t None (e ∷ es) = ⊥
IsAccountedFor log own t (Some u) [] = IsServed log own t u
IsAccountedFor log own t (Some u) (e ∷ []) = IsUnserved log own t e.0 e.1 u
IsAccountedFor log own t (Some u) (e ∷ f ∷ es) = ⊥

-- the performer has finished, and nothing is outstanding or to go out
pub record HasEnded (m : Machine) : Type 0 where
  pub finishing : m.finishing ≡ true
  pub synchronized : m.pending ≡ Synchronized
  pub nothing_to_go : m.outgoing ≡ []

-- ---- the agreement

-- the machine agrees with the log, where this call is in the lane, if there is one
pub record Agrees (log : List Row) (m : Machine) (lane : Option (ℕ × Call)) : Type 0 where
  -- it began with the log's document at its start, and took the log's entries from there on
  pub start_is : m.text ≡ doc (take m.start log)
  pub taken_is : m.entries ≡ drop m.start (take (taken_count m) (entries log))
  pub within : taken_count m ≤ length log
  -- the numbers and calls of the performer's rows behind its join, and then the one in the lane, are those that it sent
  pub sent_is : pairs_by m.own (drop (suc m.joined) log) ++ lane_pairs lane ≡ sent_pairs m
  -- no call that waits has seen more than was taken, or less than the one in front of it
  pub seen_rises : SeenRises 0 (taken_count m) (waiting_calls (lane_call lane) m)
  -- where the outstanding operation is
  pub accounted : IsAccountedFor log m.own (taken_count m) (outstanding m.pending) (edits_among (waiting_calls (lane_call lane) m))
  -- the performer joined there, and is a member unless its leave was sent and served
  pub has_joined : is_own_join m.own (slice_get log m.joined) ≡ true
  pub member : is_member log m.own ≡ not (m.leave_sent && not (is_leaving (lane_call lane)))
  -- a leave is sent only after all else, and nothing after it
  pub last : m.leave_sent ≡ true → HasEnded m
  pub lane_fits : LaneFits (lane_call lane) m.leave_sent
  -- what is not confirmed fits the document of what was taken, one operation behind the other
  pub bases : FitsOn m.pending (length (doc (take (taken_count m) log)))
