-- The agreement by the calls alone, without their numbers.
use Rattle.std.specs.Prelude.{◌≡◌, ◌≤◌, ℕ, suc, true, if◌then◌else◌, ◌==◌, ◌&&◌, not, Option, None, Some, List, [], ◌∷◌, ◌++◌, length, take, drop, slice_get}
use Rattle.client_state.specs.Standing.{FitsOn}
use Rattle.client_state.specs.Pending.{outstanding}
use Rattle.troop_entry.specs.declared.row.Row.{Row}
use Rattle.troop_entry.specs.declared.call.Call.{Call}
use Rattle.log_model.specs.Log.{doc, entries, is_member}
use Rattle.stage_state.specs.Machine.{Machine, taken_count}
use Rattle.agreement.specs.Agreement.{SeenRises, waiting_calls, edits_among, IsAccountedFor, is_own_join, is_leaving, HasEnded, LaneFits}

-- the call in the lane, if there is one, as a list
abbrev pub call_lane : Option Call → List Call
call_lane None = []
call_lane (Some call) = call ∷ []

-- the calls of the performer's rows
abbrev pub calls_by : ℕ → List Row → List Call
calls_by who [] = []
calls_by who (row ∷ rows) = if row.who == who then row.call ∷ calls_by who rows else calls_by who rows

-- the machine agrees with the log by its calls
pub record Agreed (log : List Row) (m : Machine) (lane : Option Call) : Type 0 where
  -- what was taken is the log's, from the start on
  pub start_is : m.text ≡ doc (take m.start log)
  pub taken_is : m.entries ≡ drop m.start (take (taken_count m) (entries log))
  pub within : taken_count m ≤ length log
  -- the calls of the performer's rows behind its join, and then the one in the lane, are those that were sent
  pub sent_is : calls_by m.own (drop (suc m.joined) log) ++ call_lane lane ≡ m.sent
  -- what the calls that wait have seen never falls
  pub seen_rises : SeenRises 0 (taken_count m) (waiting_calls lane m)
  -- where the outstanding operation is
  pub accounted : IsAccountedFor log m.own (taken_count m) (outstanding m.pending) (edits_among (waiting_calls lane m))
  -- the performer joined, and is a member unless its leave was sent and served
  pub has_joined : is_own_join m.own (slice_get log m.joined) ≡ true
  pub member : is_member log m.own ≡ not (m.leave_sent && not (is_leaving lane))
  -- a leave is sent only after all else, and nothing after it
  pub last : m.leave_sent ≡ true → HasEnded m
  pub lane_fits : LaneFits lane m.leave_sent
  -- the pending operations fit the document of what was taken, one behind the other
  pub bases : FitsOn m.pending (length (doc (take (taken_count m) log)))
