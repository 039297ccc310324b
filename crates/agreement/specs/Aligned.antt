-- What is to be known of a stage and a log, so that they agree.
use Rattle.std.specs.Prelude.{◌≡◌, ◌≤◌, ℕ, suc, true, Option, List, ◌++◌, take, drop, slice_get}
use Rattle.troop_entry.specs.declared.row.Row.{Row}
use Rattle.troop_entry.specs.declared.call.Call.{Call}
use Rattle.log_model.specs.Log.{doc, entries}
use Rattle.stage_state.specs.Machine.{taken_count, sent_pairs}
use Rattle.stage_state.specs.Staged.{Staged, machine}
use Rattle.agreement.specs.Agreement.{lane_pairs, pairs_by, is_own_join}

-- the log has the join of the stage's performer; the stage began no later than behind it, with the log's document there; it took
-- the log's entries from there on; and the numbers and calls of the performer's rows behind the join, and then the one in the lane, are
-- those that it sent
pub record IsAligned (log : List Row) (s : Staged) (lane : Option (ℕ × Call)) : Type 0 where
  pub has_joined : is_own_join s.own (slice_get log s.joined) ≡ true
  pub near : s.start ≤ suc s.joined
  pub start_is : s.text ≡ doc (take s.start log)
  pub taken_is : (machine s).entries ≡ drop s.start (take (taken_count (machine s)) (entries log))
  pub sent_is : pairs_by s.own (drop (suc s.joined) log) ++ lane_pairs lane ≡ sent_pairs (machine s)
