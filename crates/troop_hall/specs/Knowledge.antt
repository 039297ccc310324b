-- What a log knows of a performer.
use Rattle.std.specs.Prelude.{ℕ, List, length, Option}
use Rattle.std.specs.List.{position_from}
use Rattle.troop_entry.specs.declared.row.Row.{Row}
use Rattle.log_model.specs.Log.{has_join, is_join_by, is_leave_by}
use Rattle.troop_hall.specs.declared.known.Known.{Known}

-- what the log knows of the performer: whether it has a join row, the position of its leave row, and how many rows there are
abbrev pub known_at : List Row → ℕ → Known
known_at log who = record { joined = has_join log who; left = position_from (is_leave_by who) 0 log; length = length log }

-- the position of the performer's join row
abbrev pub join_at : List Row → ℕ → Option ℕ
join_at log who = position_from (is_join_by who) 0 log
