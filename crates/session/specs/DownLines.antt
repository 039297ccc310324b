-- Down lines: sessions that write the log's entries.
use Rattle.std.specs.Prelude.{◌≡◌, ◌⊎◌, ℕ, suc, ◌<◌, ◌≤◌, List, [], ◌∷◌, ◌++◌, length, take, drop, flat_map, Bool, true, false, if◌then◌else◌, Option}
use Rattle.std.specs.List.{list_any}
use Rattle.seat_lock.specs.Lists.{Begins}
use Rattle.troop_entry.specs.declared.entry.Entry.{Entry}
use Rattle.troop_entry.specs.declared.row.Row.{Row}
use Rattle.troop_entry.specs.Told.{is_leave_of}
use Rattle.log_model.specs.Log.{has_join, has_leave, entries, doc}
use Rattle.wire_json.specs.declared.replies.WireReply.TheVariants as wire
use Rattle.session.specs.declared.session_end.SessionEnd.{SessionEnd}
use Rattle.session.specs.declared.session_end.SessionEnd.TheVariants as ends
use Rattle.session.specs.Printed.{reply_line, entry_line, snapshot_line}
use Rattle.session.specs.Ends.{Wrote}
use Rattle.session.specs.UpLines.{IsJoinAt}

-- these entries, up to and with the first leave of this performer
abbrev pub until_leave : ℕ → List Entry → List Entry
until_leave who [] = []
until_leave who (e ∷ es) = if is_leave_of who e then e ∷ [] else e ∷ until_leave who es

-- whether one of them is its leave
abbrev pub tells_leave_of : ℕ → List Entry → Bool
tells_leave_of who es = list_any (is_leave_of who) es

-- the entries as they are written
abbrev pub printed_entries : List Entry → List ℕ
printed_entries es = flat_map entry_line es

-- the entries that a down line owes from this position on: up to and with the performer's leave, and none where that stands in front
-- of the position
abbrev pub entries_owed : ℕ → ℕ → List Row → List Entry
entries_owed start who log = if has_leave (take start log) who then [] else until_leave who (drop start (entries log))

-- these bytes, and then the entries owed, were written, all of them where the session ended with `Left`; and then the performer has left
pub record Follows (first : List ℕ) (start who : ℕ) (log : List Row) (end : SessionEnd) (old new : Option (List ℕ)) : Type 0 where
  pub wrote : Wrote ends.Left end (first ++ printed_entries (entries_owed start who log)) old new
  pub left : end ≡ ends.Left → has_leave log who ≡ true

-- the first line opens no session
abbrev pub IsUnfit : SessionEnd → Option (List ℕ) → Option (List ℕ) → Type 0
IsUnfit end old new = Wrote (ends.Unfit 1) end (reply_line (wire.Unfit 1)) old new

-- A down line of a seat that had seen these rows, said of a later log. In the list then seen the performer has joined, and the position
-- is no further than its end, exactly where the entries follow
pub record DownLine (start who : ℕ) (seen log : List Row) (end : SessionEnd) (old new : Option (List ℕ)) : Type 0 where
  pub looked_at : List Row
  pub behind : Begins seen looked_at
  pub begins : Begins looked_at log
  pub written : ((has_join looked_at who ≡ true) × (start ≤ length looked_at) × Follows [] start who log end old new)
      ⊎ (((has_join looked_at who ≡ false) ⊎ (length looked_at < start)) × IsUnfit end old new)

-- the document behind the performer's join, and then the entries from there on
pub record SnapFollows (who : ℕ) (looked_at log : List Row) (end : SessionEnd) (old new : Option (List ℕ)) : Type 0 where
  pub at : ℕ
  pub joined : IsJoinAt who looked_at at
  pub follows : Follows (snapshot_line (suc at) (doc (take (suc at) log))) (suc at) who log end old new

-- A down line that begins with a snapshot. In the list then seen the performer has joined exactly where the snapshot and the entries
-- follow
pub record SnapLine (who : ℕ) (seen log : List Row) (end : SessionEnd) (old new : Option (List ℕ)) : Type 0 where
  pub looked_at : List Row
  pub behind : Begins seen looked_at
  pub begins : Begins looked_at log
  pub written : SnapFollows who looked_at log end old new ⊎ ((has_join looked_at who ≡ false) × IsUnfit end old new)
