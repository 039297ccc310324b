-- What the parts of a down line say.
use Rattle.std.specs.Prelude.{◌≡◌, ℕ, ◌+◌, ◌≤◌, List, ◌++◌, length, take, drop, Bool, false, Option, Result, Ok, Err}
use Rattle.troop_entry.specs.declared.entry.Entry.{Entry}
use Rattle.troop_entry.specs.declared.row.Row.{Row}
use Rattle.troop_ports.specs.Bytes.{at_end}
use Rattle.log_model.specs.Log.{has_leave, entries}
use Rattle.log_model.specs.Legal.{IsLegal}
use Rattle.session.specs.declared.session_end.SessionEnd.{SessionEnd}
use Rattle.session.specs.Ends.{WroteFront, IsBroken}
use Rattle.session.specs.DownLines.{until_leave, tells_leave_of, printed_entries}

-- the entries were written up to the leave, and whether it is among them; or a front
abbrev pub Shows : Result Bool SessionEnd → ℕ → List Entry → Option (List ℕ) → Option (List ℕ) → Type 0
Shows (Ok left) who es old new = (left ≡ tells_leave_of who es) × (new ≡ at_end old (printed_entries (until_leave who es)))
Shows (Err end) who es old new = IsBroken end × WroteFront (printed_entries (until_leave who es)) old new

-- a down line so far: these entries, and no leave, were written, and none stands in front of them
pub record InShow (start who : ℕ) (log : List Row) (next : ℕ) (old new : Option (List ℕ)) : Type 0 where
  pub shown : List Entry
  pub stays : has_leave (take start log) who ≡ false
  pub split : drop start (entries log) ≡ shown ++ drop next (entries log)
  pub next_is : next ≡ start + length shown
  pub within : next ≤ length log
  pub none : tells_leave_of who shown ≡ false
  pub wrote : new ≡ at_end old (printed_entries shown)

-- the entries of some legal log
abbrev pub AreEntries : List Entry → Type 0
AreEntries es = (log : List Row) × IsLegal log × (es ≡ entries log)
