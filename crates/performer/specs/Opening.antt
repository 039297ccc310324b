-- The opening of a performer's links: the join and its reply on the up side, and the one line of the down side.
use Rattle.std.specs.Prelude.{◌≡◌, ◌⊎◌, ℕ, List, [], ◌∷◌, Option, Result, Ok, Err}
use Rattle.seat_lock.specs.Lists.{Begins}
use Rattle.troop_entry.specs.declared.call.Call.{Call}
use Rattle.troop_entry.specs.declared.call.Call.TheVariants as call
use Rattle.troop_entry.specs.declared.call.Lang.{Lang}
use Rattle.troop_entry.specs.declared.call.Request.TheVariants as request
use Rattle.troop_ports.specs.Bytes.{at_end}
use Rattle.wire_lines.specs.declared.reader.State.TheVariants as state
use Rattle.wire_print.specs.Printed.{printed_line, request_data}
use Rattle.activities.specs.declared.errors.PerformError.{PerformError}
use Rattle.activities.specs.declared.errors.PerformError.TheVariants as error
use Rattle.activities.specs.declared.up.Placing.{Placing}
use Rattle.activities.specs.Counts.{CountsLink}
use Rattle.activities.specs.Up.{SentCall}

-- a join has no number
abbrev pub join_pair : List ℕ → Lang → ℕ × Call
join_pair name lang = (0, call.Join name lang)

-- the line by which this performer asks for all entries
abbrev pub down_line : ℕ → List ℕ
down_line who = printed_line (request_data (request.Down 0 who))

-- why the line of the down side wasn't written whole: `front` of it was
abbrev pub IsCutDown : ℕ → List ℕ → PerformError → Type 0
IsCutDown who front error.ReadFault = ⊥
IsCutDown who front error.WriteFault = ⊥
IsCutDown who front error.NetFault = Begins front (down_line who)
IsCutDown who front (error.BadInput line) = ⊥
IsCutDown who front error.TooMuch = ⊥
IsCutDown who front (error.Refused reply) = ⊥
IsCutDown who front (error.Dropped at) = ⊥
IsCutDown who front (error.BadPeer side line what) = ⊥
IsCutDown who front (error.LongRequest bytes) = ⊥
IsCutDown who front error.Memory = front ≡ []

-- the line of the down side was written, or the front of it, and why
abbrev pub WroteDown : ℕ → Option (List ℕ) → Option (List ℕ) → Result (Unit {0}) PerformError → Type 0
WroteDown who before now (Ok u) = now ≡ at_end before (down_line who)
WroteDown who before now (Err error) = (front : List ℕ) × (now ≡ at_end before front) × IsCutDown who front error

-- the opening failed: the join wasn't placed, and nothing was written on the down side; or it was, and the line of the down side wasn't written whole; or both were done, and memory
-- was wanting behind them
abbrev pub OpeningFails : List ℕ → Lang → PerformError → Option (List ℕ) → Option (List ℕ) → Option (List ℕ) → Option (List ℕ) → Option (List ℕ) → Option (List ℕ) → Type 0
OpeningFails name lang cause told remaining before now down_before down_now =
    (SentCall 1 (join_pair name lang) state.Going told told remaining before now (Err cause) × (down_now ≡ down_before))
    ⊎ ((placing : Placing) × (rest : Option (List ℕ)) × SentCall 1 (join_pair name lang) state.Going told rest remaining before now (Ok placing)
    × (WroteDown placing.who down_before down_now (Err cause) ⊎ (WroteDown placing.who down_before down_now (Ok tt) × (cause ≡ error.Memory))))

-- a fault of the net is one of one link, and the other's count is as it was
abbrev pub CountsOpening : PerformError → ℕ → ℕ → ℕ → ℕ → Type 0
CountsOpening cause up_before up_now down_before down_now =
    (CountsLink cause up_before up_now × (down_now ≡ down_before)) ⊎ ((up_now ≡ up_before) × CountsLink cause down_before down_now)
