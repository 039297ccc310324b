-- How a session ends, what it has then written, and what its link has counted.
use Rattle.std.specs.Prelude.{◌≡◌, ◌⊎◌, ℕ, ◌<◌, List, [], length, Option, IfSome}
use Rattle.seat_lock.specs.Lists.{Begins}
use Rattle.troop_ports.specs.Bytes.{in_front, at_end}
use Rattle.troop_ports.specs.Faults.{Counted}
use Rattle.wire_lines.specs.Reader.{Reader, held_bytes}
use Rattle.wire_lines.specs.declared.reader.State.TheVariants as state
use Rattle.session.specs.declared.session_end.SessionEnd.{SessionEnd}
use Rattle.session.specs.declared.session_end.SessionEnd.TheVariants as ends

-- a front of these bytes was written
abbrev pub WroteFront : List ℕ → Option (List ℕ) → Option (List ℕ) → Type 0
WroteFront owed old new = (front : List ℕ) × Begins front owed × (new ≡ at_end old front)

-- fewer bytes than these were written, from their beginning on
abbrev pub WroteLess : List ℕ → Option (List ℕ) → Option (List ℕ) → Type 0
WroteLess owed old new = (front : List ℕ) × Begins front owed × (length front < length owed) × (new ≡ at_end old front)

-- a fault of its link, or want of memory, ended the session
abbrev pub IsBroken : SessionEnd → Type 0
IsBroken ends.LinkFault = Unit {0}
IsBroken ends.Memory = Unit {0}
IsBroken ends.Left = ⊥
IsBroken ends.Away = ⊥
IsBroken ends.Crowded = ⊥
IsBroken (ends.Stranger who) = ⊥
IsBroken (ends.Long line) = ⊥
IsBroken (ends.Unfit line) = ⊥

-- neither did
abbrev pub IsWhole : SessionEnd → Type 0
IsWhole ends.LinkFault = ⊥
IsWhole ends.Memory = ⊥
IsWhole ends.Left = Unit {0}
IsWhole ends.Away = Unit {0}
IsWhole ends.Crowded = Unit {0}
IsWhole (ends.Stranger who) = Unit {0}
IsWhole (ends.Long line) = Unit {0}
IsWhole (ends.Unfit line) = Unit {0}

-- the session ended so, and wrote all the bytes that it owed; or a fault or want of memory ended it, and it wrote a front of them
abbrev pub Wrote : SessionEnd → SessionEnd → List ℕ → Option (List ℕ) → Option (List ℕ) → Type 0
Wrote so end owed old new = ((end ≡ so) × (new ≡ at_end old owed)) ⊎ (IsBroken end × WroteFront owed old new)

-- the link counted a fault exactly where the session ended for it
abbrev pub CountsEnd : SessionEnd → ℕ → ℕ → Type 0
CountsEnd ends.LinkFault before now = Counted before now
CountsEnd ends.Memory before now = now ≡ before
CountsEnd ends.Left before now = now ≡ before
CountsEnd ends.Away before now = now ≡ before
CountsEnd ends.Crowded before now = now ≡ before
CountsEnd (ends.Stranger who) before now = now ≡ before
CountsEnd (ends.Long line) before now = now ≡ before
CountsEnd (ends.Unfit line) before now = now ≡ before

-- what a session's link has left to be read and what it took, before the session and behind it, where it tells them: `left_after` with what was read and stands in no line
-- that was looked at, `rest` without it
pub record Wires : Type 0 where
  pub left_before : Option (List ℕ)
  pub left_after : Option (List ℕ)
  pub rest : Option (List ℕ)
  pub taken_before : Option (List ℕ)
  pub taken_after : Option (List ℕ)

-- the five of them
abbrev pub wires : Option (List ℕ) → Option (List ℕ) → Option (List ℕ) → Option (List ℕ) → Option (List ℕ) → Wires
wires left_before left_after rest taken_before taken_after = record { left_before = left_before; left_after = left_after; rest = rest; taken_before = taken_before; taken_after = taken_after }

-- what a reader of lines holds, and then what its link has left
abbrev pub stream : Reader → Option (List ℕ) → Option (List ℕ)
stream reader remaining = in_front (held_bytes reader) remaining

-- the reader has answered neither `Long` nor `Fault`: it goes on, or the link's bytes have ended
abbrev pub ReadsOn : Reader → Option (List ℕ) → Type 0
ReadsOn reader remaining = (reader.state ≡ state.Going) ⊎ ((reader.state ≡ state.Ended) × (held_bytes reader ≡ []) × IfSome remaining (λ rest. rest ≡ []))
