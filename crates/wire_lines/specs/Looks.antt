-- The two steps of a call: looking at what is held, and reading a piece.
use Rattle.std.specs.Prelude.{◌≡◌, ℕ, ◌<◌, ◌≤◌, List, [], ◌∷◌, ◌++◌, length, true, false, ◌⊎◌, Option, Some, None, IfSome}
use Rattle.troop_ports.specs.Bytes.{in_front}
use Rattle.troop_ports.specs.Faults.{Counted}
use Rattle.wire_lines.specs.Lines.{HasNoFeed, line_feed}
use Rattle.wire_lines.specs.declared.reader.State.TheVariants as state
use Rattle.wire_lines.specs.declared.reader.Line.{Line}
use Rattle.wire_lines.specs.declared.reader.Line.TheVariants as line
use Rattle.wire_lines.specs.Reader.{Reader, held_bytes, IsLong}

-- all that is held was looked at, and there is no whole line in it
pub record Passed (old new : Reader) : Type 0 where
  pub going : old.state ≡ state.Going
  pub state : new.state ≡ state.Going
  pub front : new.front ≡ held_bytes old
  pub piece : new.piece ≡ []
  pub short : length (held_bytes old) ≤ old.limit
  pub no_feed : HasNoFeed new.front
  pub whole : new.whole ≡ old.whole

-- an answer that takes nothing of the source
abbrev pub Cuts : Line → Reader → Reader → Type 0
Cuts (line.Text text) old new =
    (old.state ≡ state.Going) × (new.state ≡ state.Going) × HasNoFeed text.items × (length text.items ≤ old.limit)
    × (held_bytes old ≡ text.items ++ line_feed ∷ held_bytes new) × (new.whole ≡ true)
Cuts line.End old new = (old.state ≡ state.Ended) × (new.state ≡ state.Ended) × (held_bytes old ≡ []) × (held_bytes new ≡ []) × (new.whole ≡ old.whole)
Cuts line.Long old new = (new.state ≡ state.Long) × ((old.state ≡ state.Long) ⊎ ((old.state ≡ state.Going) × IsLong old.limit (held_bytes old))) × (new.whole ≡ old.whole)
Cuts line.Fault old new = (old.state ≡ state.Fault) × (new.state ≡ state.Fault) × (held_bytes new ≡ held_bytes old) × (new.whole ≡ old.whole)
Cuts line.Memory old new =
    (old.state ≡ state.Going) × (new.state ≡ state.Going) × (held_bytes new ≡ held_bytes old) × (new.whole ≡ old.whole) × (IsLong old.limit (held_bytes new) → ⊥)

-- looking answers, or passes over all that is held
abbrev pub Looked : Option Line → Reader → Reader → Type 0
Looked None old new = Passed old new
Looked (Some result) old new = Cuts result old new

-- a piece was read
pub record Filled (old new : Reader) (remaining_before remaining_after : Option (List ℕ)) : Type 0 where
  pub state : new.state ≡ state.Going
  pub front : new.front ≡ old.front
  pub some : 0 < length new.piece
  pub given : remaining_before ≡ in_front new.piece remaining_after
  pub whole : new.whole ≡ old.whole

-- the source has ended, or counted a fault
abbrev pub Finishes : Line → Reader → Reader → Option (List ℕ) → Type 0
Finishes (line.Text text) old new remaining =
    (new.state ≡ state.Ended) × (held_bytes new ≡ []) × (text.items ≡ old.front) × (0 < length text.items) × IfSome remaining (λ rest. rest ≡ []) × (new.whole ≡ false)
Finishes line.End old new remaining = (new.state ≡ state.Ended) × (held_bytes new ≡ []) × (old.front ≡ []) × IfSome remaining (λ rest. rest ≡ []) × (new.whole ≡ old.whole)
Finishes line.Long old new remaining = ⊥
Finishes line.Fault old new remaining = (new.state ≡ state.Fault) × (held_bytes new ≡ held_bytes old) × (new.whole ≡ old.whole)
Finishes line.Memory old new remaining = ⊥

-- reading answers, or takes a piece
abbrev pub Fills : Option Line → Reader → Reader → Option (List ℕ) → Option (List ℕ) → Type 0
Fills None old new remaining_before remaining_after = Filled old new remaining_before remaining_after
Fills (Some result) old new remaining_before remaining_after = (remaining_after ≡ remaining_before) × Finishes result old new remaining_after

-- a fault was counted exactly with that answer
abbrev pub CountsFill : Option Line → ℕ → ℕ → Type 0
CountsFill None before now = now ≡ before
CountsFill (Some (line.Text text)) before now = now ≡ before
CountsFill (Some line.End) before now = now ≡ before
CountsFill (Some line.Long) before now = ⊥
CountsFill (Some line.Fault) before now = Counted before now
CountsFill (Some line.Memory) before now = ⊥
