-- A reader of lines: what it holds, and what each answer says.
use Rattle.std.specs.Prelude.{◌≡◌, ℕ, ◌<◌, ◌≤◌, List, [], ◌∷◌, ◌++◌, length, Bool, true, false, ◌⊎◌, Option, Some, IfSome, All}
use Rattle.troop_ports.specs.Faults.{Counted}
use Rattle.troop_ports.specs.Bytes.{in_front}
use Rattle.wire_lines.specs.Lines.{HasNoFeed, line_feed, lines, with_feeds}
use Rattle.wire_lines.specs.declared.reader.State.{State}
use Rattle.wire_lines.specs.declared.reader.State.TheVariants as state
use Rattle.wire_lines.specs.declared.reader.Line.{Line}
use Rattle.wire_lines.specs.declared.reader.Line.TheVariants as line

-- the limit of a line, the front of the next line, in which there is no line feed, the bytes behind it that weren't
-- looked at yet, whether it goes on, and whether the last line that was given ended at a line feed
pub record Reader : Type 0 where
  pub limit : ℕ
  pub front : List ℕ
  pub piece : List ℕ
  pub state : State
  pub whole : Bool

-- the bytes that were taken and stand in no line that was given
abbrev pub held_bytes : Reader → List ℕ
held_bytes reader = reader.front ++ reader.piece

-- the line ended at a line feed, or it is the last one, which has none, and the source has ended
abbrev pub EndsLine : List ℕ → List ℕ → Reader → Option (List ℕ) → Type 0
EndsLine text bytes new remaining =
    ((bytes ≡ text ++ line_feed ∷ held_bytes new) × (new.state ≡ state.Going) × (new.whole ≡ true))
    ⊎ ((bytes ≡ text) × (0 < length text) × (held_bytes new ≡ []) × (new.state ≡ state.Ended) × (new.whole ≡ false) × IfSome remaining (λ rest. rest ≡ []))

-- the bytes begin with one more than the limit and no line feed among them
pub record IsLong (limit : ℕ) (bytes : List ℕ) : Type 0 where
  pub front : List ℕ
  pub rest : List ℕ
  pub is : bytes ≡ front ++ rest
  pub long : limit < length front
  pub no_feed : HasNoFeed front

-- what an answer says, where these bytes were taken in this call, and these remain of the source
abbrev pub Gives : Line → Reader → Reader → List ℕ → Option (List ℕ) → Type 0
Gives (line.Text text) old new taken remaining =
    (old.state ≡ state.Going) × HasNoFeed text.items × (length text.items ≤ old.limit) × EndsLine text.items (held_bytes old ++ taken) new remaining
Gives line.End old new taken remaining =
    (new.state ≡ state.Ended) × (held_bytes new ≡ []) × (held_bytes old ++ taken ≡ [])
    × ((old.state ≡ state.Ended) ⊎ ((old.state ≡ state.Going) × IfSome remaining (λ rest. rest ≡ [])))
Gives line.Long old new taken remaining =
    (new.state ≡ state.Long) × (((old.state ≡ state.Long) × (taken ≡ [])) ⊎ ((old.state ≡ state.Going) × IsLong old.limit (held_bytes old ++ taken)))
Gives line.Fault old new taken remaining =
    (new.state ≡ state.Fault) × (held_bytes new ≡ held_bytes old ++ taken)
    × (((old.state ≡ state.Fault) × (taken ≡ [])) ⊎ ((old.state ≡ state.Going) × HasNoFeed (held_bytes new) × (length (held_bytes new) ≤ old.limit)))
Gives line.Memory old new taken remaining =
    (old.state ≡ state.Going) × (new.state ≡ state.Going) × (held_bytes new ≡ held_bytes old ++ taken) × (IsLong old.limit (held_bytes new) → ⊥)

-- an answer that gives no line leaves what is told of the last line as it was
abbrev pub KeepsWhole : Line → Reader → Reader → Type 0
KeepsWhole (line.Text text) old new = Unit {0}
KeepsWhole line.End old new = new.whole ≡ old.whole
KeepsWhole line.Long old new = new.whole ≡ old.whole
KeepsWhole line.Fault old new = new.whole ≡ old.whole
KeepsWhole line.Memory old new = new.whole ≡ old.whole

-- a call of the reader: some bytes were taken, and the answer says this of them
pub record ReadsLine (result : Line) (old new : Reader) (remaining_before remaining_after : Option (List ℕ)) : Type 0 where
  pub taken : List ℕ
  pub given : remaining_before ≡ in_front taken remaining_after
  pub limit : new.limit ≡ old.limit
  pub gives : Gives result old new taken remaining_after
  pub keeps : KeepsWhole result old new

-- a fault was counted, or was answered before; any other answer leaves the count as it was
abbrev pub CountsLine : Line → Reader → ℕ → ℕ → Type 0
CountsLine (line.Text text) old before now = now ≡ before
CountsLine line.End old before now = now ≡ before
CountsLine line.Long old before now = now ≡ before
CountsLine line.Fault old before now = ((old.state ≡ state.Fault) × (now ≡ before)) ⊎ ((old.state ≡ state.Going) × Counted before now)
CountsLine line.Memory old before now = now ≡ before

-- the front has no line feed and is within the limit, and at the end nothing is held
pub record IsSound (reader : Reader) : Type 0 where
  pub no_feed : HasNoFeed reader.front
  pub short : length reader.front ≤ reader.limit
  pub ended : reader.state ≡ state.Ended → held_bytes reader ≡ []

-- ---- The same in the words of *Lines*, where the source tells its bytes.

-- what an answer says of the bytes that were held and remaining before the call, and of those behind it
abbrev pub IsNextLine : ℕ → Line → List ℕ → Option (List ℕ) → Type 0
IsNextLine limit (line.Text text) bytes after = (rest : List ℕ) × (after ≡ Some rest) × (lines bytes ≡ text.items ∷ lines rest) × (length text.items ≤ limit)
IsNextLine limit line.End bytes after = (bytes ≡ []) × (after ≡ Some [])
IsNextLine limit line.Long bytes after = (first : List ℕ) × (others : List (List ℕ)) × (lines bytes ≡ first ∷ others) × (limit < length first)
IsNextLine limit line.Fault bytes after = after ≡ Some bytes
IsNextLine limit line.Memory bytes after = after ≡ Some bytes

-- however the source cuts its bytes, a reader that goes on answers by their first line
abbrev pub ForEveryCutting : Type 0
ForEveryCutting = (result : Line) (old new : Reader) (before after : Option (List ℕ)) (bytes : List ℕ) → ReadsLine result old new before after → old.state ≡ state.Going
    → in_front (held_bytes old) before ≡ Some bytes → IsNextLine old.limit result bytes (in_front (held_bytes new) after)

-- ---- All calls in a row.

-- these lines were given one after another, and so many bytes were taken
pub record HasRead (given : List (List ℕ)) (reader : Reader) (bytes : List ℕ) : Type 0 where
  pub no_feeds : All HasNoFeed given
  pub are : reader.state ≡ state.Going → bytes ≡ with_feeds given ++ held_bytes reader
