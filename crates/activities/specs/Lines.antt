-- Lines that were read one after the other, and what they mean.
use Rattle.std.specs.Prelude.{◌≡◌, ◌⊎◌, ℕ, ◌+◌, ◌-◌, ◌^◌, ◌≤◌, min, List, [], ◌∷◌, ◌++◌, length, map, All, Option, Some, IfSome, option_map, Result, Ok, Err}
use Rattle.troop_ports.specs.Bytes.{in_front}
use Rattle.troop_ports.specs.Faults.{Counted}
use Rattle.wire_lines.specs.Lines.{HasNoFeed, lines, whole_lines, with_feeds}
use Rattle.wire_lines.specs.Reader.{Reader, held_bytes, IsLong}
use Rattle.wire_lines.specs.declared.reader.Line.{Line}
use Rattle.wire_lines.specs.declared.reader.Line.TheVariants as line
use Rattle.wire_lines.specs.declared.reader.State.{State}
use Rattle.wire_lines.specs.declared.reader.State.TheVariants as state
use Rattle.wire_json.specs.declared.read.Read.{Read}
use Rattle.wire_json.specs.declared.read.Read.TheVariants as read
use Rattle.activities.specs.declared.errors.PerformError.{PerformError}
use Rattle.activities.specs.declared.errors.PerformError.TheVariants as error

-- what a reader holds, and then what remains of its source, where that is told
abbrev pub coming : Reader → Option (List ℕ) → Option (List ℕ)
coming reader remaining = in_front (held_bytes reader) remaining

-- the reader goes on, or its source has ended and nothing remains
abbrev pub MayRead : Reader → Option (List ℕ) → Type 0
MayRead reader remaining = (reader.state ≡ state.Going) ⊎ ((reader.state ≡ state.Ended) × (held_bytes reader ≡ []) × IfSome remaining (λ rest. rest ≡ []))

-- the lines of the bytes that were to come are these, and then those of the bytes that are to come now
abbrev pub GaveLines : Option (List ℕ) → List (List ℕ) → Option (List ℕ) → Type 0
GaveLines before given after = option_map lines before ≡ option_map (λ rest. given ++ lines rest) after

-- the bytes to come are some that the reader holds, and then those that remain of its source
abbrev pub IsHeldBack : Option (List ℕ) → Option (List ℕ) → Type 0
IsHeldBack rest remaining = (held : List ℕ) × (rest ≡ in_front held remaining)

-- the lines given are exactly those that came whole in what was taken of the source before it failed
abbrev pub IsCutOff : Option (List ℕ) → List (List ℕ) → Option (List ℕ) → Type 0
IsCutOff told given remaining = IfSome told (λ _. (taken : List ℕ) × (told ≡ in_front taken remaining) × (whole_lines taken ≡ given))

-- the bytes that were to come are whole lines, each with its line feed, and then these
abbrev pub IsBehindLines : Option (List ℕ) → Option (List ℕ) → Type 0
IsBehindLines told after = IfSome told (λ _. (given : List (List ℕ)) × All HasNoFeed given × (told ≡ in_front (with_feeds given) after))

-- where the reader goes on now, it went on before, and only whole lines were taken from the bytes to come
abbrev pub GoesWhole : Reader → Option (List ℕ) → Reader → Option (List ℕ) → Type 0
GoesWhole old told new after = new.state ≡ state.Going → (old.state ≡ state.Going) × IsBehindLines told after

-- the reader, which was in this state, went on, and no line came whole in what was taken before the source failed
abbrev pub FailsBare : State → Option (List ℕ) → Option (List ℕ) → Type 0
FailsBare was told remaining = (was ≡ state.Going) × IsCutOff told [] remaining

-- what an answer of a reader says of whole lines, of the bytes that were to come, of the reader then, and of what remains then
abbrev pub TellsWhole : Line → Reader → Option (List ℕ) → Reader → Option (List ℕ) → Type 0
TellsWhole (line.Text text) old told new remaining = GoesWhole old told new (coming new remaining)
TellsWhole line.End old told new remaining = Unit {0}
TellsWhole line.Long old told new remaining = Unit {0}
TellsWhole line.Fault old told new remaining = FailsBare old.state told remaining
TellsWhole line.Memory old told new remaining = Unit {0}

-- the same, where those that are held don't begin with a line over the limit
abbrev pub IsShortHeld : ℕ → Option (List ℕ) → Option (List ℕ) → Type 0
IsShortHeld limit rest remaining = (held : List ℕ) × (rest ≡ in_front held remaining) × (IsLong limit held → ⊥)

-- memory was wanting: before a line was read, where none over the limit is held, or for the one line that was read, which is within the limit
abbrev pub WantsAtLine : ℕ → List (List ℕ) → Option (List ℕ) → Option (List ℕ) → Type 0
WantsAtLine limit last rest remaining = ((last ≡ []) × IsShortHeld limit rest remaining) ⊎ ((line : List ℕ) × (last ≡ line ∷ []) × (length line ≤ limit))

-- what an answer of a reader with this limit says: of the bytes that were to come, of the reader then, and of what remains then
abbrev pub TellsLine : Line → ℕ → Option (List ℕ) → Reader → Option (List ℕ) → Type 0
TellsLine (line.Text text) limit before new remaining = GaveLines before (text.items ∷ []) (coming new remaining) × MayRead new remaining × (length text.items ≤ limit)
TellsLine line.End limit before new remaining = IsHeldBack before remaining × IfSome before (λ rest. rest ≡ [])
TellsLine line.Long limit before new remaining = IsHeldBack before remaining × IfSome before (IsLong limit)
TellsLine line.Fault limit before new remaining = IsHeldBack before remaining
TellsLine line.Memory limit before new remaining = IsShortHeld limit before remaining

-- a fault was counted exactly where it is answered
abbrev pub CountsAnswer : Line → ℕ → ℕ → Type 0
CountsAnswer (line.Text text) before now = now ≡ before
CountsAnswer line.End before now = now ≡ before
CountsAnswer line.Long before now = now ≡ before
CountsAnswer line.Fault before now = Counted before now
CountsAnswer line.Memory before now = now ≡ before

-- each line was read as the value at its place
abbrev pub AreReadAs : {T : Type 0} → (List ℕ → Option T) → List (List ℕ) → List T → Type 0
AreReadAs read given values = map read given ≡ map Some values

-- the value that a reader answered, or the error by which there is none: this one where the line is outside the grammar
abbrev pub value_or : {T : Type 0} → PerformError → Read T → Result T PerformError
value_or bad (read.Value x) = Ok x
value_or bad read.Bad = Err bad
value_or bad read.Memory = Err error.Memory

-- the number of the line behind these, where lines are counted from a number on
abbrev pub number_behind : ℕ → List (List ℕ) → ℕ
number_behind first given = min (length given + first) (2 ^ 64 - 1)
