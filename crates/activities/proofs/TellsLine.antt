-- What a reader's answer says of the bytes to come.
use Rattle.std.proofs.Common.{◌≡◌, ℕ, List, [], ◌∷◌, ◌++◌, Option, None, Some, refl, sym, ap, ◌∙◌, subst, append_assoc, inl, inr}
use Rattle.std.specs.Prelude.{IfSome, option_map}
use Rattle.troop_ports.specs.Bytes.{in_front}
use Rattle.troop_ports.specs.Faults.{Counted}
use Rattle.wire_lines.specs.Lines.{HasNoFeed, lines}
use Rattle.wire_lines.specs.Reader.{Reader, held_bytes, EndsLine, IsLong, ReadsLine, CountsLine}
use Rattle.wire_lines.specs.declared.reader.Line.{Line}
use Rattle.wire_lines.specs.declared.reader.Line.TheVariants as line
use Rattle.wire_lines.specs.declared.reader.State.TheVariants as state
use Rattle.wire_lines.proofs.IsNextLine.{text_told, end_told, long_read, ends_state}
use Rattle.activities.specs.Lines.{coming, MayRead, GaveLines, IsHeldBack, TellsLine, CountsAnswer}

-- what is to come are the bytes that are held and those that were taken, and then what remains
pub held_first : (old : Reader) (taken : List ℕ) (remaining0 remaining1 : Option (List ℕ)) → remaining0 ≡ in_front taken remaining1
    → coming old remaining0 ≡ in_front (held_bytes old ++ taken) remaining1
held_first old taken remaining0 None given = ap (in_front (held_bytes old)) given
held_first old taken remaining0 (Some rest) given = ap (in_front (held_bytes old)) given ∙ ap Some (sym (append_assoc (held_bytes old) taken rest))

-- what was taken of the source is held, or was given
held_back : (old : Reader) (taken : List ℕ) (remaining0 remaining1 : Option (List ℕ)) → remaining0 ≡ in_front taken remaining1
    → IsHeldBack (coming old remaining0) remaining1
held_back old taken remaining0 remaining1 given = (held_bytes old ++ taken, held_first old taken remaining0 remaining1 given)

gave_line : (text : List ℕ) (old new : Reader) (taken : List ℕ) (remaining0 remaining1 : Option (List ℕ)) → remaining0 ≡ in_front taken remaining1 → HasNoFeed text
    → EndsLine text (held_bytes old ++ taken) new remaining1 → GaveLines (coming old remaining0) (text ∷ []) (coming new remaining1)
gave_line text old new taken None None given none ends = refl
gave_line text old new taken None (Some rest) given none ends = absurd cc
gave_line text old new taken (Some bytes) None given none ends = absurd cc
gave_line text old new taken (Some bytes) (Some rest) given none ends =
    let (rest', told, first) = text_told text (held_bytes old ++ bytes) old new taken (Some bytes) (Some rest) given none ends refl in
    ap Some first.split ∙ ap (λ (o : Option (List ℕ)). option_map (λ r. text ∷ lines r) o) (sym told)

ended : (old new : Reader) (remaining0 remaining1 : Option (List ℕ)) → MayRead old remaining0 → ReadsLine line.End old new remaining0 remaining1
    → IfSome (coming old remaining0) (λ rest. rest ≡ [])
ended old new None remaining1 may r = tt
ended old new (Some bytes) remaining1 may r = (end_told (held_bytes old ++ bytes) old new (Some bytes) remaining1 may r refl).0

long : (old new : Reader) (remaining0 remaining1 : Option (List ℕ)) → MayRead old remaining0 → ReadsLine line.Long old new remaining0 remaining1
    → IfSome (coming old remaining0) (IsLong old.limit)
long old new None remaining1 may r = tt
long old new (Some bytes) remaining1 may r = long_read (held_bytes old ++ bytes) old new (Some bytes) remaining1 may r refl

-- an answer, as a call of the reader says it
pub tells : (l : Line) (old new : Reader) (remaining0 remaining1 : Option (List ℕ)) → MayRead old remaining0 → ReadsLine l old new remaining0 remaining1
    → TellsLine l old.limit (coming old remaining0) new remaining1
tells (line.Text text) old new remaining0 remaining1 may r =
    (gave_line text.items old new r.taken remaining0 remaining1 r.given r.gives.1 r.gives.3, ends_state text.items (held_bytes old ++ r.taken) new remaining1 r.gives.3, r.gives.2)
tells line.End old new remaining0 remaining1 may r = (held_back old r.taken remaining0 remaining1 r.given, ended old new remaining0 remaining1 may r)
tells line.Long old new remaining0 remaining1 may r = (held_back old r.taken remaining0 remaining1 r.given, long old new remaining0 remaining1 may r)
tells line.Fault old new remaining0 remaining1 may r = held_back old r.taken remaining0 remaining1 r.given
tells line.Memory old new remaining0 remaining1 may r =
    (held_bytes old ++ r.taken, held_first old r.taken remaining0 remaining1 r.given, λ long. r.gives.3 (subst (IsLong old.limit) (sym r.gives.2) long))

fault_counted : (old : Reader) (remaining : Option (List ℕ)) (before now : ℕ) → MayRead old remaining → CountsLine line.Fault old before now → Counted before now
fault_counted old remaining before now may (inr (going, counted)) = counted
fault_counted old remaining before now (inl going) (inl (was, same)) = let never : state.Going ≡ state.Fault = sym going ∙ was in absurd cc
fault_counted old remaining before now (inr end) (inl (was, same)) = let never : state.Ended ≡ state.Fault = sym end.0 ∙ was in absurd cc

-- the count of faults, as a call of the reader says it
pub counts : (l : Line) (old : Reader) (remaining : Option (List ℕ)) (before now : ℕ) → MayRead old remaining → CountsLine l old before now → CountsAnswer l before now
counts (line.Text text) old remaining before now may c = c
counts line.End old remaining before now may c = c
counts line.Long old remaining before now may c = c
counts line.Fault old remaining before now may c = fault_counted old remaining before now may c
counts line.Memory old remaining before now may c = c
