-- A reader that goes on, or whose bytes have ended.
use Rattle.std.proofs.Common.{◌≡◌, inl, inr, ⊎_elim, ℕ, List, [], ◌∷◌, ◌++◌, append_assoc, refl, sym, ap, ◌∙◌, subst, Option, Some, None, IfSome}
use Rattle.std.specs.Prelude.{Vec}
use Rattle.std.specs.declared.alloc.Global.{Global}
use Rattle.troop_ports.specs.Bytes.{in_front}
use Rattle.wire_lines.specs.Lines.{HasNoFeed, line_feed}
use Rattle.wire_lines.specs.declared.reader.State.TheVariants as state
use Rattle.wire_lines.specs.declared.reader.Line.{Line}
use Rattle.wire_lines.specs.declared.reader.Line.TheVariants as line
use Rattle.wire_lines.specs.Reader.{Reader, held_bytes, EndsLine, ReadsLine, IsNextLine}
use Rattle.wire_lines.proofs.IsNextLine.{for_every_cutting, end_told, ends_state}
use Rattle.session.specs.Ends.{stream, ReadsOn}

never_ended : (old : Reader) {P : Type 0} → old.state ≡ state.Going → old.state ≡ state.Ended → P
never_ended old going ended = let never : state.Going ≡ state.Ended = sym going ∙ ended in absurd cc

never_long : (old : Reader) {P : Type 0} → old.state ≡ state.Long → old.state ≡ state.Ended → P
never_long old long ended = let never : state.Long ≡ state.Ended = sym long ∙ ended in absurd cc

never_fault : (old : Reader) {P : Type 0} → old.state ≡ state.Fault → old.state ≡ state.Ended → P
never_fault old fault ended = let never : state.Fault ≡ state.Ended = sym fault ∙ ended in absurd cc

-- what an answer says of the bytes that were held and remaining
pub next_line : (result : Line) (old new : Reader) (before after : Option (List ℕ)) (bytes : List ℕ) → ReadsOn old before → ReadsLine result old new before after → stream old before ≡ Some bytes → IsNextLine old.limit result bytes (stream new after)
next_line result old new before after bytes (inl going) r told = for_every_cutting result old new before after bytes r going told
next_line (line.Text text) old new before after bytes (inr ended) r told = never_ended old r.gives.0 ended.0
next_line line.End old new before after bytes (inr ended) r told =
    let both = end_told bytes old new before after (inr ended) r told in
    (both.0, ap (in_front (held_bytes new)) both.1 ∙ ap (λ h. Some (h ++ [])) r.gives.1)
next_line line.Long old new before after bytes (inr ended) r told = ⊎_elim (λ h. never_long old h.0 ended.0) (λ h. never_ended old h.0 ended.0) r.gives.1
next_line line.Fault old new before after bytes (inr ended) r told = ⊎_elim (λ h. never_fault old h.0 ended.0) (λ h. never_ended old h.0 ended.0) r.gives.2
next_line line.Memory old new before after bytes (inr ended) r told = never_ended old r.gives.0 ended.0

-- what holds of bytes that are told
pub if_told : {A : Type 0} (o : Option A) (P : A → Type 0) → ((x : A) → o ≡ Some x → P x) → IfSome o P
if_told None P f = tt
if_told (Some x) P f = f x refl

-- the same, where they are told
pub next_if_told : (result : Line) (old new : Reader) (before after : Option (List ℕ)) → ReadsOn old before → ReadsLine result old new before after
    → IfSome (stream old before) (λ bytes. IsNextLine old.limit result bytes (stream new after))
next_if_told result old new before after goes r = if_told (stream old before) (λ bytes. IsNextLine old.limit result bytes (stream new after)) (λ bytes told. next_line result old new before after bytes goes r told)

-- behind a line it goes on, or the bytes have ended
pub goes_behind : (text : Vec ℕ Global) (old new : Reader) (before after after' : Option (List ℕ)) → ReadsLine (line.Text text) old new before after → after' ≡ after → ReadsOn new after'
goes_behind text old new before after after' r same = subst (ReadsOn new) (sym same) (ends_state text.items (held_bytes old ++ r.taken) new after r.gives.3)

-- ---- by bytes

-- bytes in front of others
pub in_front-twice : (xs ys : List ℕ) (told : Option (List ℕ)) → in_front xs (in_front ys told) ≡ in_front (xs ++ ys) told
in_front-twice xs ys None = refl
in_front-twice xs ys (Some rest) = ap Some (sym (append_assoc xs ys rest))

fed : (text bytes : List ℕ) (new : Reader) (remaining : Option (List ℕ)) → EndsLine text bytes new remaining → new.state ≡ state.Going → bytes ≡ text ++ line_feed ∷ held_bytes new
fed text bytes new remaining (inl ends) going = ends.0
fed text bytes new remaining (inr ends) going = never_ended new going ends.3

-- a line behind which the reader goes on was cut out with its line feed
pub line_cut : (text : Vec ℕ Global) (found : List ℕ) (old new : Reader) (before after after' : Option (List ℕ)) → ReadsLine (line.Text text) old new before after → after' ≡ after → found ≡ text.items → new.state ≡ state.Going
    → (old.state ≡ state.Going) × HasNoFeed found × (stream old before ≡ in_front (found ++ line_feed ∷ []) (stream new after'))
line_cut text found old new before after after' r same as_read going =
    let bytes = fed text.items (held_bytes old ++ r.taken) new after r.gives.3 going in
    let whole = ap (in_front (held_bytes old)) r.given ∙ (in_front-twice (held_bytes old) r.taken after ∙ ap (λ l. in_front l after) (bytes ∙ sym (append_assoc text.items (line_feed ∷ []) (held_bytes new)))) in (
      r.gives.0,
      subst HasNoFeed (sym as_read) r.gives.1,
      whole ∙ (sym (in_front-twice (text.items ++ line_feed ∷ []) (held_bytes new) after) ∙ (λ i. in_front (sym as_read i ++ line_feed ∷ []) (stream new (sym same i)))),
    )

never_held : (old : Reader) (before : Option (List ℕ)) → ReadsOn old before → old.state ≡ state.Fault → old.state ≡ state.Going
never_held old before (inl going) fault = going
never_held old before (inr ended) fault = never_fault old fault ended.0

-- at a fault no whole line is held
pub fault_held : (old new : Reader) (before after : Option (List ℕ)) → ReadsOn old before → ReadsLine line.Fault old new before after
    → (old.state ≡ state.Going) × HasNoFeed (held_bytes new) × (stream old before ≡ in_front (held_bytes new) after)
fault_held old new before after goes r =
    let bytes = ap (in_front (held_bytes old)) r.given ∙ (in_front-twice (held_bytes old) r.taken after ∙ ap (λ l. in_front l after) (sym r.gives.1)) in
    ⊎_elim (λ h. (let going = never_held old before goes h.0 in let never : state.Fault ≡ state.Going = sym h.0 ∙ going in absurd cc)) (λ h. (h.0, h.1, bytes)) r.gives.2
