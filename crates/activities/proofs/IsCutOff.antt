-- The lines given are those that came whole before the source failed.
use Rattle.std.proofs.Common.{◌≡◌, ℕ, List, [], ◌∷◌, ◌++◌, Option, None, Some, refl, sym, ap, ◌∙◌, subst, append_assoc, append-nil, inl, inr, length, ◌⊎◌, ◌≤◌}
use Rattle.std.specs.Prelude.{All}
use Rattle.std.proofs.lemmas.List.{append_cancel_right}
use Rattle.std.proofs.lemmas.List.Elements.{All-nil, All-cons, All-head, All-tail, All-append}
use Rattle.troop_ports.specs.Bytes.{in_front}
use Rattle.wire_lines.specs.Lines.{HasNoFeed, line_feed, lines, whole_lines, with_feeds}
use Rattle.wire_lines.specs.Reader.{Reader, held_bytes, EndsLine, ReadsLine}
use Rattle.wire_lines.specs.declared.reader.Line.{Line}
use Rattle.wire_lines.specs.declared.reader.Line.TheVariants as line
use Rattle.wire_lines.specs.declared.reader.State.TheVariants as state
use Rattle.wire_lines.proofs.LinesArePieces.{lines_of_piece, none_whole, whole_piece}
use Rattle.activities.specs.Lines.{coming, MayRead, GaveLines, IsCutOff, IsBehindLines, GoesWhole, FailsBare, TellsWhole}
use Rattle.activities.proofs.TellsLine.{held_first}

-- ---- whole lines in front of others

whole_behind : (given : List (List ℕ)) (rest : List ℕ) → All HasNoFeed given → whole_lines (with_feeds given ++ rest) ≡ given ++ whole_lines rest
whole_behind [] rest all = refl
whole_behind (piece ∷ given) rest all =
    ap whole_lines (append_assoc piece (line_feed ∷ with_feeds given) rest) ∙ whole_piece piece (with_feeds given ++ rest) (All-head HasNoFeed piece given all)
    ∙ ap (λ ls. piece ∷ ls) (whole_behind given rest (All-tail HasNoFeed piece given all))

lines_behind : (given : List (List ℕ)) (rest : List ℕ) → All HasNoFeed given → lines (with_feeds given ++ rest) ≡ given ++ lines rest
lines_behind [] rest all = refl
lines_behind (piece ∷ given) rest all =
    ap lines (append_assoc piece (line_feed ∷ with_feeds given) rest) ∙ lines_of_piece piece (with_feeds given ++ rest) (All-head HasNoFeed piece given all)
    ∙ ap (λ ls. piece ∷ ls) (lines_behind given rest (All-tail HasNoFeed piece given all))

feeds_append : (xs ys : List (List ℕ)) → with_feeds (xs ++ ys) ≡ with_feeds xs ++ with_feeds ys
feeds_append [] ys = refl
feeds_append (x ∷ xs) ys = ap (λ l. x ++ line_feed ∷ l) (feeds_append xs ys) ∙ sym (append_assoc x (line_feed ∷ with_feeds xs) (with_feeds ys))

in_front_twice : (xs ys : List ℕ) (told : Option (List ℕ)) → in_front xs (in_front ys told) ≡ in_front (xs ++ ys) told
in_front_twice xs ys None = refl
in_front_twice xs ys (Some rest) = ap Some (sym (append_assoc xs ys rest))

-- ---- the loops

behind_none : (told : Option (List ℕ)) → IsBehindLines told told
behind_none None = tt
behind_none (Some bytes) = ([], All-nil HasNoFeed, ap Some refl)

behind_more : (told mid left : Option (List ℕ)) → IsBehindLines told mid → IsBehindLines mid left → IsBehindLines told left
behind_more None mid left h g = tt
behind_more (Some bytes) None left h g = absurd cc
behind_more (Some bytes) (Some rest) left h g = (
  h.0 ++ g.0,
  All-append HasNoFeed h.0 g.0 h.1 g.1,
  h.2 ∙ ap (in_front (with_feeds h.0)) g.2 ∙ in_front_twice (with_feeds h.0) (with_feeds g.0) left ∙ ap (λ b. in_front b left) (sym (feeds_append h.0 g.0)),
)

-- no line was read
pub whole_none : (r : Reader) (told : Option (List ℕ)) → GoesWhole r told r told
whole_none r told going = (going, behind_none told)

-- more lines were read
pub whole_more : (a b c : Reader) (told mid left : Option (List ℕ)) → GoesWhole a told b mid → GoesWhole b mid c left → GoesWhole a told c left
whole_more a b c told mid left h g going = let n = g going in let m = h n.0 in (m.0, behind_more told mid left m.1 n.1)

-- the source failed behind these lines
pub cut_off : (a b : Reader) (told mid remaining : Option (List ℕ)) (given : List (List ℕ)) → GoesWhole a told b mid → GaveLines told given mid → FailsBare b.state mid remaining
    → IsCutOff told given remaining
cut_off a b None mid remaining given h gave bare = tt
cut_off a b (Some bytes) None remaining given h gave bare = absurd cc
cut_off a b (Some bytes) (Some rest) remaining given h gave bare =
    let (pieces, all, is) = (h bare.0).1 in
    let (taken, taken_is, none) = bare.1 in
    let split : bytes ≡ with_feeds pieces ++ rest = cc in
    let gave_is : lines bytes ≡ given ++ lines rest = cc in
    let same : pieces ≡ given = append_cancel_right pieces given (lines rest) (sym (lines_behind pieces rest all) ∙ ap lines (sym split) ∙ gave_is) in (
      with_feeds pieces ++ taken,
      is ∙ ap (in_front (with_feeds pieces)) taken_is ∙ in_front_twice (with_feeds pieces) taken remaining,
      whole_behind pieces taken all ∙ ap (λ l. pieces ++ l) none ∙ append-nil pieces ∙ same,
    )

-- ---- a call of the reader

line_whole : (text : List ℕ) (old new : Reader) (taken : List ℕ) (remaining0 remaining1 : Option (List ℕ)) → remaining0 ≡ in_front taken remaining1 → HasNoFeed text
    → EndsLine text (held_bytes old ++ taken) new remaining1 → new.state ≡ state.Going → IsBehindLines (coming old remaining0) (coming new remaining1)
line_whole text old new taken None remaining1 given none ends going = tt
line_whole text old new taken (Some bytes) remaining1 given none (inl (split, goes, whole)) going = (
  text ∷ [],
  All-cons HasNoFeed text [] none (All-nil HasNoFeed),
  held_first old taken (Some bytes) remaining1 given ∙ ap (λ b. in_front b remaining1) (split ∙ sym (append_assoc text (line_feed ∷ []) (held_bytes new)))
      ∙ sym (in_front_twice (text ++ line_feed ∷ []) (held_bytes new) remaining1),
)
line_whole text old new taken (Some bytes) remaining1 given none (inr ended) going = let never : state.Going ≡ state.Ended = sym going ∙ ended.3 in absurd cc

fault_bare : (old new : Reader) (taken : List ℕ) (remaining0 remaining1 : Option (List ℕ)) → remaining0 ≡ in_front taken remaining1 → held_bytes new ≡ held_bytes old ++ taken
    → HasNoFeed (held_bytes new) → IsCutOff (coming old remaining0) [] remaining1
fault_bare old new taken None remaining1 given held none = tt
fault_bare old new taken (Some bytes) remaining1 given held none =
    (held_bytes old ++ taken, held_first old taken (Some bytes) remaining1 given, none_whole (held_bytes old ++ taken) (subst HasNoFeed held none))

was_going : (old : Reader) (remaining : Option (List ℕ)) → MayRead old remaining → old.state ≡ state.Fault → ⊥
was_going old remaining (inl going) was = let never : state.Going ≡ state.Fault = sym going ∙ was in absurd cc
was_going old remaining (inr end) was = let never : state.Ended ≡ state.Fault = sym end.0 ∙ was in absurd cc

failed : (old new : Reader) (remaining0 remaining1 : Option (List ℕ)) → MayRead old remaining0 → (r : ReadsLine line.Fault old new remaining0 remaining1)
    → ((old.state ≡ state.Fault) × (r.taken ≡ [])) ⊎ ((old.state ≡ state.Going) × HasNoFeed (held_bytes new) × (length (held_bytes new) ≤ old.limit)) → FailsBare old.state (coming old remaining0) remaining1
failed old new remaining0 remaining1 may r (inl was) = absurd (was_going old remaining0 may was.0)
failed old new remaining0 remaining1 may r (inr goes) = (goes.0, fault_bare old new r.taken remaining0 remaining1 r.given r.gives.1 goes.1)

-- an answer, as a call of the reader says it of whole lines
pub tells_whole : (l : Line) (old new : Reader) (remaining0 remaining1 : Option (List ℕ)) → MayRead old remaining0 → ReadsLine l old new remaining0 remaining1
    → TellsWhole l old (coming old remaining0) new remaining1
tells_whole (line.Text text) old new remaining0 remaining1 may r = λ going. (r.gives.0, line_whole text.items old new r.taken remaining0 remaining1 r.given r.gives.1 r.gives.3 going)
tells_whole line.End old new remaining0 remaining1 may r = tt
tells_whole line.Long old new remaining0 remaining1 may r = tt
tells_whole line.Fault old new remaining0 remaining1 may r = failed old new remaining0 remaining1 may r r.gives.2
tells_whole line.Memory old new remaining0 remaining1 may r = tt
