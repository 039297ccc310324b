-- What a call of a reader says where the source tells its bytes.
use Rattle.std.proofs.Common.{◌≡◌, ℕ, ◌+◌, ◌<◌, ◌≤◌, List, [], ◌∷◌, ◌++◌, length, Some, None, refl, sym, ap, ◌∙◌, subst, arith, append_assoc, append-nil, inl, inr}
use Rattle.std.specs.Prelude.{◌⊎◌, ◌==◌, false, Option, IfSome, unwrap_or}
use Rattle.std.specs.List.{list_any}
use Rattle.std.proofs.lemmas.Bool.{or_parts}
use Rattle.troop_ports.specs.Bytes.{in_front}
use Rattle.wire_lines.specs.Lines.{HasNoFeed, line_feed, lines, onto_first_line}
use Rattle.wire_lines.specs.declared.reader.State.{State}
use Rattle.wire_lines.specs.declared.reader.State.TheVariants as state
use Rattle.wire_lines.specs.declared.reader.Line.TheVariants as line
use Rattle.wire_lines.specs.Reader.{Reader, held_bytes, EndsLine, IsLong, Gives, ReadsLine, ForEveryCutting}
use Rattle.wire_lines.proofs.LinesArePieces.{lines_of_piece, lines_of_last}

-- what is held, and then what remains of the source
abbrev pub stream : Reader → Option (List ℕ) → Option (List ℕ)
stream reader remaining = in_front (held_bytes reader) remaining

-- it goes on, or the source has ended and nothing remains
abbrev pub MayGoOn : Reader → Option (List ℕ) → Type 0
MayGoOn reader remaining = (reader.state ≡ state.Going) ⊎ ((reader.state ≡ state.Ended) × (held_bytes reader ≡ []) × IfSome remaining (λ rest. rest ≡ []))

-- the text is the first line of what remained, and this remains behind it
pub record FirstLine (text rest rest' : List ℕ) (new : Reader) : Type 0 where
  pub split : lines rest ≡ text ∷ lines rest'
  pub fed : new.state ≡ state.Going → rest ≡ text ++ line_feed ∷ rest'

-- bytes in front of those that are told
pub in_front_some : (bytes rest : List ℕ) (remaining : Option (List ℕ)) → Some rest ≡ in_front bytes remaining → (remaining' : List ℕ) × (remaining ≡ Some remaining') × (rest ≡ bytes ++ remaining')
in_front_some bytes rest None is = absurd cc
in_front_some bytes rest (Some remaining') is = (remaining', refl, ap (λ o. unwrap_or o rest) is)

taken_behind : (old new : Reader) (taken : List ℕ) (remaining0 remaining1 : Option (List ℕ)) → remaining0 ≡ in_front taken remaining1 → stream old remaining0 ≡ in_front (held_bytes old ++ taken) remaining1
taken_behind old new taken remaining0 None is = ap (in_front (held_bytes old)) is
taken_behind old new taken remaining0 (Some rest) is = ap (in_front (held_bytes old)) is ∙ ap Some (sym (append_assoc (held_bytes old) taken rest))

lines_of_one : (text : List ℕ) → HasNoFeed text → 0 < length text → lines text ≡ text ∷ []
lines_of_one [] none some = absurd (omega arith)
lines_of_one (b ∷ text) none some = lines_of_last (b ∷ text) none

first_line : (text bytes remaining' rest : List ℕ) (new : Reader) → HasNoFeed text → EndsLine text bytes new (Some remaining') → rest ≡ bytes ++ remaining' → FirstLine text rest (held_bytes new ++ remaining') new
first_line text bytes remaining' rest new none (inl (split, goes, whole)) is =
    let all : rest ≡ text ++ line_feed ∷ (held_bytes new ++ remaining') = is ∙ ap (λ l. l ++ remaining') split ∙ append_assoc text (line_feed ∷ held_bytes new) remaining' in
    record { split = ap lines all ∙ lines_of_piece text (held_bytes new ++ remaining') none; fed = λ _. all }
first_line text bytes remaining' rest new none (inr (same, some, empty, ended, part, over)) is =
    let all : rest ≡ text = is ∙ ap (λ l. bytes ++ l) over ∙ append-nil bytes ∙ same in
    let behind : held_bytes new ++ remaining' ≡ [] = ap (λ h. h ++ remaining') empty ∙ over in
    record {
      split = ap lines all ∙ lines_of_one text none some ∙ ap (λ l. text ∷ lines l) (sym behind);
      fed = λ goes. let never : state.Going ≡ state.Ended = sym goes ∙ ended in absurd cc;
    }

-- a line was given
pub text_told : (text rest : List ℕ) (old new : Reader) (taken : List ℕ) (remaining0 remaining1 : Option (List ℕ)) → remaining0 ≡ in_front taken remaining1 → HasNoFeed text → EndsLine text (held_bytes old ++ taken) new remaining1 → stream old remaining0 ≡ Some rest
    → (rest' : List ℕ) × (stream new remaining1 ≡ Some rest') × FirstLine text rest rest' new
text_told text rest old new taken remaining0 remaining1 given none ends told =
    let (remaining', is_left, is) = in_front_some (held_bytes old ++ taken) rest remaining1 (sym told ∙ taken_behind old new taken remaining0 remaining1 given) in
    (held_bytes new ++ remaining', ap (in_front (held_bytes new)) is_left, first_line text (held_bytes old ++ taken) remaining' rest new none (subst (EndsLine text (held_bytes old ++ taken) new) is_left ends) is)

-- behind a line it may go on
pub ends_state : (text bytes : List ℕ) (new : Reader) (remaining : Option (List ℕ)) → EndsLine text bytes new remaining → MayGoOn new remaining
ends_state text bytes new remaining (inl (split, goes, whole)) = inl goes
ends_state text bytes new remaining (inr (same, some, empty, ended, part, over)) = inr (ended, empty, over)

long_told : (limit : ℕ) (bytes rest remaining' : List ℕ) → IsLong limit bytes → rest ≡ bytes ++ remaining' → IsLong limit rest
long_told limit bytes rest remaining' l is = record { front = l.front; rest = l.rest ++ remaining'; is = is ∙ ap (λ b. b ++ remaining') l.is ∙ append_assoc l.front l.rest remaining'; long = l.long; no_feed = l.no_feed }

-- an answer other than a line, where the bytes that were taken are known
end_of : (old new : Reader) (taken rest remaining1 : List ℕ) (remaining0 : Option (List ℕ)) → MayGoOn old remaining0 → remaining0 ≡ Some (taken ++ remaining1) → rest ≡ (held_bytes old ++ taken) ++ remaining1 → Gives line.End old new taken (Some remaining1) → (rest ≡ []) × (remaining1 ≡ [])
end_of old new taken rest remaining1 remaining0 goes given is (ended, empty, none, inr (going, over)) = (is ∙ ap (λ b. b ++ remaining1) none ∙ over, over)
end_of old new taken rest remaining1 remaining0 (inl going) given is (ended, empty, none, inl was) = let never : state.Going ≡ state.Ended = sym going ∙ was in absurd cc
end_of old new taken rest remaining1 remaining0 (inr (was', held_none, over)) given is (ended, empty, none, inl was) =
    let nothing : taken ++ remaining1 ≡ [] = subst (λ l. IfSome l (λ r. r ≡ [])) given over in
    let same : rest ≡ remaining1 = is ∙ ap (λ b. b ++ remaining1) none in
    let taken_none : taken ≡ [] = sym (ap (λ h. h ++ taken) held_none) ∙ none in
    (same ∙ (sym (ap (λ t. t ++ remaining1) taken_none) ∙ nothing), sym (ap (λ t. t ++ remaining1) taken_none) ∙ nothing)

-- what remains behind the bytes that were taken
pub given_some : (old : Reader) (taken rest : List ℕ) (remaining0 remaining1 : Option (List ℕ)) → remaining0 ≡ in_front taken remaining1 → stream old remaining0 ≡ Some rest
    → (remaining' : List ℕ) × (remaining1 ≡ Some remaining') × (rest ≡ (held_bytes old ++ taken) ++ remaining') × (remaining0 ≡ Some (taken ++ remaining'))
given_some old taken rest remaining0 remaining1 given told =
    let (remaining', is_left, is) = in_front_some (held_bytes old ++ taken) rest remaining1 (sym told ∙ taken_behind old old taken remaining0 remaining1 given) in
    (remaining', is_left, is, given ∙ ap (in_front taken) is_left)

-- the end was answered
pub end_told : (rest : List ℕ) (old new : Reader) (remaining0 remaining1 : Option (List ℕ)) → MayGoOn old remaining0 → ReadsLine line.End old new remaining0 remaining1 → stream old remaining0 ≡ Some rest → (rest ≡ []) × (remaining1 ≡ Some [])
end_told rest old new remaining0 remaining1 goes r told =
    let (remaining', is_left, is, given) = given_some old r.taken rest remaining0 remaining1 r.given told in
    let both = end_of old new r.taken rest remaining' remaining0 goes given is (subst (Gives line.End old new r.taken) is_left r.gives) in
    (both.0, is_left ∙ ap Some both.1)

no_stop : (old : Reader) (remaining : Option (List ℕ)) (st : State) → MayGoOn old remaining → old.state ≡ st → (state.Going ≡ st → ⊥) → (state.Ended ≡ st → ⊥) → ⊥
no_stop old remaining st (inl going) is not_going not_ended = not_going (sym going ∙ is)
no_stop old remaining st (inr ended) is not_going not_ended = not_ended (sym ended.0 ∙ is)

long_of : (old new : Reader) (taken : List ℕ) (remaining0 remaining1 : Option (List ℕ)) → MayGoOn old remaining0 → Gives line.Long old new taken remaining1 → IsLong old.limit (held_bytes old ++ taken)
long_of old new taken remaining0 remaining1 goes (is, inl (was, none)) = absurd (no_stop old remaining0 state.Long goes was (λ e. cc) (λ e. cc))
long_of old new taken remaining0 remaining1 goes (is, inr (going, long)) = long

-- a line was over the limit
pub long_read : (rest : List ℕ) (old new : Reader) (remaining0 remaining1 : Option (List ℕ)) → MayGoOn old remaining0 → ReadsLine line.Long old new remaining0 remaining1 → stream old remaining0 ≡ Some rest → IsLong old.limit rest
long_read rest old new remaining0 remaining1 goes r told =
    let (remaining', is_left, is, given) = given_some old r.taken rest remaining0 remaining1 r.given told in
    long_told old.limit (held_bytes old ++ r.taken) rest remaining' (long_of old new r.taken remaining0 remaining1 goes r.gives) is

fault_of : (old new : Reader) (taken : List ℕ) (remaining0 remaining1 : Option (List ℕ)) → MayGoOn old remaining0 → Gives line.Fault old new taken remaining1 → (old.state ≡ state.Going) × HasNoFeed (held_bytes old ++ taken)
fault_of old new taken remaining0 remaining1 goes (is, same, inl (was, none)) = absurd (no_stop old remaining0 state.Fault goes was (λ e. cc) (λ e. cc))
fault_of old new taken remaining0 remaining1 goes (is, same, inr (going, none, short)) = (going, subst HasNoFeed same none)

-- a fault was answered: what was taken and stands in no line has no line feed
pub fault_told : (rest : List ℕ) (old new : Reader) (remaining0 remaining1 : Option (List ℕ)) → MayGoOn old remaining0 → ReadsLine line.Fault old new remaining0 remaining1 → stream old remaining0 ≡ Some rest
    → (old.state ≡ state.Going) × ((front : List ℕ) × (remaining' : List ℕ) × (remaining1 ≡ Some remaining') × HasNoFeed front × (rest ≡ front ++ remaining'))
fault_told rest old new remaining0 remaining1 goes r told =
    let (remaining', is_left, is, given) = given_some old r.taken rest remaining0 remaining1 r.given told in
    let fault = fault_of old new r.taken remaining0 remaining1 goes r.gives in
    (fault.0, (held_bytes old ++ r.taken, remaining', is_left, fault.1, is))

first_one : (b : ℕ) (ls whole : List (List ℕ)) → whole ≡ onto_first_line b ls → (first : List ℕ) × (others : List (List ℕ)) × (whole ≡ first ∷ others) × (1 ≤ length first)
first_one b [] whole is = (b ∷ [], [], is, omega arith)
first_one b (l ∷ ls) whole is = (b ∷ l, ls, is, omega arith)

one_more : (b n : ℕ) (ls whole : List (List ℕ)) → whole ≡ onto_first_line b ls → ((first : List ℕ) × (others : List (List ℕ)) × (ls ≡ first ∷ others) × (n ≤ length first)) → (first : List ℕ) × (others : List (List ℕ)) × (whole ≡ first ∷ others) × (n + 1 ≤ length first)
one_more b n ls whole is (first, others, are, long) = (b ∷ first, others, is ∙ ap (onto_first_line b) are, omega (arith, long))

-- a front with no line feed stands in the first line
pub first_long : (front rest : List ℕ) → HasNoFeed front → 0 < length front → (first : List ℕ) × (others : List (List ℕ)) × (lines (front ++ rest) ≡ first ∷ others) × (length front ≤ length first)
first_long [] rest none some = absurd (omega arith)
first_long (b ∷ []) rest none some =
    let test = or_parts (b == line_feed) false none in
    let is : lines (b ∷ rest) ≡ onto_first_line b (lines rest) = rw test.0 refl in
    first_one b (lines rest) (lines (b ∷ rest)) is
first_long (b ∷ c ∷ front) rest none some =
    let test = or_parts (b == line_feed) (list_any (λ d. d == line_feed) (c ∷ front)) none in
    let is : lines (b ∷ c ∷ (front ++ rest)) ≡ onto_first_line b (lines (c ∷ (front ++ rest))) = rw test.0 refl in
    let (first, others, are, long) = one_more b (length (c ∷ front)) (lines (c ∷ (front ++ rest))) (lines (b ∷ c ∷ (front ++ rest))) is (first_long (c ∷ front) rest test.1 (omega arith)) in
    (first, others, are, omega (arith, long))

-- ---- The law.

held_told : (old new : Reader) (taken bytes : List ℕ) (remaining0 remaining1 : Option (List ℕ)) → remaining0 ≡ in_front taken remaining1 → held_bytes new ≡ held_bytes old ++ taken → stream old remaining0 ≡ Some bytes → stream new remaining1 ≡ Some bytes
held_told old new taken bytes remaining0 remaining1 given same told = ap (λ h. in_front h remaining1) same ∙ sym (taken_behind old new taken remaining0 remaining1 given) ∙ told

-- the law of cutting
pub for_every_cutting : ForEveryCutting
for_every_cutting (line.Text text) old new before after bytes r going told =
    let (rest, told', first) = text_told text.items bytes old new r.taken before after r.given r.gives.1 r.gives.3 told in
    (rest, told', first.split, r.gives.2)
for_every_cutting line.End old new before after bytes r going told =
    let e = end_told bytes old new before after (inl going) r told in
    (e.0, ap (in_front (held_bytes new)) e.1 ∙ ap (λ h. Some (h ++ [])) r.gives.1)
for_every_cutting line.Long old new before after bytes r going told =
    let l = long_read bytes old new before after (inl going) r told in
    let (first, others, are, long) = first_long l.front l.rest l.no_feed (omega (arith, l.long)) in
    (first, others, ap lines l.is ∙ are, omega (arith, long, l.long))
for_every_cutting line.Fault old new before after bytes r going told = held_told old new r.taken bytes before after r.given r.gives.1 told
for_every_cutting line.Memory old new before after bytes r going told = held_told old new r.taken bytes before after r.given r.gives.2 told
