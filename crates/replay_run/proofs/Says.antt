-- What each outcome of a run says, where the input tells its bytes.
use Rattle.std.proofs.Common.{◌≡◌, ℕ, ◌^◌, ◌<◌, ◌≤◌, List, [], ◌++◌, length, Some, None, refl, sym, ap, ◌∙◌, subst, arith, append_assoc, append-nil, inl, inr}
use Rattle.std.specs.Prelude.{◌⊎◌, Option, IfSome}
use Rattle.troop_ports.specs.Faults.{Counted}
use Rattle.troop_ports.specs.Bytes.{in_front, at_end}
use Rattle.wire_lines.specs.Lines.{HasNoFeed, lines}
use Rattle.wire_lines.specs.declared.reader.State.TheVariants as state
use Rattle.wire_lines.specs.declared.reader.Line.TheVariants as line
use Rattle.wire_lines.specs.Reader.{Reader, held_bytes, EndsLine, IsLong, ReadsLine}
use Rattle.wire_lines.proofs.IsLong.{fed_not_long, few_not_long}
use Rattle.wire_lines.proofs.IsNextLine.{MayGoOn, end_told, in_front_some, given_some}
use Rattle.world_core.specs.States.{WorldState}
use Rattle.replay_run.specs.declared.outcome.Outcome.{Outcome}
use Rattle.replay_run.specs.declared.outcome.Outcome.TheVariants as outcome
use Rattle.replay_run.specs.Script.{most_line, shown, stop_of}
use Rattle.replay_run.specs.Runs.{Says, RanShort}
use Rattle.replay_run.specs.Ports.{port_of}
use Rattle.replay_run.specs.Turns.{PlaysLine, EndsRun}
use Rattle.replay_run.proofs.InPlay.{InPlay, Going, at_end_none, within_limits, too_much, stops_at, so_far, cut_short, done, end_cut}

-- ---- Want of memory.

wants_at : (limit : ℕ) (all rest front given held : List ℕ) (taken0 taken1 remaining1 : Option (List ℕ)) (now : WorldState) (room n i0 i1 f0 f1 : ℕ) (goes : Type 0) (g : Going limit all rest front now room n goes) → taken1 ≡ at_end taken0 front
    → Some all ≡ in_front given remaining1 → lines given ≡ g.played ++ lines held → (n < 2 ^ 64 → IsLong most_line held → ⊥)
    → RanShort limit all (port_of (Some all) remaining1 i0 i1) (port_of taken0 taken1 f0 f1)
wants_at limit all rest front given held taken0 taken1 remaining1 now room n i0 i1 f0 f1 goes g is_front gave are short = record {
  played = g.played;
  others = lines rest;
  splits = g.splits;
  passes = ap (stop_of limit) (sym (append-nil g.played)) ∙ sym (g.passes []);
  wrote = is_front ∙ ap (at_end taken0) (sym (append-nil front) ∙ g.writes [] ∙ ap shown (append-nil g.played));
  given = given;
  held = held;
  gave = gave;
  given_are = are;
  short = λ below. short (subst (λ k. k < 2 ^ 64) g.count below);
}

both_told : (told : Option (List ℕ)) (A B : List ℕ → Type 0) → IfSome told A → IfSome told B → IfSome told (λ bytes. A bytes × B bytes)
both_told None A B a b = tt
both_told (Some bytes) A B a b = (a, b)

-- while the reader goes on, which took so many bytes more
wants_going : (limit : ℕ) (before remaining0 remaining1 taken0 taken1 taken2 : Option (List ℕ)) (old : Reader) (taken : List ℕ) (now : WorldState) (room n i0 i1 f0 f1 : ℕ) → InPlay limit before old remaining0 taken0 taken1 now room n
    → remaining0 ≡ in_front taken remaining1 → old.state ≡ state.Going → (n < 2 ^ 64 → IsLong most_line (held_bytes old ++ taken) → ⊥) → taken2 ≡ at_end taken1 []
    → IfSome before (λ all. RanShort limit all (port_of before remaining1 i0 i1) (port_of taken0 taken2 f0 f1))
wants_going limit None remaining0 remaining1 taken0 taken1 taken2 old taken now room n i0 i1 f0 f1 play given going short same = tt
wants_going limit (Some all) remaining0 remaining1 taken0 taken1 taken2 old taken now room n i0 i1 f0 f1 (rest, front, told, is_front, g) given going short same =
    let (remaining', is_remaining, is, told') = given_some old taken rest remaining0 remaining1 given told in
    let w = g.whole going in
    let kept : List ℕ = held_bytes old ++ taken in
    wants_at limit all rest front (w.gone ++ kept) kept taken0 taken2 remaining1 now room n i0 i1 f0 f1 (old.state ≡ state.Going) g (same ∙ sym (at_end_none taken1) ∙ is_front)
    (ap Some (w.split ∙ ap (λ l. w.gone ++ l) is ∙ sym (append_assoc w.gone kept remaining')) ∙ ap (in_front (w.gone ++ kept)) (sym is_remaining)) (w.lines_are kept) short

wants_ended : (limit : ℕ) (all rest front : List ℕ) (taken0 taken1 remaining1 : Option (List ℕ)) (now : WorldState) (room n i0 i1 f0 f1 : ℕ) (goes : Type 0) (g : Going limit all rest front now room n goes) → taken1 ≡ at_end taken0 front
    → rest ≡ [] → remaining1 ≡ Some [] → RanShort limit all (port_of (Some all) remaining1 i0 i1) (port_of taken0 taken1 f0 f1)
wants_ended limit all rest front taken0 taken1 remaining1 now room n i0 i1 f0 f1 goes g is_front none over =
    wants_at limit all rest front all [] taken0 taken1 remaining1 now room n i0 i1 f0 f1 goes g is_front (ap Some (sym (append-nil all)) ∙ ap (in_front all) (sym over)) (g.splits ∙ ap (λ b. g.played ++ lines b) none)
    (λ below. few_not_long most_line [] (omega arith))

-- behind the last line
wants_end : (limit : ℕ) (before remaining0 remaining1 taken0 taken1 taken2 : Option (List ℕ)) (old new : Reader) (now : WorldState) (room n i0 i1 f0 f1 : ℕ) → InPlay limit before old remaining0 taken0 taken1 now room n → MayGoOn old remaining0 → ReadsLine line.End old new remaining0 remaining1
    → taken2 ≡ at_end taken1 [] → IfSome before (λ all. RanShort limit all (port_of before remaining1 i0 i1) (port_of taken0 taken2 f0 f1))
wants_end limit None remaining0 remaining1 taken0 taken1 taken2 old new now room n i0 i1 f0 f1 play may r same = tt
wants_end limit (Some all) remaining0 remaining1 taken0 taken1 taken2 old new now room n i0 i1 f0 f1 (rest, front, told, is_front, g) may r same =
    let over = end_told rest old new remaining0 remaining1 may r told in
    wants_ended limit all rest front taken0 taken2 remaining1 now room n i0 i1 f0 f1 (old.state ≡ state.Going) g (same ∙ sym (at_end_none taken1) ∙ is_front) over.0 over.1

in_front_nothing : (told : Option (List ℕ)) → told ≡ in_front [] told
in_front_nothing None = refl
in_front_nothing (Some rest) = refl

-- with more lines than numbers
wants_number : (limit : ℕ) (before remaining taken0 taken1 : Option (List ℕ)) (old : Reader) (now : WorldState) (room n i0 i1 f0 f1 : ℕ) → InPlay limit before old remaining taken0 taken1 now room n → MayGoOn old remaining → (n < 2 ^ 64 → ⊥)
    → IfSome before (λ all. RanShort limit all (port_of before remaining i0 i1) (port_of taken0 taken1 f0 f1))
wants_number limit None remaining taken0 taken1 old now room n i0 i1 f0 f1 play may many = tt
wants_number limit (Some all) remaining taken0 taken1 old now room n i0 i1 f0 f1 (rest, front, told, is_front, g) (inl going) many =
    wants_going limit (Some all) remaining remaining taken0 taken1 taken1 old [] now room n i0 i1 f0 f1 (rest, front, told, is_front, g) (in_front_nothing remaining) going (λ below. absurd (many below)) (at_end_none taken1)
wants_number limit (Some all) remaining taken0 taken1 old now room n i0 i1 f0 f1 (rest, front, told, is_front, g) (inr (ended, empty, over)) many =
    let (remaining', is_remaining, is) = in_front_some (held_bytes old) rest remaining (sym told) in
    let none : remaining' ≡ [] = subst (λ l. IfSome l (λ r. r ≡ [])) is_remaining over in
    wants_ended limit all rest front taken0 taken1 remaining now room n i0 i1 f0 f1 (old.state ≡ state.Going) g is_front (is ∙ ap (λ h. h ++ remaining') empty ∙ none) (is_remaining ∙ ap Some none)

text_not_long : (text bytes : List ℕ) (new : Reader) (remaining : Option (List ℕ)) → EndsLine text bytes new remaining → length text ≤ most_line → IsLong most_line bytes → ⊥
text_not_long text bytes new remaining (inl (split, goes, whole)) short = fed_not_long most_line text (held_bytes new) bytes split short
text_not_long text bytes new remaining (inr (same, some, empty, ended, part, over)) short = few_not_long most_line bytes (omega (arith, short, ap length same))

-- before the next line was looked for
pub no_number : (limit : ℕ) (before remaining taken0 taken1 : Option (List ℕ)) (old : Reader) (now : WorldState) (room n i0 i1 f0 f1 : ℕ) → InPlay limit before old remaining taken0 taken1 now room n → MayGoOn old remaining → (n < 2 ^ 64 → ⊥) → i1 ≡ i0 → f1 ≡ f0
    → Says limit outcome.Memory (port_of before remaining i0 i1) (port_of taken0 taken1 f0 f1)
no_number limit before remaining taken0 taken1 old now room n i0 i1 f0 f1 play may many same calm = (
  same,
  calm,
  both_told before _ _ (so_far limit before taken0 taken1 taken1 remaining old now room n f0 f1 play (at_end_none taken1)) (wants_number limit before remaining taken0 taken1 old now room n i0 i1 f0 f1 play may many),
)

-- where the reader wants memory
pub no_line : (limit : ℕ) (before remaining0 remaining1 taken0 taken1 : Option (List ℕ)) (old new : Reader) (now : WorldState) (room n i0 i1 f0 f1 : ℕ) → InPlay limit before old remaining0 taken0 taken1 now room n → ReadsLine line.Memory old new remaining0 remaining1 → old.limit ≡ most_line → i1 ≡ i0 → f1 ≡ f0
    → Says limit outcome.Memory (port_of before remaining1 i0 i1) (port_of taken0 taken1 f0 f1)
no_line limit before remaining0 remaining1 taken0 taken1 old new now room n i0 i1 f0 f1 play r is same calm = (
  same,
  calm,
  both_told before _ _ (so_far limit before taken0 taken1 taken1 remaining0 old now room n f0 f1 play (at_end_none taken1))
      (wants_going limit before remaining0 remaining1 taken0 taken1 taken1 old r.taken now room n i0 i1 f0 f1 play r.given r.gives.0
      (λ below long. r.gives.3 (subst (λ b. IsLong b (held_bytes new)) (sym is) (subst (IsLong most_line) (sym r.gives.2) long))) (at_end_none taken1)),
)

-- ---- The outcomes.

-- a line ends the run
pub stopped : (o : Outcome) (limit : ℕ) (before remaining0 remaining1 taken0 taken1 taken2 : Option (List ℕ)) (old new : Reader) (text taken : List ℕ) (now now' : WorldState) (room n i0 i1 f0 f1 f2 : ℕ) → InPlay limit before old remaining0 taken0 taken1 now room n
    → remaining0 ≡ in_front taken remaining1 → HasNoFeed text → EndsLine text (held_bytes old ++ taken) new remaining1 → old.state ≡ state.Going → length text ≤ most_line → i1 ≡ i0 → f1 ≡ f0
    → PlaysLine (Some o) room n text now now' (port_of taken1 taken2 f1 f2) → Says limit o (port_of before remaining1 i0 i1) (port_of taken0 taken2 f0 f2)
stopped outcome.Memory limit before remaining0 remaining1 taken0 taken1 taken2 old new text taken now now' room n i0 i1 f0 f1 f2 play given none ends going short same calm (quiet, took, fits) = (
  same,
  quiet ∙ calm,
  both_told before _ _ (so_far limit before taken0 taken1 taken2 remaining0 old now room n f0 f2 play took)
      (wants_going limit before remaining0 remaining1 taken0 taken1 taken2 old taken now room n i0 i1 f0 f2 play given going (λ below. text_not_long text (held_bytes old ++ taken) new remaining1 ends short) took),
)
stopped outcome.WriteFault limit before remaining0 remaining1 taken0 taken1 taken2 old new text taken now now' room n i0 i1 f0 f1 f2 play given none ends going short same calm (goes, fault, cut, fits) =
    (same, subst (λ f. Counted f f2) calm fault, cut_short limit before remaining0 remaining1 taken0 taken1 taken2 old new text taken now room n f0 f2 f1 f2 play given none ends (within_limits room n text short fits ∙ goes) cut)
stopped outcome.NetFault limit before remaining0 remaining1 taken0 taken1 taken2 old new text taken now now' room n i0 i1 f0 f1 f2 play given none ends going short same calm no_such = absurd no_such
stopped (outcome.BadLine m) limit before remaining0 remaining1 taken0 taken1 taken2 old new text taken now now' room n i0 i1 f0 f1 f2 play given none ends going short same calm (is, quiet, took, fits) =
    (same, quiet ∙ calm, stops_at limit before remaining0 remaining1 taken0 taken1 taken2 old new text taken now room n f0 f2 (outcome.BadLine m) play given none ends (within_limits room n text short fits ∙ is) took)
stopped outcome.Done limit before remaining0 remaining1 taken0 taken1 taken2 old new text taken now now' room n i0 i1 f0 f1 f2 play given none ends going short same calm no_such = absurd no_such
stopped outcome.Usage limit before remaining0 remaining1 taken0 taken1 taken2 old new text taken now now' room n i0 i1 f0 f1 f2 play given none ends going short same calm no_such = absurd no_such
stopped outcome.ReadFault limit before remaining0 remaining1 taken0 taken1 taken2 old new text taken now now' room n i0 i1 f0 f1 f2 play given none ends going short same calm no_such = absurd no_such
stopped outcome.TooMuch limit before remaining0 remaining1 taken0 taken1 taken2 old new text taken now now' room n i0 i1 f0 f1 f2 play given none ends going short same calm (over, quiet, took) =
    (same, quiet ∙ calm, stops_at limit before remaining0 remaining1 taken0 taken1 taken2 old new text taken now room n f0 f2 outcome.TooMuch play given none ends (too_much room n text short over) took)

-- the end of the script
pub ended : (o : Outcome) (limit : ℕ) (before remaining0 remaining1 taken0 taken1 taken2 : Option (List ℕ)) (old new : Reader) (now : WorldState) (room n i0 i1 f0 f1 f2 : ℕ) → InPlay limit before old remaining0 taken0 taken1 now room n → MayGoOn old remaining0 → ReadsLine line.End old new remaining0 remaining1
    → i1 ≡ i0 → f1 ≡ f0 → EndsRun o now (port_of taken1 taken2 f1 f2) → Says limit o (port_of before remaining1 i0 i1) (port_of taken0 taken2 f0 f2)
ended outcome.Done limit before remaining0 remaining1 taken0 taken1 taken2 old new now room n i0 i1 f0 f1 f2 play may r same calm (quiet, took, sound) =
    (same, quiet ∙ calm, done limit before remaining0 remaining1 taken0 taken1 taken2 old new now room n f0 f2 play may r took sound)
ended outcome.Memory limit before remaining0 remaining1 taken0 taken1 taken2 old new now room n i0 i1 f0 f1 f2 play may r same calm (quiet, took) = (
  same,
  quiet ∙ calm,
  both_told before _ _ (so_far limit before taken0 taken1 taken2 remaining0 old now room n f0 f2 play took) (wants_end limit before remaining0 remaining1 taken0 taken1 taken2 old new now room n i0 i1 f0 f2 play may r took),
)
ended outcome.WriteFault limit before remaining0 remaining1 taken0 taken1 taken2 old new now room n i0 i1 f0 f1 f2 play may r same calm (fault, cut) =
    (same, subst (λ f. Counted f f2) calm fault, end_cut limit before remaining0 remaining1 taken0 taken1 taken2 old new now room n f0 f2 f1 f2 play may r cut)
ended outcome.NetFault limit before remaining0 remaining1 taken0 taken1 taken2 old new now room n i0 i1 f0 f1 f2 play may r same calm no_such = absurd no_such
ended outcome.ReadFault limit before remaining0 remaining1 taken0 taken1 taken2 old new now room n i0 i1 f0 f1 f2 play may r same calm no_such = absurd no_such
ended outcome.Usage limit before remaining0 remaining1 taken0 taken1 taken2 old new now room n i0 i1 f0 f1 f2 play may r same calm no_such = absurd no_such
ended (outcome.BadLine m) limit before remaining0 remaining1 taken0 taken1 taken2 old new now room n i0 i1 f0 f1 f2 play may r same calm no_such = absurd no_such
ended outcome.TooMuch limit before remaining0 remaining1 taken0 taken1 taken2 old new now room n i0 i1 f0 f1 f2 play may r same calm no_such = absurd no_such

-- a fault that was answered now was counted
pub fault_counted : (old : Reader) (remaining : Option (List ℕ)) (before now : ℕ) → MayGoOn old remaining → ((old.state ≡ state.Fault) × (now ≡ before)) ⊎ ((old.state ≡ state.Going) × Counted before now) → Counted before now
fault_counted old remaining before now may (inr here) = here.1
fault_counted old remaining before now (inl going) (inl was) = let never : state.Going ≡ state.Fault = sym going ∙ was.0 in absurd cc
fault_counted old remaining before now (inr ended) (inl was) = let never : state.Ended ≡ state.Fault = sym ended.0 ∙ was.0 in absurd cc
