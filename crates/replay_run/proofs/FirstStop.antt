-- The line that stops a script.
use Rattle.std.proofs.Common.{◌≡◌, ◌≢◌, ℕ, ◌+◌, ◌-◌, ◌<◌, ◌≤◌, List, [], ◌∷◌, ◌++◌, length, Bool, true, false, Some, None, refl, sym, ap, ◌∙◌, subst, arith, length-append, inl, inr}
use Rattle.std.specs.Prelude.{Option, All, nat_lt, unwrap_or, if◌then◌else◌}
use Rattle.std.proofs.lemmas.Bool.Decides.{nat_tests}
use Rattle.std.proofs.lemmas.List.Elements.{All-cons, All-nil, All-head, All-tail}
use Rattle.wire_lines.specs.Lines.{line_feed, with_feeds}
use Rattle.replay_run.specs.declared.meaning.Meaning.{Meaning}
use Rattle.replay_run.specs.declared.meaning.Meaning.TheVariants as meaning
use Rattle.replay_run.specs.declared.outcome.Outcome.{Outcome}
use Rattle.replay_run.specs.declared.outcome.Outcome.TheVariants as outcome
use Rattle.replay_run.specs.Script.{most_line, meaning_of, stop_by, stop_at, or_else, stop_from, before_from, script_size, IsPlayable}
use Rattle.replay_run.specs.Laws.{StopsBehind, FirstStop}
use Rattle.replay_run.proofs.InPlay.{within_limits, before_none, stop_none, stop_some, none_first, before_all}

-- one line more has its bytes and one for its line feed
size_cons : (line : List ℕ) (others : List (List ℕ)) → script_size (line ∷ others) ≡ length line + 1 + script_size others
size_cons line others = omega (arith, length-append line (line_feed ∷ with_feeds others))

-- ---- One line.

-- what a line that doesn't stop is
record Plays (room : ℕ) (line : List ℕ) : Type 0 where
  playable : IsPlayable line
  fits : length line + 1 ≤ room

not_bad : (n : ℕ) (m : Meaning) → stop_by n m ≡ None → m ≡ meaning.Bad → ⊥
not_bad n m none is = let no : Some (outcome.BadLine n) ≡ None = sym (ap (stop_by n) is) ∙ none in absurd cc

not_over : (a b : ℕ) → nat_lt a b ≡ false → b ≤ a
not_over a b is = grind (arith, nat_tests)

over : (a b : ℕ) → nat_lt a b ≡ true → a < b
over a b is = grind (arith, nat_tests)

plays_by : (room n : ℕ) (line : List ℕ) (long much : Bool) → nat_lt most_line (length line) ≡ long → nat_lt room (length line + 1) ≡ much
    → (if long then Some (outcome.BadLine n) else (if much then Some outcome.TooMuch else stop_by n (meaning_of line))) ≡ None → Plays room line
plays_by room n line true much is_long is_much none = absurd cc
plays_by room n line false true is_long is_much none = absurd cc
plays_by room n line false false is_long is_much none = record {
  playable = (not_over most_line (length line) is_long, not_bad n (meaning_of line) none);
  fits = not_over room (length line + 1) is_much;
}

plays : (room n : ℕ) (line : List ℕ) → stop_at room n line ≡ None → Plays room line
plays room n line none = plays_by room n line (nat_lt most_line (length line)) (nat_lt room (length line + 1)) refl refl none

-- ---- A line that stops.

same_stop : (a b : Outcome) → Some a ≡ Some b → a ≡ b
same_stop a b is = ap (λ o. unwrap_or o a) is

alone : (line : List ℕ) → script_size (line ∷ []) ≡ length line + 1
alone line = omega (arith, size_cons line [])

meaning_here : (room n : ℕ) (line : List ℕ) (m : Meaning) (stop : Outcome) → meaning_of line ≡ m → length line ≤ most_line → length line + 1 ≤ room → stop_by n m ≡ Some stop → StopsBehind room n [] line stop
meaning_here room n line meaning.Blank stop is_m short fits is = absurd cc
meaning_here room n line (meaning.Step s) stop is_m short fits is = absurd cc
meaning_here room n line meaning.Bad stop is_m short fits is =
    subst (StopsBehind room n [] line) (same_stop (outcome.BadLine n) stop is) (omega arith, inr (short, omega (arith, fits, alone line), is_m))

here_by : (room n : ℕ) (line : List ℕ) (stop : Outcome) (long much : Bool) → nat_lt most_line (length line) ≡ long → nat_lt room (length line + 1) ≡ much
    → (if long then Some (outcome.BadLine n) else (if much then Some outcome.TooMuch else stop_by n (meaning_of line))) ≡ Some stop → StopsBehind room n [] line stop
here_by room n line stop true much is_long is_much is =
    subst (StopsBehind room n [] line) (same_stop (outcome.BadLine n) stop is) (omega arith, inl (over most_line (length line) is_long))
here_by room n line stop false true is_long is_much is =
    subst (StopsBehind room n [] line) (same_stop outcome.TooMuch stop is) (not_over most_line (length line) is_long, omega (arith, over room (length line + 1) is_much, alone line))
here_by room n line stop false false is_long is_much is =
    meaning_here room n line (meaning_of line) stop refl (not_over most_line (length line) is_long) (not_over room (length line + 1) is_much) is

stops_here : (room n : ℕ) (line : List ℕ) (stop : Outcome) → stop_at room n line ≡ Some stop → StopsBehind room n [] line stop
stops_here room n line stop is = here_by room n line stop (nat_lt most_line (length line)) (nat_lt room (length line + 1)) refl refl is

-- the same behind one line more
stops_later : (room n : ℕ) (line : List ℕ) (before : List (List ℕ)) (later : List ℕ) (stop : Outcome) → length line + 1 ≤ room → StopsBehind (room - (length line + 1)) (n + 1) before later stop → StopsBehind room n (line ∷ before) later stop
stops_later room n line before later outcome.Done fits no_such = absurd no_such
stops_later room n line before later outcome.Usage fits no_such = absurd no_such
stops_later room n line before later outcome.Memory fits no_such = absurd no_such
stops_later room n line before later outcome.ReadFault fits no_such = absurd no_such
stops_later room n line before later outcome.WriteFault fits no_such = absurd no_such
stops_later room n line before later outcome.NetFault fits no_such = absurd no_such
stops_later room n line before later (outcome.BadLine m) fits (is, inl long) = (omega (arith, is), inl long)
stops_later room n line before later (outcome.BadLine m) fits (is, inr (short, within, bad)) =
    (omega (arith, is), inr (short, omega (arith, within, fits, size_cons line (before ++ later ∷ [])), bad))
stops_later room n line before later outcome.TooMuch fits (short, much) = (short, omega (arith, much, fits, size_cons line (before ++ later ∷ [])))

-- ---- All lines.

-- the first stop of these lines, of which the first has number n
record IsFirstFrom (room n : ℕ) (script : List (List ℕ)) (stop : Outcome) : Type 0 where
  line : List ℕ
  behind : List (List ℕ)
  splits : script ≡ before_from room n script ++ line ∷ behind
  playable : All IsPlayable (before_from room n script)
  within : script_size (before_from room n script) ≤ room
  stops : StopsBehind room n (before_from room n script) line stop

by_line : (room n : ℕ) (line : List ℕ) (others : List (List ℕ)) (stop : Outcome) (here : Option Outcome) → stop_at room n line ≡ here → or_else here (stop_from (room - (length line + 1)) (n + 1) others) ≡ Some stop
    → (stop_from (room - (length line + 1)) (n + 1) others ≡ Some stop → IsFirstFrom (room - (length line + 1)) (n + 1) others stop) → IsFirstFrom room n (line ∷ others) stop
by_line room n line others stop (Some first) is_here is later =
    let none_before : before_from room n (line ∷ others) ≡ [] = (stop_some room n line others first is_here).1 in
    record {
      line = line;
      behind = others;
      splits = ap (λ b. b ++ line ∷ others) (sym none_before);
      playable = subst (All IsPlayable) (sym none_before) (All-nil IsPlayable);
      within = subst (λ b. script_size b ≤ room) (sym none_before) (omega arith);
      stops = subst (λ b. StopsBehind room n b line stop) (sym none_before) (stops_here room n line stop (is_here ∙ is));
    }
by_line room n line others stop None is_here is later =
    let r = later is in
    let p = plays room n line is_here in
    let one_more = before_none room n line others is_here in
    let front = before_from (room - (length line + 1)) (n + 1) others in
    record {
      line = r.line;
      behind = r.behind;
      splits = ap (λ l. line ∷ l) r.splits ∙ ap (λ b. b ++ r.line ∷ r.behind) (sym one_more);
      playable = subst (All IsPlayable) (sym one_more) (All-cons IsPlayable line front p.playable r.playable);
      within = subst (λ b. script_size b ≤ room) (sym one_more) (omega (arith, r.within, p.fits, size_cons line front));
      stops = subst (λ b. StopsBehind room n b r.line stop) (sym one_more) (stops_later room n line front r.line stop p.fits r.stops);
    }

first_from : (room n : ℕ) (script : List (List ℕ)) (stop : Outcome) → stop_from room n script ≡ Some stop → IsFirstFrom room n script stop
first_from room n [] stop is = absurd cc
first_from room n (line ∷ others) stop is = by_line room n line others stop (stop_at room n line) refl is (λ e. first_from (room - (length line + 1)) (n + 1) others stop e)

whole_from : (room n : ℕ) (script : List (List ℕ)) → stop_from room n script ≡ None → All IsPlayable script × (script_size script ≤ room)
whole_from room n [] none = (All-nil IsPlayable, omega arith)
whole_from room n (line ∷ others) none =
    let both = none_first (stop_at room n line) (stop_from (room - (length line + 1)) (n + 1) others) none in
    let p = plays room n line both.0 in
    let rest = whole_from (room - (length line + 1)) (n + 1) others both.1 in
    (All-cons IsPlayable line others p.playable rest.0, omega (arith, rest.1, p.fits, size_cons line others))

good_meaning : (n : ℕ) (m : Meaning) → m ≢ meaning.Bad → stop_by n m ≡ None
good_meaning n meaning.Blank good = refl
good_meaning n (meaning.Step s) good = refl
good_meaning n meaning.Bad good = absurd (good refl)

goes_by : (room n : ℕ) (line : List ℕ) → IsPlayable line → length line + 1 ≤ room → stop_at room n line ≡ None
goes_by room n line playable fits = within_limits room n line playable.0 fits ∙ good_meaning n (meaning_of line) playable.1

-- lines that are all playable and within the limit don't stop
pub goes_whole : (room n : ℕ) (script : List (List ℕ)) → All IsPlayable script → script_size script ≤ room → stop_from room n script ≡ None
goes_whole room n [] all fits = refl
goes_whole room n (line ∷ others) all fits =
    let size = size_cons line others in
    stop_none room n line others (goes_by room n line (All-head IsPlayable line others all) (omega (arith, fits, size)))
    ∙ goes_whole (room - (length line + 1)) (n + 1) others (All-tail IsPlayable line others all) (omega (arith, fits, size))

-- the law
pub first_is_stop : FirstStop
first_is_stop limit script = (
  λ stop is. (let r = first_from limit 1 script stop is in record { line = r.line; behind = r.behind; splits = r.splits; playable = r.playable; within = r.within; stops = r.stops }),
  λ none. (let rest = whole_from limit 1 script none in record { all = before_all limit 1 script none; playable = rest.0; within = rest.1 }),
  λ all fits. goes_whole limit 1 script all fits,
)
