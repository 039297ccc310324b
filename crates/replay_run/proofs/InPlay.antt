-- A run, line by line, where the input tells its bytes.
use Rattle.std.proofs.Common.{◌≡◌, ℕ, ◌+◌, ◌-◌, ◌<◌, ◌≤◌, List, [], ◌∷◌, ◌++◌, length, length-append, Some, None, true, false, refl, sym, ap, ◌∙◌, subst, arith, append_assoc, append-nil}
use Rattle.std.specs.Prelude.{Option, IfSome, nat_lt}
use Rattle.std.proofs.lemmas.Bool.Decides.{nat_tests}
use Rattle.troop_ports.specs.Bytes.{in_front, at_end}
use Rattle.wire_lines.specs.Lines.{HasNoFeed, line_feed, lines, whole_lines}
use Rattle.wire_lines.specs.declared.reader.State.TheVariants as state
use Rattle.wire_lines.specs.declared.reader.Line.TheVariants as line
use Rattle.wire_lines.specs.Reader.{Reader, held_bytes, EndsLine, IsLong, ReadsLine}
use Rattle.wire_lines.proofs.LinesArePieces.{none_whole, whole_piece, lines_of_piece}
use Rattle.wire_lines.proofs.IsNextLine.{stream, MayGoOn, FirstLine, text_told, end_told, long_read, fault_told, first_long}
use Rattle.world_core.specs.States.{WorldState, new_world}
use Rattle.world_core.specs.Sound.{IsSoundWorld}
use Rattle.replay_run.specs.declared.outcome.Outcome.{Outcome}
use Rattle.replay_run.specs.declared.outcome.Outcome.TheVariants as outcome
use Rattle.replay_run.specs.Shown.{shown_world}
use Rattle.replay_run.specs.Script.{most_line, meaning_of, after_meaning, shown_meaning, world_from, shown_from, world, shown, output, stop_by, stop_at, or_else, stop_from, unless_stopped, before_from, stop_of, before_stop, shown_end, all_written}
use Rattle.replay_run.specs.Ports.{Port, port_of, Gave, Took, TookPrefix}
use Rattle.replay_run.proofs.Reports.{at_end_twice}

-- until the input has ended: so many bytes are gone, whose lines were played, and whatever else is taken, what was written so far, and then what its whole
-- lines print, is what the whole lines of all that print
pub record Whole (limit : ℕ) (all rest front : List ℕ) (played : List (List ℕ)) (now : WorldState) (room n : ℕ) : Type 0 where
  pub gone : List ℕ
  pub split : all ≡ gone ++ rest
  pub lines_are : (x : List ℕ) → lines (gone ++ x) ≡ played ++ lines x
  pub are : (x : List ℕ) → front ++ shown_from n now (before_from room n (whole_lines x)) ≡ shown (before_stop limit (whole_lines (gone ++ x)))

-- These lines were played, and whatever lines come behind them, what was written so far, and then what those print, is what both print; and so for the stop.
-- What was written so far, and then what the rest prints, is all that is printed; and so for the stop and for the world.
pub record Going (limit : ℕ) (all rest front : List ℕ) (now : WorldState) (room n : ℕ) (goes : Type 0) : Type 0 where
  pub played : List (List ℕ)
  pub count : length played + 1 ≡ n
  pub splits : lines all ≡ played ++ lines rest
  pub passes : (script : List (List ℕ)) → stop_from room n script ≡ stop_of limit (played ++ script)
  pub writes : (script : List (List ℕ)) → front ++ shown_from n now script ≡ shown (played ++ script)
  pub stops : stop_from room n (lines rest) ≡ stop_of limit (lines all)
  pub prints : front ++ shown_from n now (before_from room n (lines rest)) ≡ shown (before_stop limit (lines all))
  pub world_is : world_from now (lines rest) ≡ world (lines all)
  pub whole : goes → Whole limit all rest front played now room n

-- the same, where the input tells its bytes
abbrev pub InPlay : ℕ → Option (List ℕ) → Reader → Option (List ℕ) → Option (List ℕ) → Option (List ℕ) → WorldState → ℕ → ℕ → Type 0
InPlay limit before reader remaining taken0 taken1 now room n =
    IfSome before (λ all. (rest : List ℕ) × (front : List ℕ) × (stream reader remaining ≡ Some rest) × (taken1 ≡ at_end taken0 front) × Going limit all rest front now room n (reader.state ≡ state.Going))

-- nothing was added
pub at_end_none : (told : Option (List ℕ)) → told ≡ at_end told []
at_end_none None = refl
at_end_none (Some bytes) = ap Some (sym (append-nil bytes))

-- nothing was read yet
pub starts : (limit : ℕ) (before taken : Option (List ℕ)) (reader : Reader) (new : WorldState) → new ≡ new_world → held_bytes reader ≡ [] → InPlay limit before reader before taken taken new limit 1
starts limit None taken reader new is none = tt
starts limit (Some all) taken reader new is none = (
  all,
  [],
  ap (λ h. in_front h (Some all)) none,
  at_end_none taken,
  record {
    played = [];
    count = refl;
    splits = refl;
    passes = λ script. refl;
    writes = λ script. ap (λ w. shown_from 1 w script) is;
    stops = refl;
    prints = ap (λ w. shown_from 1 w (before_stop limit (lines all))) is;
    world_is = ap (λ w. world_from w (lines all)) is;
    whole = λ goes. record { gone = []; split = refl; lines_are = λ x. refl; are = λ x. ap (λ w. shown_from 1 w (before_stop limit (whole_lines x))) is };
  },
)

-- ---- One line.

-- a line within the limits stops by what it means
pub within_limits : (room n : ℕ) (text : List ℕ) → length text ≤ most_line → length text + 1 ≤ room → stop_at room n text ≡ stop_by n (meaning_of text)
within_limits room n text short fits =
    let a : nat_lt most_line (length text) ≡ false = grind (arith, nat_tests) in
    let b : nat_lt room (length text + 1) ≡ false = grind (arith, nat_tests) in
    rw (a, b) refl

-- a line with which the lines pass the limit stops by that
pub too_much : (room n : ℕ) (text : List ℕ) → length text ≤ most_line → room < length text + 1 → stop_at room n text ≡ Some outcome.TooMuch
too_much room n text short over =
    let a : nat_lt most_line (length text) ≡ false = grind (arith, nat_tests) in
    let b : nat_lt room (length text + 1) ≡ true = grind (arith, nat_tests) in
    rw (a, b) refl

-- a line over the limit of a line stops by that, whatever else it is
pub too_long : (room n : ℕ) (text : List ℕ) → most_line < length text → stop_at room n text ≡ Some (outcome.BadLine n)
too_long room n text long =
    let a : nat_lt most_line (length text) ≡ true = grind (arith, nat_tests) in
    rw a refl

-- behind a line that doesn't stop the first stop is that of the others
pub stop_none : (room n : ℕ) (text : List ℕ) (others : List (List ℕ)) → stop_at room n text ≡ None → stop_from room n (text ∷ others) ≡ stop_from (room - (length text + 1)) (n + 1) others
stop_none room n text others goes = ap (λ s. or_else s (stop_from (room - (length text + 1)) (n + 1) others)) goes

-- a line that doesn't stop stands in front of those behind it
pub before_none : (room n : ℕ) (text : List ℕ) (others : List (List ℕ)) → stop_at room n text ≡ None → before_from room n (text ∷ others) ≡ text ∷ before_from (room - (length text + 1)) (n + 1) others
before_none room n text others goes = ap (λ s. unless_stopped s text (before_from (room - (length text + 1)) (n + 1) others)) goes

-- a line that stops is the first stop
pub stop_some : (room n : ℕ) (text : List ℕ) (others : List (List ℕ)) (stop : Outcome) → stop_at room n text ≡ Some stop → (stop_from room n (text ∷ others) ≡ Some stop) × (before_from room n (text ∷ others) ≡ [])
stop_some room n text others stop is = (
  ap (λ s. or_else s (stop_from (room - (length text + 1)) (n + 1) others)) is,
  ap (λ s. unless_stopped s text (before_from (room - (length text + 1)) (n + 1) others)) is,
)

-- what a line prints, in front of what the lines behind it print
prints_more : (front : List ℕ) (now : WorldState) (room n : ℕ) (text : List ℕ) (others : List (List ℕ)) → stop_at room n text ≡ None
    → (front ++ shown_meaning n now (meaning_of text)) ++ shown_from (n + 1) (after_meaning now (meaning_of text)) (before_from (room - (length text + 1)) (n + 1) others) ≡ front ++ shown_from n now (before_from room n (text ∷ others))
prints_more front now room n text others goes =
    append_assoc front (shown_meaning n now (meaning_of text)) (shown_from (n + 1) (after_meaning now (meaning_of text)) (before_from (room - (length text + 1)) (n + 1) others))
    ∙ ap (λ l. front ++ shown_from n now l) (sym (before_none room n text others goes))

-- a line moves to those in front
one_behind : (front : List (List ℕ)) (text : List ℕ) (others : List (List ℕ)) → front ++ text ∷ others ≡ (front ++ text ∷ []) ++ others
one_behind front text others = sym (append_assoc front (text ∷ []) others)

regroup : (gone text rest : List ℕ) → gone ++ (text ++ line_feed ∷ rest) ≡ (gone ++ (text ++ line_feed ∷ [])) ++ rest
regroup gone text rest = ap (λ l. gone ++ l) (sym (append_assoc text (line_feed ∷ []) rest)) ∙ sym (append_assoc gone (text ++ line_feed ∷ []) rest)

-- a line that was played
goes_on : (limit : ℕ) (all rest rest' front text : List ℕ) (now : WorldState) (room n : ℕ) (old new : Reader) → Going limit all rest front now room n (old.state ≡ state.Going) → old.state ≡ state.Going → FirstLine text rest rest' new → HasNoFeed text
    → stop_at room n text ≡ None
    → Going limit all rest' (front ++ shown_meaning n now (meaning_of text)) (after_meaning now (meaning_of text)) (room - (length text + 1)) (n + 1) (new.state ≡ state.Going)
goes_on limit all rest rest' front text now room n old new g was first none goes =
    let w = g.whole was in
    record {
      played = g.played ++ text ∷ [];
      count = omega (arith, g.count, length-append g.played (text ∷ []));
      splits = g.splits ∙ ap (λ ls. g.played ++ ls) first.split ∙ one_behind g.played text (lines rest');
      passes = λ script. sym (stop_none room n text script goes) ∙ g.passes (text ∷ script) ∙ ap (stop_of limit) (one_behind g.played text script);
      writes = λ script. append_assoc front (shown_meaning n now (meaning_of text)) (shown_from (n + 1) (after_meaning now (meaning_of text)) script) ∙ g.writes (text ∷ script)
          ∙ ap shown (one_behind g.played text script);
      stops = sym (stop_none room n text (lines rest') goes) ∙ ap (stop_from room n) (sym first.split) ∙ g.stops;
      prints = prints_more front now room n text (lines rest') goes ∙ ap (λ l. front ++ shown_from n now (before_from room n l)) (sym first.split) ∙ g.prints;
      world_is = ap (world_from now) (sym first.split) ∙ g.world_is;
      whole = λ fed. record {
        gone = w.gone ++ (text ++ line_feed ∷ []);
        split = w.split ∙ ap (λ l. w.gone ++ l) (first.fed fed) ∙ regroup w.gone text rest';
        lines_are = λ x. ap lines (sym (regroup w.gone text x)) ∙ w.lines_are (text ++ line_feed ∷ x) ∙ ap (λ ls. g.played ++ ls) (lines_of_piece text x none) ∙ one_behind g.played text (lines x);
        are = λ x. prints_more front now room n text (whole_lines x) goes ∙ ap (λ l. front ++ shown_from n now (before_from room n l)) (sym (whole_piece text x none))
            ∙ w.are (text ++ line_feed ∷ x) ∙ ap (λ l. shown (before_stop limit (whole_lines l))) (regroup w.gone text x);
      };
    }

-- a line was played, and the run goes on
pub next_in_play : (limit : ℕ) (before remaining0 remaining1 taken0 taken1 taken2 : Option (List ℕ)) (old new : Reader) (text taken : List ℕ) (now : WorldState) (room n : ℕ) → InPlay limit before old remaining0 taken0 taken1 now room n
    → remaining0 ≡ in_front taken remaining1 → old.state ≡ state.Going → HasNoFeed text → EndsLine text (held_bytes old ++ taken) new remaining1 → stop_at room n text ≡ None → taken2 ≡ at_end taken1 (shown_meaning n now (meaning_of text))
    → InPlay limit before new remaining1 taken0 taken2 (after_meaning now (meaning_of text)) (room - (length text + 1)) (n + 1)
next_in_play limit None remaining0 remaining1 taken0 taken1 taken2 old new text taken now room n play given was none ends goes took = tt
next_in_play limit (Some all) remaining0 remaining1 taken0 taken1 taken2 old new text taken now room n (rest, front, told, is_front, g) given was none ends goes took =
    let (rest', told', first) = text_told text rest old new taken remaining0 remaining1 given none ends told in (
      rest',
      front ++ shown_meaning n now (meaning_of text),
      told',
      took ∙ ap (λ t. at_end t (shown_meaning n now (meaning_of text))) is_front ∙ at_end_twice taken0 front (shown_meaning n now (meaning_of text)),
      goes_on limit all rest rest' front text now room n old new g was first none goes,
    )

-- ---- A line that stops.

stops_told : (limit : ℕ) (all rest front first : List ℕ) (others : List (List ℕ)) (taken0 taken1 : Option (List ℕ)) (now : WorldState) (room n f0 f1 : ℕ) (goes : Type 0) (stop : Outcome) → Going limit all rest front now room n goes → lines rest ≡ first ∷ others → stop_at room n first ≡ Some stop
    → taken1 ≡ at_end taken0 front → (stop_of limit (lines all) ≡ Some stop) × Took (port_of taken0 taken1 f0 f1) (shown (before_stop limit (lines all)))
stops_told limit all rest front first others taken0 taken1 now room n f0 f1 goes stop g split is took =
    let here = stop_some room n first others stop is in
    let all_shown : front ≡ shown (before_stop limit (lines all)) =
    sym (append-nil front) ∙ ap (λ l. front ++ shown_from n now l) (sym here.1) ∙ ap (λ l. front ++ shown_from n now (before_from room n l)) (sym split) ∙ g.prints in
    (sym g.stops ∙ ap (stop_from room n) split ∙ here.0, took ∙ ap (at_end taken0) all_shown)

-- a line that was read stops the run
pub stops_at : (limit : ℕ) (before remaining0 remaining1 taken0 taken1 taken2 : Option (List ℕ)) (old new : Reader) (text taken : List ℕ) (now : WorldState) (room n f0 f1 : ℕ) (stop : Outcome) → InPlay limit before old remaining0 taken0 taken1 now room n
    → remaining0 ≡ in_front taken remaining1 → HasNoFeed text → EndsLine text (held_bytes old ++ taken) new remaining1 → stop_at room n text ≡ Some stop → taken2 ≡ at_end taken1 []
    → IfSome before (λ all. (stop_of limit (lines all) ≡ Some stop) × Took (port_of taken0 taken2 f0 f1) (shown (before_stop limit (lines all))))
stops_at limit None remaining0 remaining1 taken0 taken1 taken2 old new text taken now room n f0 f1 stop play given none ends is took = tt
stops_at limit (Some all) remaining0 remaining1 taken0 taken1 taken2 old new text taken now room n f0 f1 stop (rest, front, told, is_front, g) given none ends is took =
    let (rest', told', first) = text_told text rest old new taken remaining0 remaining1 given none ends told in
    stops_told limit all rest front text (lines rest') taken0 taken2 now room n f0 f1 (old.state ≡ state.Going) stop g first.split is (took ∙ sym (at_end_none taken1) ∙ is_front)

long_front : (limit : ℕ) (bytes : List ℕ) → IsLong limit bytes → (first : List ℕ) × (others : List (List ℕ)) × (lines bytes ≡ first ∷ others) × (limit < length first)
long_front limit bytes l =
    let (first, others, are, long) = first_long l.front l.rest l.no_feed (omega (arith, l.long)) in
    (first, others, ap lines l.is ∙ are, omega (arith, long, l.long))

-- a line over the limit stops the run
pub stops_long : (limit : ℕ) (before remaining0 remaining1 taken0 taken1 : Option (List ℕ)) (old new : Reader) (now : WorldState) (room n f0 f1 : ℕ) → InPlay limit before old remaining0 taken0 taken1 now room n → MayGoOn old remaining0 → ReadsLine line.Long old new remaining0 remaining1 → old.limit ≡ most_line
    → IfSome before (λ all. (stop_of limit (lines all) ≡ Some (outcome.BadLine n)) × Took (port_of taken0 taken1 f0 f1) (shown (before_stop limit (lines all))))
stops_long limit None remaining0 remaining1 taken0 taken1 old new now room n f0 f1 play may r is = tt
stops_long limit (Some all) remaining0 remaining1 taken0 taken1 old new now room n f0 f1 (rest, front, told, is_front, g) may r is =
    let (first, others, are, long) = long_front most_line rest (subst (λ m. IsLong m rest) is (long_read rest old new remaining0 remaining1 may r told)) in
    stops_told limit all rest front first others taken0 taken1 now room n f0 f1 (old.state ≡ state.Going) (outcome.BadLine n) g are (too_long room n first long) is_front

-- ---- A fault of the input.

-- the input counted a fault: what was written is what the whole lines so far print
pub faults : (limit : ℕ) (before remaining0 remaining1 taken0 taken1 : Option (List ℕ)) (old new : Reader) (now : WorldState) (room n i0 i1 f0 f1 : ℕ) → InPlay limit before old remaining0 taken0 taken1 now room n → MayGoOn old remaining0 → ReadsLine line.Fault old new remaining0 remaining1
    → IfSome before (λ _. (given : List ℕ) × Gave (port_of before remaining1 i0 i1) given × Took (port_of taken0 taken1 f0 f1) (shown (before_stop limit (whole_lines given))))
faults limit None remaining0 remaining1 taken0 taken1 old new now room n i0 i1 f0 f1 play may r = tt
faults limit (Some all) remaining0 remaining1 taken0 taken1 old new now room n i0 i1 f0 f1 (rest, front, told, is_front, g) may r =
    let (was, (kept, remaining', is_remaining, none, is)) = fault_told rest old new remaining0 remaining1 may r told in
    let w = g.whole was in
    let all_shown : front ≡ shown (before_stop limit (whole_lines (w.gone ++ kept))) =
    sym (append-nil front) ∙ ap (λ l. front ++ shown_from n now (before_from room n l)) (sym (none_whole kept none)) ∙ w.are kept in
    (w.gone ++ kept, ap Some (w.split ∙ ap (λ l. w.gone ++ l) is ∙ sym (append_assoc w.gone kept remaining')) ∙ ap (in_front (w.gone ++ kept)) (sym is_remaining), is_front ∙ ap (at_end taken0) all_shown)

-- ---- Fronts of what is written.

front_of : (whole front more others : List ℕ) (p : Port) → whole ≡ front ++ (more ++ others) → p.after ≡ at_end p.before (front ++ more) → TookPrefix p whole
front_of whole front more others p is took = (front ++ more, others, is ∙ sym (append_assoc front more others), took)

-- what was written so far is a front of all
pub so_far : (limit : ℕ) (before taken0 taken1 taken2 remaining : Option (List ℕ)) (reader : Reader) (now : WorldState) (room n f0 f1 : ℕ) → InPlay limit before reader remaining taken0 taken1 now room n → taken2 ≡ at_end taken1 []
    → IfSome before (λ all. TookPrefix (port_of taken0 taken2 f0 f1) (all_written limit (lines all)))
so_far limit None taken0 taken1 taken2 remaining reader now room n f0 f1 play same = tt
so_far limit (Some all) taken0 taken1 taken2 remaining reader now room n f0 f1 (rest, front, told, is_front, g) same =
    let tail = shown_end (stop_of limit (lines all)) (lines all) in
    let later = shown_from n now (before_from room n (lines rest)) in
    (front, later ++ tail, ap (λ l. l ++ tail) (sym g.prints) ∙ append_assoc front later tail, same ∙ sym (at_end_none taken1) ∙ is_front)

-- a fault in what a line prints
pub cut_short : (limit : ℕ) (before remaining0 remaining1 taken0 taken1 taken2 : Option (List ℕ)) (old new : Reader) (text taken : List ℕ) (now : WorldState) (room n f0 f1 g0 g1 : ℕ) → InPlay limit before old remaining0 taken0 taken1 now room n
    → remaining0 ≡ in_front taken remaining1 → HasNoFeed text → EndsLine text (held_bytes old ++ taken) new remaining1 → stop_at room n text ≡ None → TookPrefix (port_of taken1 taken2 g0 g1) (shown_meaning n now (meaning_of text))
    → IfSome before (λ all. TookPrefix (port_of taken0 taken2 f0 f1) (all_written limit (lines all)))
cut_short limit None remaining0 remaining1 taken0 taken1 taken2 old new text taken now room n f0 f1 g0 g1 play given none ends goes cut = tt
cut_short limit (Some all) remaining0 remaining1 taken0 taken1 taken2 old new text taken now room n f0 f1 g0 g1 (rest, front, told, is_front, g) given none ends goes (some, others, is, took) =
    let (rest', told', first) = text_told text rest old new taken remaining0 remaining1 given none ends told in
    let tail = shown_end (stop_of limit (lines all)) (lines all) in
    let later = shown_from (n + 1) (after_meaning now (meaning_of text)) (before_from (room - (length text + 1)) (n + 1) (lines rest')) in
    let prints : shown (before_stop limit (lines all)) ≡ (front ++ shown_meaning n now (meaning_of text)) ++ later =
    sym g.prints ∙ ap (λ l. front ++ shown_from n now (before_from room n l)) first.split ∙ sym (prints_more front now room n text (lines rest') goes) in
    front_of (all_written limit (lines all)) front some (others ++ (later ++ tail)) (port_of taken0 taken2 f0 f1)
    (ap (λ l. l ++ tail) prints ∙ append_assoc (front ++ shown_meaning n now (meaning_of text)) later tail ∙ append_assoc front (shown_meaning n now (meaning_of text)) (later ++ tail)
    ∙ ap (λ l. front ++ l) (ap (λ l. l ++ (later ++ tail)) is ∙ append_assoc some others (later ++ tail)))
    (took ∙ ap (λ t. at_end t some) is_front ∙ at_end_twice taken0 front some)

-- ---- The end.

-- neither stops
pub none_first : (s later : Option Outcome) → or_else s later ≡ None → (s ≡ None) × (later ≡ None)
none_first None later is = (refl, is)
none_first (Some stop) later is = absurd cc

-- without a stop all lines are played
pub before_all : (room n : ℕ) (script : List (List ℕ)) → stop_from room n script ≡ None → before_from room n script ≡ script
before_all room n [] none = refl
before_all room n (text ∷ others) none =
    let both = none_first (stop_at room n text) (stop_from (room - (length text + 1)) (n + 1) others) none in
    before_none room n text others both.0 ∙ ap (λ ls. text ∷ ls) (before_all (room - (length text + 1)) (n + 1) others both.1)

ended_told : (limit : ℕ) (all front : List ℕ) (now : WorldState) (room n : ℕ) (goes : Type 0) → Going limit all [] front now room n goes → (stop_of limit (lines all) ≡ None) × (front ≡ shown (lines all)) × (now ≡ world (lines all))
ended_told limit all front now room n goes g =
    let none : stop_of limit (lines all) ≡ None = sym g.stops in
    (none, sym (append-nil front) ∙ g.prints ∙ ap shown (before_all limit 1 (lines all) none), g.world_is)

-- the input ended, and the world was printed
pub done : (limit : ℕ) (before remaining0 remaining1 taken0 taken1 taken2 : Option (List ℕ)) (old new : Reader) (now : WorldState) (room n f0 f1 : ℕ) → InPlay limit before old remaining0 taken0 taken1 now room n → MayGoOn old remaining0 → ReadsLine line.End old new remaining0 remaining1
    → taken2 ≡ at_end taken1 (shown_world now) → IsSoundWorld now
    → IfSome before (λ all. (stop_of limit (lines all) ≡ None) × (remaining1 ≡ Some []) × Took (port_of taken0 taken2 f0 f1) (output (lines all)) × IsSoundWorld (world (lines all)))
done limit None remaining0 remaining1 taken0 taken1 taken2 old new now room n f0 f1 play may r took sound = tt
done limit (Some all) remaining0 remaining1 taken0 taken1 taken2 old new now room n f0 f1 (rest, front, told, is_front, g) may r took sound =
    let over = end_told rest old new remaining0 remaining1 may r told in
    let e = ended_told limit all front now room n (old.state ≡ state.Going) (subst (λ b. Going limit all b front now room n (old.state ≡ state.Going)) over.0 g) in
    (e.0, over.1, took ∙ ap (λ t. at_end t (shown_world now)) is_front ∙ at_end_twice taken0 front (shown_world now) ∙ ap (λ w. at_end taken0 (front ++ shown_world w)) e.2 ∙ ap (λ l. at_end taken0 (l ++ shown_world (world (lines all)))) e.1, subst IsSoundWorld e.2 sound)

-- the input ended, and a fault was counted while the world was printed
pub end_cut : (limit : ℕ) (before remaining0 remaining1 taken0 taken1 taken2 : Option (List ℕ)) (old new : Reader) (now : WorldState) (room n f0 f1 g0 g1 : ℕ) → InPlay limit before old remaining0 taken0 taken1 now room n → MayGoOn old remaining0 → ReadsLine line.End old new remaining0 remaining1
    → TookPrefix (port_of taken1 taken2 g0 g1) (shown_world now)
    → IfSome before (λ all. TookPrefix (port_of taken0 taken2 f0 f1) (all_written limit (lines all)))
end_cut limit None remaining0 remaining1 taken0 taken1 taken2 old new now room n f0 f1 g0 g1 play may r cut = tt
end_cut limit (Some all) remaining0 remaining1 taken0 taken1 taken2 old new now room n f0 f1 g0 g1 (rest, front, told, is_front, g) may r (some, others, is, took) =
    let over = end_told rest old new remaining0 remaining1 may r told in
    let e = ended_told limit all front now room n (old.state ≡ state.Going) (subst (λ b. Going limit all b front now room n (old.state ≡ state.Going)) over.0 g) in
    front_of (all_written limit (lines all)) front some others (port_of taken0 taken2 f0 f1)
    (ap (λ l. shown l ++ shown_end (stop_of limit (lines all)) (lines all)) (before_all limit 1 (lines all) e.0) ∙ ap (λ s. shown (lines all) ++ shown_end s (lines all)) e.0
    ∙ ap (λ l. l ++ shown_world (world (lines all))) (sym e.1) ∙ ap (λ w. front ++ shown_world w) (sym e.2) ∙ ap (λ l. front ++ l) is)
    (took ∙ ap (λ t. at_end t some) is_front ∙ at_end_twice taken0 front some)
