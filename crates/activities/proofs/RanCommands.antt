-- What a command did.
use Rattle.std.proofs.Common.{◌≡◌, ◌⊎◌, inl, inr, ℕ, ◌≤◌, ◌+◌, ◌==◌, Bool, true, false, if◌then◌else◌, List, [], ◌∷◌, ◌++◌, length, Option, None, Some, Result, Ok, Err, is_ok, refl, sym, ap, ◌∙◌, subst, append_assoc, append-nil, length-append, ◌-◌, ◌^◌, min, arith}
use Rattle.std.specs.Prelude.{is_none}
use Rattle.seat_lock.specs.Lists.{Begins, AllOf}
use Rattle.seat_lock.specs.Values.{SeatValue, with_rows}
use Rattle.ot_text.specs.Change.{Change, base}
use Rattle.troop_ports.specs.Bytes.{at_end}
use Rattle.stage_state.specs.declared.act.Act.{Act}
use Rattle.stage_state.specs.declared.act.Act.TheVariants as act
use Rattle.stage_state.specs.declared.played.Origin.{Origin}
use Rattle.stage_state.specs.declared.reply.AskRefusal.{AskRefusal}
use Rattle.stage_state.specs.declared.reply.AskRefusal.TheVariants as refusal
use Rattle.stage_state.specs.Machine.{Machine, taken_count, held_text, is_closed, block_held}
use Rattle.stage_state.specs.Origins.{machine_at}
use Rattle.stage_state.specs.Replies.{type_refusal, eval_refusal, reset_refusal, blank_at, unless, accepts}
use Rattle.wire_json.specs.declared.commands.Command.{Command}
use Rattle.wire_json.specs.declared.commands.Command.TheVariants as command
use Rattle.activities.specs.declared.commands.Flow.{Flow}
use Rattle.activities.specs.declared.commands.Flow.TheVariants as flow
use Rattle.activities.specs.declared.errors.PerformError.{PerformError}
use Rattle.activities.specs.declared.errors.PerformError.TheVariants as error
use Rattle.activities.specs.Memory.{PlacedAct, SeatMemory, seen_in, by_others, own_act, placed_row, SeesMore, Remembers}
use Rattle.activities.specs.Commands.{refusal_line, ask_answer, command_output, done_by, LetsGoOn, FindsClosed, IsCommandFault, DidCommand, WroteLine, Answered, AsksStage, FollowsAnswer, performer_line, RunsCommands, RanCommands, CutLine, CommandsEnd, NoCommand, DidSpoken, DidBlank, DidLine, spoken_lines, lines_size, most_commands, base_line, blank_line}
use Rattle.activities.specs.Ending.{IsEnd}
use Rattle.wire_json.specs.Commands.{command_of_line}
use Rattle.wire_json.specs.Fields.{is_blank_line}
use Rattle.activities.specs.Lines.{GaveLines, IsHeldBack, IsCutOff, AreReadAs, number_behind}
use Rattle.activities.proofs.GaveLines.{gave_none, gave_more, mean_more}
use Rattle.activities.proofs.Remembers.{remembers_later, remembers_mine}
use Rattle.activities.proofs.SentUp.{nothing_written, written_more}

-- the answer of a stage that isn't closed
abbrev IsOpenAnswer : Result (Unit {0}) AskRefusal → Type 0
IsOpenAnswer (Ok u) = Unit {0}
IsOpenAnswer (Err refusal.Closed) = ⊥
IsOpenAnswer (Err (refusal.BadBase want got)) = Unit {0}
IsOpenAnswer (Err (refusal.Blank place)) = Unit {0}

opened : (b : Bool) (rest : Option AskRefusal) → IsOpenAnswer (unless (if b then Some refusal.Closed else rest) (tt {0})) → b ≡ false
opened true rest h = absurd h
opened false rest h = refl

shut : (b : Bool) (rest : Option AskRefusal) → IsOpenAnswer (unless rest (tt {0})) → unless (if b then Some refusal.Closed else rest) (tt {0}) ≡ Err refusal.Closed → b ≡ true
shut true rest h e = refl
shut false rest h e = absurd (subst IsOpenAnswer e h)

fits_open : (b : Bool) (want got : ℕ) → IsOpenAnswer (unless (if b then None else Some (refusal.BadBase want got)) (tt {0}))
fits_open true want got = tt
fits_open false want got = tt

found_open : (place : ℕ) (o : Option (List ℕ)) → IsOpenAnswer (unless (blank_at place o) (tt {0}))
found_open place None = tt
found_open place (Some text) = tt

placed_ok : (r : Option AskRefusal) → is_none r ≡ is_ok (unless r (tt {0}))
placed_ok None = refl
placed_ok (Some x) = refl

-- the command is this question to the stage
pub record IsAsking (c : Command) (a : Act) : Type 0 where
  line : (name : List ℕ) (who : ℕ) (m : Machine) → command_output name who m c ≡ refusal_line (ask_answer m a)
  done : (n : ℕ) (m : Machine) → done_by n m c ≡ own_act (accepts m a) n a
  goes : (m : Machine) → is_closed m ≡ false → LetsGoOn m c
  finds : (m : Machine) → is_closed m ≡ true → FindsClosed m c
  placed : (m : Machine) → accepts m a ≡ is_ok (ask_answer m a)
  «open» : (m : Machine) → IsOpenAnswer (ask_answer m a) → is_closed m ≡ false
  shuts : (m : Machine) → ask_answer m a ≡ Err refusal.Closed → is_closed m ≡ true

pub edit_asks : (op : Change) → IsAsking (command.Edit op) (act.Typed op)
edit_asks op = record {
  line = λ name who m. refl;
  done = λ n m. refl;
  goes = λ m e. e;
  finds = λ m e. e;
  placed = λ m. placed_ok (type_refusal m op);
  «open» = λ m h. opened (is_closed m) _ h;
  shuts = λ m e. shut (is_closed m) _ (fits_open (base op == length (held_text m)) _ _) e;
}

pub eval_asks : (place : ℕ) → IsAsking (command.Eval place) (act.Eval place)
eval_asks place = record {
  line = λ name who m. refl;
  done = λ n m. refl;
  goes = λ m e. e;
  finds = λ m e. e;
  placed = λ m. placed_ok (eval_refusal m place);
  «open» = λ m h. opened (is_closed m) _ h;
  shuts = λ m e. shut (is_closed m) _ (found_open place (block_held place m)) e;
}

pub reset_asks : (text : List ℕ) → IsAsking (command.Reset text) (act.Reset text)
reset_asks text = record {
  line = λ name who m. refl;
  done = λ n m. refl;
  goes = λ m e. e;
  finds = λ m e. e;
  placed = λ m. placed_ok (reset_refusal m);
  «open» = λ m h. opened (is_closed m) _ h;
  shuts = λ m e. shut (is_closed m) None tt e;
}

-- what a seat remembers behind a question
record Asked (o : Origin) (k : SeatMemory) (a : Act) (s t : SeatValue PlacedAct Origin) (answer : Result (Unit {0}) AskRefusal) : Type 0 where
  at : SeatMemory
  later : SeesMore k at
  answer_is : answer ≡ ask_answer (machine_at o (seen_in at)) a
  remembers : Remembers (at ++ own_act (accepts (machine_at o (seen_in at)) a) s.number a) t

asked : (o : Origin) (k : SeatMemory) (a : Act) (s t : SeatValue PlacedAct Origin) (answer : Result (Unit {0}) AskRefusal) → Remembers k s → t.number ≡ s.number
    → AsksStage o a s t (Ok answer) → Asked o k a s t answer
asked o k a s t answer is number asks =
    let log = asks.0 in
    let later = remembers_later k s (with_rows s log s.own) is asks.1 refl refl in
    let at = later.0 in
    let same : log ≡ seen_in at = sym later.2.seen in
    let P : List PlacedAct → Type 0 = λ rows. (t.seen ≡ log ++ placed_row (accepts (machine_at o rows) a) s.number a)
    × (t.own ≡ s.own ++ placed_row (accepts (machine_at o rows) a) s.number a) in
    let h : P (seen_in at) = subst P same (asks.3, asks.4) in
    record {
      at = at;
      later = later.1;
      answer_is = asks.2 ∙ ap (λ rows. ask_answer (machine_at o rows) a) same;
      remembers = remembers_mine (accepts (machine_at o (seen_in at)) a) at (with_rows s log s.own) t log a later.2 later.2.seen h.0 h.1 number;
    }

-- a question that isn't placed
unplaced : (o : Origin) (k : SeatMemory) (c : Command) (a : Act) (s t : SeatValue PlacedAct Origin) (r : AskRefusal) → IsAsking c a → (h : Asked o k a s t (Err r)) → Remembers h.at t
unplaced o k c a s t r asks h =
    let m = machine_at o (seen_in h.at) in
    let no : accepts m a ≡ false = asks.placed m ∙ ap is_ok (sym h.answer_is) in
    subst (λ (l : SeatMemory). Remembers l t) (append-nil h.at) (subst (λ b. Remembers (h.at ++ own_act b s.number a) t) no h.remembers)

wrote : (o : Origin) (name : List ℕ) (who : ℕ) (k : SeatMemory) (c : Command) (a : Act) (s t : SeatValue PlacedAct Origin) (before now : Option (List ℕ)) (x : AskRefusal) (r : Result Flow PerformError)
    → IsAsking c a → (h : Asked o k a s t (Err x)) → IsOpenAnswer (Err x) → WroteLine (refusal_line (Err x)) before now r → DidCommand o s.number name who k c before now t r
wrote o name who k c a s t before now x (Ok f) asks h open' w =
    let m = machine_at o (seen_in h.at) in
    let line : command_output name who m c ≡ refusal_line (Err x) = asks.line name who m ∙ ap refusal_line (sym h.answer_is) in
    subst (λ (f : Flow). DidCommand o s.number name who k c before now t (Ok f)) (sym w.0) (
      h.at,
      h.later,
      asks.goes m (asks.«open» m (subst IsOpenAnswer h.answer_is open')),
      w.1 ∙ ap (at_end before) (sym line),
      subst (λ (l : SeatMemory). Remembers (h.at ++ l) t) (sym (asks.done s.number m)) h.remembers,
    )
wrote o name who k c a s t before now x (Err e) asks h open' w =
    let m = machine_at o (seen_in h.at) in
    let line : command_output name who m c ≡ refusal_line (Err x) = asks.line name who m ∙ ap refusal_line (sym h.answer_is) in
    (h.at, h.later, unplaced o k c a s t x asks h, subst (λ (l : List ℕ). (front : List ℕ) × Begins front l × (now ≡ at_end before front)) (sym line) w.0, w.1)

pub asked_did : (o : Origin) (name : List ℕ) (who : ℕ) (k : SeatMemory) (c : Command) (a : Act) (s t : SeatValue PlacedAct Origin) (before now : Option (List ℕ)) (r : Result Flow PerformError)
    (answer : Result (Result (Unit {0}) AskRefusal) PerformError) → IsAsking c a → Remembers k s → t.number ≡ s.number → Begins s.seen t.seen
    → AsksStage o a s t answer → FollowsAnswer answer before now r → DidCommand o s.number name who k c before now t r
asked_did o name who k c a s t before now r (Ok (Ok u)) asks is number begins stage follows =
    let h = asked o k a s t (Ok u) is number stage in
    let m = machine_at o (seen_in h.at) in
    let line : command_output name who m c ≡ [] = asks.line name who m ∙ ap refusal_line (sym h.answer_is) in
    subst (λ (r : Result Flow PerformError). DidCommand o s.number name who k c before now t r) (sym follows.0) (
      h.at,
      h.later,
      asks.goes m (asks.«open» m (subst IsOpenAnswer h.answer_is tt)),
      follows.1 ∙ nothing_written before ∙ ap (at_end before) (sym line),
      subst (λ (l : SeatMemory). Remembers (h.at ++ l) t) (sym (asks.done s.number m)) h.remembers,
    )
asked_did o name who k c a s t before now r (Ok (Err refusal.Closed)) asks is number begins stage follows =
    let h = asked o k a s t (Err refusal.Closed) is number stage in
    let m = machine_at o (seen_in h.at) in
    subst (λ (r : Result Flow PerformError). DidCommand o s.number name who k c before now t r) (sym follows.0)
    (h.at, h.later, unplaced o k c a s t refusal.Closed asks h, follows.1, asks.finds m (asks.shuts m (sym h.answer_is)))
asked_did o name who k c a s t before now r (Ok (Err (refusal.BadBase want got))) asks is number begins stage follows =
    wrote o name who k c a s t before now (refusal.BadBase want got) r asks (asked o k a s t (Err (refusal.BadBase want got)) is number stage) tt follows
asked_did o name who k c a s t before now r (Ok (Err (refusal.Blank place))) asks is number begins stage follows =
    wrote o name who k c a s t before now (refusal.Blank place) r asks (asked o k a s t (Err (refusal.Blank place)) is number stage) tt follows
asked_did o name who k c a s t before now r (Err e) asks is number begins stage follows =
    let later = remembers_later k s t is begins stage.1 number in
    subst (λ (r : Result Flow PerformError). DidCommand o s.number name who k c before now t r) (sym follows.0)
    (later.0, later.1, later.2, ([], (command_output name who (machine_at o (seen_in later.0)) c, refl), follows.1 ∙ nothing_written before), subst IsCommandFault (sym stage.0) tt)

-- `Until`, and `Show`
pub waited_did : (o : Origin) (name : List ℕ) (who : ℕ) (k : SeatMemory) (count : ℕ) (s t : SeatValue PlacedAct Origin) (before : Option (List ℕ)) → Remembers k s → t.number ≡ s.number
    → Begins s.seen t.seen → t.own ≡ s.own → (count ≤ taken_count (machine_at o t.seen)) ⊎ (is_closed (machine_at o t.seen) ≡ true)
    → DidCommand o s.number name who k (command.Until count) before before t (Ok flow.On)
waited_did o name who k count s t before is number begins own reached =
    let later = remembers_later k s t is begins own number in (
      later.0,
      later.1,
      subst (λ (rows : List PlacedAct). (count ≤ taken_count (machine_at o rows)) ⊎ (is_closed (machine_at o rows) ≡ true)) (sym later.2.seen) reached,
      nothing_written before,
      subst (λ (l : SeatMemory). Remembers l t) (sym (append-nil later.0)) later.2,
    )

pub showed_did : (o : Origin) (name : List ℕ) (who : ℕ) (k : SeatMemory) (s t : SeatValue PlacedAct Origin) (before now : Option (List ℕ)) (r : Result Flow PerformError) → Remembers k s → t.number ≡ s.number
    → Begins s.seen t.seen → t.own ≡ s.own → WroteLine (performer_line name who (machine_at o t.seen)) before now r
    → DidCommand o s.number name who k command.Show before now t r
showed_did o name who k s t before now (Ok f) is number begins own w =
    let later = remembers_later k s t is begins own number in
    subst (λ (f : Flow). DidCommand o s.number name who k command.Show before now t (Ok f)) (sym w.0) (
      later.0,
      later.1,
      tt,
      w.1 ∙ ap (λ rows. at_end before (performer_line name who (machine_at o rows))) (sym later.2.seen),
      subst (λ (l : SeatMemory). Remembers l t) (sym (append-nil later.0)) later.2,
    )
showed_did o name who k s t before now (Err e) is number begins own w =
    let later = remembers_later k s t is begins own number in (
      later.0,
      later.1,
      later.2,
      subst (λ (rows : List PlacedAct). (front : List ℕ) × Begins front (performer_line name who (machine_at o rows)) × (now ≡ at_end before front)) (sym later.2.seen) w.0,
      w.1,
    )

-- ---- a refusal that is printed

pub answered_base : (a : Result (Unit {0}) AskRefusal) (x : AskRefusal) (want got : ℕ) (before now : Option (List ℕ)) (r : Result Flow PerformError) → a ≡ Err x → x ≡ refusal.BadBase want got
    → WroteLine (base_line want got) before now r → Answered a before now r
answered_base a x want got before now r is same w =
    subst (λ (a : Result (Unit {0}) AskRefusal). Answered a before now r) (sym is) (subst (λ (x : AskRefusal). Answered (Err x) before now r) (sym same) w)

pub answered_blank : (a : Result (Unit {0}) AskRefusal) (x : AskRefusal) (place : ℕ) (before now : Option (List ℕ)) (r : Result Flow PerformError) → a ≡ Err x → x ≡ refusal.Blank place
    → WroteLine (blank_line place) before now r → Answered a before now r
answered_blank a x place before now r is same w =
    subst (λ (a : Result (Unit {0}) AskRefusal). Answered a before now r) (sym is) (subst (λ (x : AskRefusal). Answered (Err x) before now r) (sym same) w)

-- ---- all commands

by_others-append : (xs ys : List PlacedAct) → by_others (xs ++ ys) ≡ by_others xs ++ by_others ys
by_others-append [] ys = refl
by_others-append (x ∷ xs) ys = ap (λ l. (false, x) ∷ l) (by_others-append xs ys)

later_on : (a b c : SeatMemory) → SeesMore a b → SeesMore b c → SeesMore a c
later_on a b c h g =
    (h.0 ++ g.0, ap (λ l. a ++ l) (by_others-append h.0 g.0) ∙ sym (append_assoc a (by_others h.0) (by_others g.0)) ∙ ap (λ l. l ++ by_others g.0) h.1 ∙ g.1)

ran_more : (o : Origin) (n : ℕ) (name : List ℕ) (who : ℕ) (k : SeatMemory) (cs : List Command) (bytes : List ℕ) (done at : SeatMemory) (c : Command) → RunsCommands o n name who k cs bytes done
    → SeesMore done at → LetsGoOn (machine_at o (seen_in at)) c
    → RunsCommands o n name who k (cs ++ c ∷ []) (bytes ++ command_output name who (machine_at o (seen_in at)) c) (at ++ done_by n (machine_at o (seen_in at)) c)
ran_more o n name who k [] bytes done at c ran later goes =
    let line = command_output name who (machine_at o (seen_in at)) c in
    (at, [], subst (λ (l : SeatMemory). SeesMore l at) ran.1 later, goes, ap (λ l. l ++ line) ran.0 ∙ sym (append-nil line), (refl, refl))
ran_more o n name who k (x ∷ cs) bytes done at c ran later goes =
    let line = command_output name who (machine_at o (seen_in at)) c in
    let first = command_output name who (machine_at o (seen_in ran.0)) x in (
      ran.0,
      ran.1 ++ line,
      ran.2,
      ran.3,
      ap (λ l. l ++ line) ran.4 ∙ append_assoc first ran.1 line,
      ran_more o n name who (ran.0 ++ done_by n (machine_at o (seen_in ran.0)) x) cs ran.1 done at c ran.5 later goes,
    )

-- ---- lines

spoken_more : (b : Bool) (given rest : List (List ℕ)) (line : List ℕ)
    → (if b then given ++ rest else line ∷ (given ++ rest)) ≡ (if b then given else line ∷ given) ++ rest
spoken_more true given rest line = refl
spoken_more false given rest line = refl

spoken-append : (given more : List (List ℕ)) → spoken_lines (given ++ more) ≡ spoken_lines given ++ spoken_lines more
spoken-append [] more = refl
spoken-append (line ∷ given) more =
    ap (λ l. if is_blank_line line then l else line ∷ l) (spoken-append given more) ∙ spoken_more (is_blank_line line) (spoken_lines given) (spoken_lines more) line

spoken_one : (line : List ℕ) → is_blank_line line ≡ false → spoken_lines (line ∷ []) ≡ line ∷ []
spoken_one line spoken = ap (λ b. if b then [] else line ∷ []) spoken

spoken_none : (line : List ℕ) → is_blank_line line ≡ true → spoken_lines (line ∷ []) ≡ []
spoken_none line blank = ap (λ b. if b then [] else line ∷ []) blank

lines_size-more : (given : List (List ℕ)) (line : List ℕ) → lines_size (given ++ line ∷ []) ≡ lines_size given + (length line + 1)
lines_size-more [] line = omega arith
lines_size-more (x ∷ given) line = let rest = lines_size-more given line in omega (arith, rest)

-- the commands as far as they have come
pub record RunSoFar (o : Origin) (name : List ℕ) (who : ℕ) (told left before now : Option (List ℕ)) (s t : SeatValue PlacedAct Origin) (number size : ℕ) : Type 0 where
  pub k : SeatMemory
  pub remembers : Remembers k t
  pub given : List (List ℕ)
  pub commands : List Command
  pub gave : GaveLines told given left
  pub mean : AreReadAs command_of_line (spoken_lines given) commands
  pub sized : size ≡ lines_size given
  pub within : size ≤ most_commands
  pub printed : List ℕ
  pub done : SeatMemory
  pub ran : RunsCommands o s.number name who [] commands printed done
  pub later : SeesMore done k
  pub written : now ≡ at_end before printed
  pub counted : number ≡ number_behind 1 given

-- before the first line
pub run_none : (o : Origin) (name : List ℕ) (who : ℕ) (told before : Option (List ℕ)) (s : SeatValue PlacedAct Origin) → s.seen ≡ [] → s.own ≡ []
    → RunSoFar o name who told told before before s s 1 0
run_none o name who told before s seen own = record {
  k = [];
  remembers = record {
    seen = sym seen;
    own = sym own;
    numbered = subst (λ (rows : List PlacedAct). AllOf (λ (r : PlacedAct). r.0 ≡ s.number) rows) (sym own) tt;
  };
  given = [];
  commands = [];
  gave = gave_none told;
  mean = refl;
  sized = refl;
  within = omega arith;
  printed = [];
  done = [];
  ran = (refl, refl);
  later = ([], refl);
  written = nothing_written before;
  counted = omega arith;
}

-- a command more
run_spoken : (o : Origin) (name : List ℕ) (who : ℕ) (told mid left before now next : Option (List ℕ)) (s t u : SeatValue PlacedAct Origin) (number more size total : ℕ)
    → (h : RunSoFar o name who told mid before now s t number size) → t.number ≡ s.number → more ≡ min (number + 1) (2 ^ 64 - 1)
    → DidSpoken o t.number name who h.k mid left size total now next u (Ok flow.On) → RunSoFar o name who told left before next s u more total
run_spoken o name who told mid left before now next s t u number more size total h same count did =
    let c = did.c in
    let at = did.did.0 in
    let m = machine_at o (seen_in at) in
    let line = command_output name who m c in
    record {
      k = at ++ done_by t.number m c;
      remembers = did.did.4;
      given = h.given ++ did.line ∷ [];
      commands = h.commands ++ c ∷ [];
      gave = gave_more told mid left h.given (did.line ∷ []) h.gave did.gave;
      mean = subst (λ (ls : List (List ℕ)). AreReadAs command_of_line ls (h.commands ++ c ∷ []))
          (sym (spoken-append h.given (did.line ∷ []) ∙ ap (λ l. spoken_lines h.given ++ l) (spoken_one did.line did.spoken)))
          (mean_more command_of_line (spoken_lines h.given) h.commands did.line c h.mean did.means);
      sized = let sum = lines_size-more h.given did.line in omega (arith, sum, h.sized, did.counted.0);
      within = did.counted.1;
      printed = h.printed ++ line;
      done = at ++ done_by t.number m c;
      ran = subst (λ (n : ℕ). RunsCommands o s.number name who [] (h.commands ++ c ∷ []) (h.printed ++ line) (at ++ done_by n m c)) (sym same)
          (ran_more o s.number name who [] h.commands h.printed h.done at c h.ran (later_on h.done h.k at h.later did.did.1) did.did.2);
      later = ([], append-nil (at ++ done_by t.number m c));
      written = written_more before now next h.printed line h.written did.did.3;
      counted = omega (arith, h.counted, count, length-append h.given (did.line ∷ []));
    }

-- a blank line more
run_blank : (o : Origin) (name : List ℕ) (who : ℕ) (told mid left before now next : Option (List ℕ)) (s t u : SeatValue PlacedAct Origin) (number more size total : ℕ) (r : Result Flow PerformError)
    → (h : RunSoFar o name who told mid before now s t number size) → more ≡ min (number + 1) (2 ^ 64 - 1)
    → DidBlank h.k mid left size total now next u r → RunSoFar o name who told left before next s u more total
run_blank o name who told mid left before now next s t u number more size total r h count did = record {
  k = h.k;
  remembers = did.remembers;
  given = h.given ++ did.line ∷ [];
  commands = h.commands;
  gave = gave_more told mid left h.given (did.line ∷ []) h.gave did.gave;
  mean = subst (λ (ls : List (List ℕ)). AreReadAs command_of_line ls h.commands)
      (sym (spoken-append h.given (did.line ∷ []) ∙ ap (λ l. spoken_lines h.given ++ l) (spoken_none did.line did.blank) ∙ append-nil (spoken_lines h.given))) h.mean;
  sized = let sum = lines_size-more h.given did.line in omega (arith, sum, h.sized, did.counted.0);
  within = did.counted.1;
  printed = h.printed;
  done = h.done;
  ran = h.ran;
  later = h.later;
  written = did.written ∙ h.written;
  counted = omega (arith, h.counted, count, length-append h.given (did.line ∷ []));
}

-- a line more
pub run_more : (o : Origin) (name : List ℕ) (who : ℕ) (told mid left remaining before now next : Option (List ℕ)) (s t u : SeatValue PlacedAct Origin) (number more size total : ℕ)
    → (h : RunSoFar o name who told mid before now s t number size) → t.number ≡ s.number → more ≡ min (number + 1) (2 ^ 64 - 1)
    → DidLine o t.number number name who h.k mid left remaining size total now next u (Ok flow.On) → RunSoFar o name who told left before next s u more total
run_more o name who told mid left remaining before now next s t u number more size total h same count (inl did) =
    run_spoken o name who told mid left before now next s t u number more size total h same count did
run_more o name who told mid left remaining before now next s t u number more size total h same count (inr (inl did)) =
    run_blank o name who told mid left before now next s t u number more size total (Ok flow.On) h count did
run_more o name who told mid left remaining before now next s t u number more size total h same count (inr (inr none)) = absurd none.none

cut_end : (o : Origin) (name : List ℕ) (who number size : ℕ) (seen : List PlacedAct) (last : List (List ℕ)) (front : List ℕ) (rest remaining : Option (List ℕ)) (e : PerformError)
    → IsCommandFault e → CutLine o name who seen last front → CommandsEnd o number size name who seen last front rest remaining (Err e)
cut_end o name who number size seen last front rest remaining error.ReadFault h cut = absurd h
cut_end o name who number size seen last front rest remaining error.WriteFault h cut = cut
cut_end o name who number size seen last front rest remaining error.NetFault h cut = absurd h
cut_end o name who number size seen last front rest remaining (error.BadInput line) h cut = absurd h
cut_end o name who number size seen last front rest remaining error.TooMuch h cut = absurd h
cut_end o name who number size seen last front rest remaining (error.Refused reply) h cut = absurd h
cut_end o name who number size seen last front rest remaining (error.Dropped at) h cut = absurd h
cut_end o name who number size seen last front rest remaining (error.BadPeer side line what) h cut = absurd h
cut_end o name who number size seen last front rest remaining (error.LongRequest bytes) h cut = absurd h
cut_end o name who number size seen last front rest remaining error.Memory h cut = inr cut

-- how the commands end with a line
ends_with : (o : Origin) (name : List ℕ) (who number size : ℕ) (u : SeatValue PlacedAct Origin) (c : Command) (line : List ℕ) (rest remaining : Option (List ℕ)) (k : SeatMemory) (now next : Option (List ℕ)) (n : ℕ)
    (r : Result Flow PerformError) → command_of_line line ≡ Some c → IsEnd r → DidCommand o n name who k c now next u r
    → (at : SeatMemory) × SeesMore k at × Remembers at u × ((front : List ℕ) × (next ≡ at_end now front) × CommandsEnd o number size name who u.seen (line ∷ []) front rest remaining r)
ends_with o name who number size u c line rest remaining k now next n (Ok flow.On) read end did = absurd end
ends_with o name who number size u c line rest remaining k now next n (Ok flow.Ended) read end did =
    (did.0, did.1, did.2, ([], did.3 ∙ nothing_written now, (refl, inr (line, refl, read ∙ ap Some did.4))))
ends_with o name who number size u c line rest remaining k now next n (Ok flow.Closed) read end did = (
  did.0,
  did.1,
  did.2,
  (
    [],
    did.3 ∙ nothing_written now,
    (refl, (line, c, refl, read, subst (λ (rows : List PlacedAct). FindsClosed (machine_at o rows) c) did.2.seen did.4)),
  ),
)
ends_with o name who number size u c line rest remaining k now next n (Err e) read end did =
    let f = did.3 in
    let cut : CutLine o name who u.seen (line ∷ []) f.0 =
    (line, c, refl, read, subst (λ (rows : List PlacedAct). Begins f.0 (command_output name who (machine_at o rows) c)) did.2.seen f.1) in
    (did.0, did.1, did.2, (f.0, f.2, cut_end o name who number size u.seen (line ∷ []) f.0 rest remaining e did.4 cut))

ends_without : (o : Origin) (name : List ℕ) (who number size : ℕ) (seen : List PlacedAct) (last : List (List ℕ)) (rest remaining : Option (List ℕ)) (r : Result Flow PerformError)
    → NoCommand number size last rest remaining r → CommandsEnd o number size name who seen last [] rest remaining r
ends_without o name who number size seen last rest remaining (Ok flow.On) h = absurd h
ends_without o name who number size seen last rest remaining (Ok flow.Ended) h = (refl, inl h)
ends_without o name who number size seen last rest remaining (Ok flow.Closed) h = absurd h
ends_without o name who number size seen last rest remaining (Err error.ReadFault) h = (refl, h)
ends_without o name who number size seen last rest remaining (Err error.WriteFault) h = absurd h
ends_without o name who number size seen last rest remaining (Err error.NetFault) h = absurd h
ends_without o name who number size seen last rest remaining (Err (error.BadInput line)) h = (refl, h.0, h.1)
ends_without o name who number size seen last rest remaining (Err error.TooMuch) h = (refl, h)
ends_without o name who number size seen last rest remaining (Err (error.Refused reply)) h = absurd h
ends_without o name who number size seen last rest remaining (Err (error.Dropped at)) h = absurd h
ends_without o name who number size seen last rest remaining (Err (error.BadPeer side line what)) h = absurd h
ends_without o name who number size seen last rest remaining (Err (error.LongRequest bytes)) h = absurd h
ends_without o name who number size seen last rest remaining (Err error.Memory) h = inl (refl, h)

not_on : (r : Result Flow PerformError) → r ≡ Ok flow.On → IsEnd r → ⊥
not_on r is end = subst IsEnd is end

-- the commands ended
pub run_ended : (o : Origin) (name : List ℕ) (who : ℕ) (told mid left remaining before now next : Option (List ℕ)) (s t u : SeatValue PlacedAct Origin) (number size total : ℕ) (r : Result Flow PerformError)
    → (h : RunSoFar o name who told mid before now s t number size) → IsEnd r → IsHeldBack left remaining → (r ≡ Err error.ReadFault → IsCutOff told h.given remaining)
    → DidLine o t.number number name who h.k mid left remaining size total now next u r → RanCommands o name who r told remaining before next s u
run_ended o name who told mid left remaining before now next s t u number size total r h end held whole (inl did) =
    let e = ends_with o name who number size u did.c did.line left remaining h.k now next t.number r did.means end did.did in
    record {
      k = e.0;
      remembers = e.2;
      given = h.given;
      commands = h.commands;
      last = did.line ∷ [];
      rest = left;
      gave = gave_more told mid left h.given (did.line ∷ []) h.gave did.gave;
      held = held;
      whole = whole;
      mean = h.mean;
      within = subst (λ n. n ≤ most_commands) h.sized h.within;
      printed = h.printed;
      done = h.done;
      ran = h.ran;
      later = later_on h.done h.k e.0 h.later e.1;
      front = e.3.0;
      written = written_more before now next h.printed e.3.0 h.written e.3.1;
      ends = subst (λ (n : ℕ × ℕ). CommandsEnd o n.0 n.1 name who u.seen (did.line ∷ []) e.3.0 left remaining r) (λ i. (h.counted i, h.sized i)) e.3.2;
    }
run_ended o name who told mid left remaining before now next s t u number size total r h end held whole (inr (inl blank)) = absurd (not_on r blank.goes end)
run_ended o name who told mid left remaining before now next s t u number size total r h end held whole (inr (inr none)) = record {
  k = h.k;
  remembers = none.remembers;
  given = h.given;
  commands = h.commands;
  last = none.last;
  rest = none.rest;
  gave = gave_more told mid none.rest h.given none.last h.gave none.gave;
  held = none.held;
  whole = whole;
  mean = h.mean;
  within = subst (λ n. n ≤ most_commands) h.sized h.within;
  printed = h.printed;
  done = h.done;
  ran = h.ran;
  later = h.later;
  front = [];
  written = none.written ∙ h.written ∙ ap (at_end before) (sym (append-nil h.printed));
  ends = subst (λ (n : ℕ × ℕ). CommandsEnd o n.0 n.1 name who u.seen none.last [] none.rest remaining r) (λ i. (h.counted i, h.sized i))
      (ends_without o name who number size u.seen none.last none.rest remaining r none.none);
}
