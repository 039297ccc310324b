-- What a block does to a driver over a hatch in memory.
use Rattle.std.proofs.Common.{◌≡◌, ℕ, suc, ◌+◌, ◌-◌, ◌^◌, ◌<◌, ◌≤◌, Bool, true, false, not, Option, None, Some, List, [], ◌∷◌, ◌++◌, length, drop, Result, Ok, Err, IfOk, OnOk, OnErr, refl, sym, ap, ◌∙◌, subst, arith, length-append}
use Rattle.std.specs.Prelude.{option_map, IfSome}
use Rattle.troop_entry.specs.declared.block.Block.{Block}
use Rattle.troop_entry.specs.declared.call.Lang.{Lang}
use Rattle.troop_entry.specs.declared.note.Note.{Note}
use Rattle.lang_wrap.specs.Wraps.{wrap}
use Rattle.pipe_ports.specs.Pipes.{Starts}
use Rattle.pipe_ports.specs.Scripts.{ChildValue, HatchValue}
use Rattle.child_driver.specs.declared.fed.Fed.{Fed}
use Rattle.child_driver.specs.Lives.{BlockFate, Whole, Cut, Boot, Refused, AreBelow, IsTold, births_by, fate_bytes, notes_by, faulty_count}
use Rattle.child_driver.specs.Feeding.{Pipe, fed_pipe, fed_fate, start_fate, starts_left}
use Rattle.child_driver.specs.Drivers.{DriverValue, Sight, births, children_after, driver_lives, last_of, sight, with_last_longer}
use Rattle.child_driver.specs.Steps.{CountsFate, FeedsTo, IsFeedStep}
use Rattle.child_driver.proofs.IsFeedStep.{buried_fault}
use Rattle.child_driver.proofs.Turns.{births_more, faulty_append}
use Rattle.world_core.specs.Feeding.{after_fate, fate_faults, opens_life}
use Rattle.world_core.specs.States.{InterpreterState}
use Rattle.world_core.specs.Values.{faults_counted, interpreter_of}
use Rattle.world_core.specs.WorldInvariant.{IsFedDriver}

abbrev pub ScriptDriver : Type 0
ScriptDriver = DriverValue HatchValue ChildValue

-- what a contract sees of it
abbrev pub seen : ScriptDriver → Sight
seen d = sight (λ (h : HatchValue). Some h.past) (λ (h : HatchValue). Some (record { refusals = h.refusals; limit = h.limit })) (λ (h : HatchValue). h.faults)
    (λ (c : ChildValue). Some c.taken) (λ (c : ChildValue). Some c.limit) (λ (c : ChildValue). c.faults) d

-- the driver's lives, as they are told
abbrev pub lives_seen : ScriptDriver → Option (List (List ℕ))
lives_seen d = driver_lives (λ (h : HatchValue). Some h.past) (λ (c : ChildValue). Some c.taken) d

-- ---- a sight, and the state

children_seen : (d : ScriptDriver) → (seen d).children ≡ Some (interpreter_of d).lives
children_seen d = by_life d.life
  where
    by_life : (life : Option ChildValue) → (seen (record d { life = life })).children ≡ Some (interpreter_of (record d { life = life })).lives
    by_life None = refl
    by_life (Some child) = refl

pipe_seen : (d : ScriptDriver) → (seen d).pipe ≡ Some (interpreter_of d).pipe
pipe_seen d = by_life d.life
  where
    by_life : (life : Option ChildValue) → (seen (record d { life = life })).pipe ≡ Some (interpreter_of (record d { life = life })).pipe
    by_life None = refl
    by_life (Some child) = refl

stands_seen : (d : ScriptDriver) → not (seen d).stands ≡ opens_life (interpreter_of d)
stands_seen d = by_life d.life
  where
    by_life : (life : Option ChildValue) → not (seen (record d { life = life })).stands ≡ opens_life (interpreter_of (record d { life = life }))
    by_life None = refl
    by_life (Some child) = refl

with_all : (lang lang1 : Lang) (boot boot1 : List ℕ) (notes notes1 : List Note) (lives lives1 : List (List ℕ)) (pipe pipe1 : Pipe) (faults faults1 : ℕ)
    → lang ≡ lang1 → boot ≡ boot1 → notes ≡ notes1 → lives ≡ lives1 → pipe ≡ pipe1 → faults ≡ faults1
    → ◌≡◌ {A = InterpreterState} (record { lang = lang; boot = boot; notes = notes; lives = lives; pipe = pipe; faults = faults })
    (record { lang = lang1; boot = boot1; notes = notes1; lives = lives1; pipe = pipe1; faults = faults1 })
with_all lang lang1 boot boot1 notes notes1 lives lives1 pipe pipe1 faults faults1 a b c d e f = rw (a, b, c, d, e, f) refl

-- states that are alike part by part are the same
all_same : (s t : InterpreterState) → s.lang ≡ t.lang → s.boot ≡ t.boot → s.notes ≡ t.notes → s.lives ≡ t.lives → s.pipe ≡ t.pipe → s.faults ≡ t.faults → s ≡ t
all_same s t a b c d e f = with_all s.lang t.lang s.boot t.boot s.notes t.notes s.lives t.lives s.pipe t.pipe s.faults t.faults a b c d e f

same_some : {A : Type 0} (x y : A) → Some x ≡ Some y → x ≡ y
same_some x y e = cc

-- drivers of one language and one boot text that are seen alike are in one state
pub same_state : (d e : ScriptDriver) → seen e ≡ seen d → e.lang ≡ d.lang → e.boot ≡ d.boot → interpreter_of e ≡ interpreter_of d
same_state d e same lang boot =
    let notes : e.notes ≡ d.notes = ap (λ (s : Sight). s.notes) same in
    let lives = same_some (interpreter_of e).lives (interpreter_of d).lives (sym (children_seen e) ∙ ap (λ (s : Sight). s.children) same ∙ children_seen d) in
    let pipe = same_some (interpreter_of e).pipe (interpreter_of d).pipe (sym (pipe_seen e) ∙ ap (λ (s : Sight). s.pipe) same ∙ pipe_seen d) in
    all_same (interpreter_of e) (interpreter_of d) lang boot notes lives pipe (ap faulty_count notes)

-- ---- a block's faults

faulty_turn : (opens_life : Bool) (number place : ℕ) (fate : BlockFate) → faulty_count (notes_by opens_life number place fate) ≡ fate_faults fate
faulty_turn true number place Whole = refl
faulty_turn false number place Whole = refl
faulty_turn true number place (Cut n) = refl
faulty_turn false number place (Cut n) = refl
faulty_turn true number place (Boot n) = refl
faulty_turn false number place (Boot n) = refl
faulty_turn true number place Refused = refl
faulty_turn false number place Refused = refl

-- a pipe's count never falls, while it is below its last value
counts_rise : (fate : BlockFate) (hatch life now left : ℕ) → CountsFate fate hatch life now left → now + left < 2 ^ 64 - 1 → hatch + life ≤ now + left
counts_rise Whole hatch life now left counts below = omega (arith, counts.0, counts.1)
counts_rise (Cut n) hatch life now left counts below = omega (arith, buried_fault hatch life now left counts below)
counts_rise (Boot n) hatch life now left counts below = omega (arith, buried_fault hatch life now left counts below)
counts_rise Refused hatch life now left counts below = omega (arith, counts.0.later, counts.1)

-- ---- the state behind a block

-- a step of this fate leads to the state behind a block of that fate
pub fed_state : (d e : ScriptDriver) (wrapped : List ℕ) (place : ℕ) (fed : Fed) → FeedsTo d.boot wrapped place fed (seen d) (seen e) → e.lang ≡ d.lang → e.boot ≡ d.boot
    → interpreter_of e ≡ after_fate place wrapped (fed_fate (interpreter_of d).pipe (length d.boot) (length wrapped)) (interpreter_of d)
fed_state d e wrapped place fed step lang boot =
    let fate : BlockFate = step.0 in
    let is : IsFeedStep d.boot wrapped place fate (seen d) (seen e) = step.2 in
    let piped = subst (λ (p : Option Pipe). IfSome p (λ q. (fate ≡ fed_fate q (length d.boot) (length wrapped)) × ((seen e).pipe ≡ Some (fed_pipe q (length d.boot) (length wrapped))))) (pipe_seen d) is.pipe_is in
    let notes : e.notes ≡ d.notes ++ notes_by (opens_life (interpreter_of d)) (births d.notes + births_by (opens_life (interpreter_of d)) fate) place fate =
    is.notes_are ∙ ap (λ b. d.notes ++ notes_by b (births d.notes + births_by b fate) place fate) (stands_seen d) in
    let lives : (interpreter_of e).lives ≡ children_after (opens_life (interpreter_of d)) fate (fate_bytes d.boot (opens_life (interpreter_of d)) wrapped fate) (interpreter_of d).lives =
    same_some _ _ (subst (λ (c : Option (List (List ℕ))). IfSome c (λ ls. Some ls ≡ option_map (children_after (not (seen d).stands) fate (fate_bytes d.boot (not (seen d).stands) wrapped fate)) (seen d).children)) (children_seen e) is.children_are
    ∙ ap (option_map (children_after (not (seen d).stands) fate (fate_bytes d.boot (not (seen d).stands) wrapped fate))) (children_seen d)
    ∙ ap (λ b. Some (children_after b fate (fate_bytes d.boot b wrapped fate) (interpreter_of d).lives)) (stands_seen d)) in
    let pipe : (interpreter_of e).pipe ≡ fed_pipe (interpreter_of d).pipe (length d.boot) (length wrapped) = same_some _ _ (sym (pipe_seen e) ∙ piped.1) in
    let faults : faulty_count e.notes ≡ faulty_count d.notes + fate_faults fate =
    ap faulty_count notes ∙ faulty_append d.notes _ ∙ ap (λ n. faulty_count d.notes + n) (faulty_turn _ _ place fate) in
    subst (λ (f : BlockFate). interpreter_of e ≡ after_fate place wrapped f (interpreter_of d)) piped.0
    (all_same (interpreter_of e) (after_fate place wrapped fate (interpreter_of d)) lang boot notes lives pipe faults)

-- ---- the blocks told

drop_none : (lists : List (List ℕ)) (n : ℕ) → length lists ≡ n → last_of n lists ≡ lists
drop_none lists n is = let none : length lists - n ≡ 0 = omega (arith, is) in ap (λ k. drop k lists) none

-- a driver that buried no other driver's lives tells all of them
pub all_lives : (d : ScriptDriver) → length (interpreter_of d).lives ≡ births d.notes → lives_seen d ≡ Some (interpreter_of d).lives
all_lives d is = ap (option_map (last_of (births d.notes))) (children_seen d) ∙ ap Some (drop_none (interpreter_of d).lives (births d.notes) is)

longer : (lists : List (List ℕ)) (bytes : List ℕ) → length (with_last_longer lists bytes) ≡ length lists
longer [] bytes = refl
longer (x ∷ []) bytes = refl
longer (x ∷ y ∷ lists) bytes = ap suc (longer (y ∷ lists) bytes)

one_more : (lists : List (List ℕ)) (x : List ℕ) → length (lists ++ x ∷ []) ≡ length lists + 1
one_more lists x = length-append lists (x ∷ [])

count_after : (opens_life : Bool) (fate : BlockFate) (bytes : List ℕ) (lists : List (List ℕ)) → length (children_after opens_life fate bytes lists) ≡ length lists + births_by opens_life fate
count_after true Whole bytes lists = one_more lists bytes
count_after false Whole bytes lists = longer lists bytes ∙ omega arith
count_after true (Cut n) bytes lists = one_more lists bytes
count_after false (Cut n) bytes lists = longer lists bytes ∙ omega arith
count_after true (Boot n) bytes lists = one_more lists bytes
count_after false (Boot n) bytes lists = longer lists bytes ∙ omega arith
count_after true Refused bytes lists = omega arith
count_after false Refused bytes lists = omega arith

-- behind a block a driver's part is kept
pub fed_kept : (d e : ScriptDriver) (block : Block) (fed : Fed) (blocks : List Block) → FeedsTo d.boot (wrap d.lang block.text) block.place fed (seen d) (seen e)
    → e.lang ≡ d.lang → e.boot ≡ d.boot → e.closed ≡ d.closed
    → (d.closed ≡ false → (bs : List Block) → IsTold d.lang d.boot bs (lives_seen d) d.notes → AreBelow block.place bs → IsTold d.lang d.boot (bs ++ block ∷ []) (lives_seen e) e.notes)
    → (faults_counted e < 2 ^ 64 - 1 → faulty_count e.notes + faults_counted d ≤ faulty_count d.notes + faults_counted e)
    → IsFedDriver blocks d → AreBelow block.place blocks → IsFedDriver (blocks ++ block ∷ []) e
fed_kept d e block fed blocks step lang boot closed told faults h below =
    let state = fed_state d e (wrap d.lang block.text) block.place fed step lang boot in
    let fate : BlockFate = fed_fate (interpreter_of d).pipe (length d.boot) (length (wrap d.lang block.text)) in
    let now : Bool = opens_life (interpreter_of d) in
    let none : length (interpreter_of e).lives ≡ births e.notes =
    ap (λ (s : InterpreterState). length s.lives) state
    ∙ count_after now fate (fate_bytes d.boot now (wrap d.lang block.text) fate) (interpreter_of d).lives
    ∙ ap (λ n. n + births_by now fate) h.none_earlier
    ∙ sym (births_more d.notes now (births d.notes + births_by now fate) block.place fate)
    ∙ sym (ap (λ (s : InterpreterState). births s.notes) state) in
    record {
      open_is = closed ∙ h.open_is;
      none_earlier = none;
      told = subst (λ (ls : Option (List (List ℕ))). IsTold e.lang e.boot (blocks ++ block ∷ []) ls e.notes) (all_lives e none)
          (rw (lang, boot) (told h.open_is blocks (subst (λ (ls : Option (List (List ℕ))). IsTold d.lang d.boot blocks ls d.notes) (sym (all_lives d h.none_earlier)) h.told) below));
      counted = λ few. let rise : faults_counted d ≤ faults_counted e = counts_rise step.0 (seen d).hatch_count (seen d).life_count (seen e).hatch_count (seen e).life_count step.2.counts_are few in
          omega (arith, faults few, h.counted (omega (arith, rise, few)), rise);
    }

-- a driver that is seen alike keeps its part
pub same_kept : (d e : ScriptDriver) (blocks : List Block) → seen e ≡ seen d → e.lang ≡ d.lang → e.boot ≡ d.boot → e.closed ≡ d.closed → IsFedDriver blocks d → IsFedDriver blocks e
same_kept d e blocks same lang boot closed h =
    let notes : e.notes ≡ d.notes = ap (λ (s : Sight). s.notes) same in
    let lives : (interpreter_of e).lives ≡ (interpreter_of d).lives = ap (λ (s : InterpreterState). s.lives) (same_state d e same lang boot) in
    let counts : faults_counted e ≡ faults_counted d = ap (λ (s : Sight). s.hatch_count + s.life_count) same in
    record {
      open_is = closed ∙ h.open_is;
      none_earlier = ap length lives ∙ h.none_earlier ∙ sym (ap births notes);
      told = rw (lang, boot, notes, lives) h.told;
      counted = λ few. rw (notes, counts) (h.counted (omega (arith, few, counts)));
    }

-- a driver's part doesn't depend on what its pipe takes from now on
pub limit_fed : (d : ScriptDriver) (limit : Option ℕ) (blocks : List Block) → IsFedDriver blocks d → IsFedDriver blocks (record d { life = option_map (λ (c : ChildValue). record c { limit = limit }) d.life })
limit_fed d limit blocks h = by_life d.life h
  where
    by_life : (life : Option ChildValue) → IsFedDriver blocks (record d { life = life }) → IsFedDriver blocks (record d { life = option_map (λ (c : ChildValue). record c { limit = limit }) life })
    by_life None k = record { open_is = k.open_is; none_earlier = k.none_earlier; told = k.told; counted = k.counted }
    by_life (Some child) k = record { open_is = k.open_is; none_earlier = k.none_earlier; told = k.told; counted = k.counted }

pub next_limit_fed : (d : ScriptDriver) (limit : Option ℕ) (blocks : List Block) → IsFedDriver blocks d → IsFedDriver blocks (record d { hatch = record d.hatch { limit = limit } })
next_limit_fed d limit blocks k = record { open_is = k.open_is; none_earlier = k.none_earlier; told = k.told; counted = k.counted }

pub refusals_fed : (d : ScriptDriver) (starts : ℕ) (blocks : List Block) → IsFedDriver blocks d → IsFedDriver blocks (record d { hatch = record d.hatch { refusals = starts } })
refusals_fed d starts blocks k = record { open_is = k.open_is; none_earlier = k.none_earlier; told = k.told; counted = k.counted }

-- behind a block the next life isn't limited, unless it was and another stood
forgotten : (fate : BlockFate) (starts : Starts) → (starts_left fate starts).limit ≡ None
forgotten Whole starts = refl
forgotten (Cut n) starts = refl
forgotten (Boot n) starts = refl
forgotten Refused starts = refl

limit_behind_block : (p : Pipe) (boot size : ℕ) → IfSome p.life (λ _. p.starts.limit ≡ None) → (fed_pipe p boot size).starts.limit ≡ None
limit_behind_block p boot size free = by_life p.life free
  where
    by_life : (life : Option (Option ℕ)) → IfSome life (λ _. p.starts.limit ≡ None) → (fed_pipe (record { life = life; starts = p.starts }) boot size).starts.limit ≡ None
    by_life None k = forgotten (start_fate p.starts boot size) p.starts
    by_life (Some limit) k = k

pub fed_next : (d e : ScriptDriver) (wrapped : List ℕ) (place : ℕ) (fed : Fed) → FeedsTo d.boot wrapped place fed (seen d) (seen e) → e.lang ≡ d.lang → e.boot ≡ d.boot
    → IfSome d.life (λ _. d.hatch.limit ≡ None) → e.hatch.limit ≡ None
fed_next d e wrapped place fed step lang boot free =
    ap (λ (s : InterpreterState). s.pipe.starts.limit) (fed_state d e wrapped place fed step lang boot)
    ∙ limit_behind_block (interpreter_of d).pipe (length d.boot) (length wrapped) (by_life d.life free)
  where
    by_life : (life : Option ChildValue) → IfSome life (λ _. d.hatch.limit ≡ None) → IfSome (option_map (λ (c : ChildValue). c.limit) life) (λ _. d.hatch.limit ≡ None)
    by_life None k = tt
    by_life (Some child) k = k

-- ---- answers

pub ok_then : {T E P Q : Type 0} (r : Result T E) → (P → Q) → OnOk r P → OnOk r Q
ok_then (Ok x) f p = f p
ok_then (Err e) f p = tt

pub err_then : {T E P Q : Type 0} (r : Result T E) → (P → Q) → OnErr r P → OnErr r Q
err_then (Ok x) f p = tt
err_then (Err e) f p = f p

pub either_way : {T E P Q R : Type 0} (r : Result T E) → OnOk r P → OnErr r Q → (P → R) → (Q → R) → R
either_way (Ok x) p q f g = f p
either_way (Err e) p q f g = g q

pub ok_both : {T E P Q R : Type 0} (r : Result T E) → (P → Q → R) → OnOk r P → OnOk r Q → OnOk r R
ok_both (Ok x) f p q = f p q
ok_both (Err e) f p q = tt

pub if_ok_then : {T E : Type 0} {P Q : T → Type 0} (r : Result T E) → ((x : T) → P x → Q x) → IfOk r P → IfOk r Q
if_ok_then (Ok x) f p = f x p
if_ok_then (Err e) f p = tt
