-- A drill line by line: first the joins, and then drawn steps.
use Rattle.std.proofs.Common.{◌≡◌, ℕ, zero, suc, ◌+◌, ◌<◌, ◌≤◌, Bool, true, false, if◌then◌else◌, Option, List, [], ◌∷◌, length, map, take, refl, sym, ap, ◌∙◌, subst, nat_lt, nat_eq, arith}
use Rattle.std.specs.Prelude.{All, ◌==◌, ◌-◌, codes, None}
use Rattle.std.specs.Str.{encode_utf8_all}
use Rattle.std.proofs.lemmas.List.Elements.{All-nil, All-cons}
use Rattle.std.proofs.lemmas.List.{length-map}
use Rattle.troop_entry.specs.declared.call.Call.TheVariants as call
use Rattle.troop_entry.specs.declared.call.Lang.{Lang}
use Rattle.troop_entry.specs.declared.call.Lang.TheVariants as lang
use Rattle.troop_entry.specs.declared.row.Row.{Row}
use Rattle.stage_state.specs.Staged.{machine, new_stage}
use Rattle.wire_json.specs.declared.steps.Step.{Step}
use Rattle.world_core.specs.declared.told.Told.{Told}
use Rattle.world_core.specs.declared.told.Told.TheVariants as told
use Rattle.world_core.specs.States.{PerformerState, WorldState}
use Rattle.world_core.specs.Steps.{new_interpreter, told_of, world_after}
use Rattle.drill_run.specs.declared.kind.Kind.{Kind}
use Rattle.drill_run.specs.declared.kind.Kind.TheVariants as kind
use Rattle.draws.specs.Numbers.{drawn_below, number_after_draw}
use Rattle.drill_run.specs.Drilling.{DrillState, after_drawn, after_lines, new_drill, unfit_count}
use Rattle.drill_run.specs.OpenWorlds.{IsNoLeave, IsOpen, IsOpenWorld}
use Rattle.drill_run.specs.Script.{DrawnStep, IsScripted, drawn_line, feed_by, held_length, join_behind, kind_of, numbers_of, reset_by, script_line, script_numbers, step_drawn, who_drawn}
use Rattle.drill_run.proofs.OpenWorld.{IsDrillStep, IsOpenPerformer, world_open}

-- a drill after the script's next step
abbrev pub next_drill : DrillState → DrillState
next_drill d = after_drawn (script_line d.world d.number) d

-- no step
pub none_after : (d : DrillState) → after_lines 0 d ≡ d
unfolding after_lines
none_after d = refl

-- one step more, behind the others
pub one_after : (n : ℕ) (d : DrillState) → after_lines (suc n) d ≡ next_drill (after_lines n d)
unfolding after_lines
one_after zero d = refl
one_after (suc n) d = one_after n (next_drill d)

-- ---- the joins

-- the performers are the first of the three
pub joined_scripted : (seed n : ℕ) → n < 3 → IsScripted (after_lines n (new_drill seed)).world
unfolding after_lines script_line
joined_scripted seed zero below = refl
joined_scripted seed (suc zero) below = refl
joined_scripted seed (suc (suc zero)) below = refl
joined_scripted seed (suc (suc (suc n))) below = absurd (omega (arith, below))

-- the row and the performer that a join makes
join_row : ℕ → List ℕ → Lang → Row
join_row who name language = record { who = who; num = 0; seat = 0; call = call.Join name language; op = None }

join_performer : ℕ → List ℕ → Lang → PerformerState
join_performer who name language = record {
  name = name;
  staged = new_stage who (who - 1);
  waiting = [];
  interpreter = new_interpreter language (encode_utf8_all (codes "boot\n"));
}

joined : WorldState
joined = record {
  log = join_row 1 (codes "p1") lang.Ghci ∷ join_row 2 (codes "p2") lang.Ghci ∷ join_row 3 (codes "p3") lang.Lines ∷ [];
  performers = join_performer 1 (codes "p1") lang.Ghci ∷ join_performer 2 (codes "p2") lang.Ghci ∷ join_performer 3 (codes "p3") lang.Lines ∷ [];
}

joined_is : (seed : ℕ) → (after_lines 3 (new_drill seed)).world ≡ joined
unfolding after_lines script_line joined join_row join_performer
joined_is seed = refl

new_open : (who : ℕ) (name : List ℕ) (language : Lang) → IsOpenPerformer (join_performer who name language)
unfolding join_performer
new_open who name language = record { not_finishing = refl; not_halted = refl; not_gone = refl; no_leaves = All-nil IsNoLeave }

abbrev StaysPut : Row → Type 0
StaysPut row = IsNoLeave row.call

join_stays : (who : ℕ) (name : List ℕ) (language : Lang) → StaysPut (join_row who name language)
unfolding join_row
join_stays who name language = refl

three_all : {A : Type 0} (P : A → Type 0) (x y z : A) → P x → P y → P z → All P (x ∷ y ∷ z ∷ [])
three_all P x y z a b c = All-cons P x (y ∷ z ∷ []) a (All-cons P y (z ∷ []) b (All-cons P z [] c (All-nil P)))

joined_is_open : IsOpenWorld joined
unfolding joined join_row join_performer
joined_is_open = record {
  numbers_are = refl;
  open_are = three_all IsOpenPerformer (join_performer 1 (codes "p1") lang.Ghci) (join_performer 2 (codes "p2") lang.Ghci) (join_performer 3 (codes "p3") lang.Lines) (new_open 1 (codes "p1") lang.Ghci) (new_open 2 (codes "p2") lang.Ghci) (new_open 3 (codes "p3") lang.Lines);
  rows_stay = three_all StaysPut (join_row 1 (codes "p1") lang.Ghci) (join_row 2 (codes "p2") lang.Ghci) (join_row 3 (codes "p3") lang.Lines) (join_stays 1 (codes "p1") lang.Ghci) (join_stays 2 (codes "p2") lang.Ghci) (join_stays 3 (codes "p3") lang.Lines);
}

-- all three are here, and open
pub joined_open : (seed : ℕ) → IsOpenWorld (after_lines 3 (new_drill seed)).world
joined_open seed = subst IsOpenWorld (sym (joined_is seed)) joined_is_open

-- none of them was unfit
pub joined_unfit : (seed : ℕ) → (after_lines 3 (new_drill seed)).unfit ≡ 0
unfolding after_lines script_line
joined_unfit seed = refl

-- ---- drawn steps

-- an open world has its three performers
pub three_here : (w : WorldState) → numbers_of w ≡ script_numbers → length w.performers ≡ 3
three_here w is = sym (length-map w.performers (λ (p : PerformerState). p.staged.own)) ∙ ap (λ (ns : List ℕ). length ns) is

-- so they are the first of the three
pub open_scripted : (w : WorldState) → IsOpenWorld w → IsScripted w
open_scripted w h = h.numbers_are ∙ sym (ap (λ n. take n script_numbers) (three_here w h.numbers_are))

-- and a step is drawn
pub line_drawn : (w : WorldState) (number : ℕ) → length w.performers ≡ 3 → script_line w number ≡ drawn_line w number
unfolding script_line
line_drawn w number is =
    let next_join : DrawnStep = record { step = join_behind (length w.performers); number = number } in
    ap (λ b. if b then next_join else drawn_line w number) (ap (λ n. nat_lt n 3) is)

feed_drills : (b : Bool) (who number : ℕ) → IsDrillStep (feed_by b who number).step
feed_drills true who number = tt
feed_drills false who number = tt

reset_drills : (b : Bool) (who : ℕ) → IsDrillStep (reset_by b who)
reset_drills true who = tt
reset_drills false who = tt

kind_drills : (k : Kind) (who n number : ℕ) → IsDrillStep (step_drawn k who n number).step
kind_drills kind.Edit who n number = tt
kind_drills kind.Serve who n number = tt
kind_drills kind.Take who n number = tt
kind_drills kind.Eval who n number = tt
kind_drills kind.Feed who n number = feed_drills (drawn_below 4 number == 0) who (number_after_draw number)
kind_drills kind.ResetOrFeed who n number = reset_drills (drawn_below 8 number == 0) who

drawn_drills : (w : WorldState) (number : ℕ) → IsDrillStep (drawn_line w number).step
unfolding drawn_line
drawn_drills w number = kind_drills (kind_of (drawn_below 13 number)) (who_drawn number) (held_length (who_drawn number) w) (number_after_draw (number_after_draw number))

-- a drawn step leaves the world open
pub line_open : (w : WorldState) (number : ℕ) → IsOpenWorld w → IsOpenWorld (world_after (script_line w number).step w)
line_open w number h =
    world_open (script_line w number).step w (subst (λ (line : DrawnStep). IsDrillStep line.step) (sym (line_drawn w number (three_here w h.numbers_are))) (drawn_drills w number)) h

-- ---- a step that was taken

-- from one drill to the next, by what the step was told and what it left
step_taken : (d : DrillState) (w : WorldState) (number unfit : ℕ) (t : Told) → t ≡ told_of (script_line d.world d.number).step d.world → w ≡ world_after (script_line d.world d.number).step d.world
    → number ≡ (script_line d.world d.number).number → unfit ≡ d.unfit + unfit_count t → record { world = w; number = number; unfit = unfit } ≡ next_drill d
step_taken d w number unfit t told_is world_is number_is unfit_is = rw (world_is, number_is, unfit_is, told_is) refl

one_more : (n : ℕ) (d : DrillState) → after_lines (n + 1) d ≡ next_drill (after_lines n d)
one_more n d = let is : n + 1 ≡ suc n = omega arith in ap (λ k. after_lines k d) is ∙ one_after n d

-- the world and the number behind one join more
pub join_taken : (d : DrillState) (n number later : ℕ) (w v : WorldState) → w ≡ (after_lines n d).world → number ≡ (after_lines n d).number → v ≡ world_after (script_line w number).step w → later ≡ (script_line w number).number
    → (v ≡ (after_lines (n + 1) d).world) × (later ≡ (after_lines (n + 1) d).number)
join_taken d n number later w v world_is number_is after later_is =
    let more = one_more n d in
    let line : script_line w number ≡ script_line (after_lines n d).world (after_lines n d).number = ap (λ u. script_line u number) world_is ∙ ap (script_line (after_lines n d).world) number_is in (
      after ∙ ap (λ (l : DrawnStep). world_after l.step w) line ∙ ap (world_after (script_line (after_lines n d).world (after_lines n d).number).step) world_is ∙ sym (ap (λ (e : DrillState). e.world) more),
      later_is ∙ ap (λ (l : DrawnStep). l.number) line ∙ sym (ap (λ (e : DrillState). e.number) more),
    )

-- behind three joins nothing was drawn yet, and nothing unfit
pub joins_done : (seed n number : ℕ) (w : WorldState) → 3 ≤ n → n ≤ 3 → w ≡ (after_lines n (new_drill seed)).world → number ≡ (after_lines n (new_drill seed)).number
    → record { world = w; number = number; unfit = 0 } ≡ after_lines 0 (after_lines 3 (new_drill seed))
joins_done seed n number w many few world_is number_is =
    let three : n ≡ 3 = omega (arith, many, few) in
    let d : DrillState = after_lines 3 (new_drill seed) in
    let world_three : w ≡ d.world = world_is ∙ ap (λ k. (after_lines k (new_drill seed)).world) three in
    let number_three : number ≡ d.number = number_is ∙ ap (λ k. (after_lines k (new_drill seed)).number) three in
    ap (λ u. record { world = u; number = number; unfit = 0 }) world_three
    ∙ ap (λ k. record { world = d.world; number = k; unfit = 0 }) number_three
    ∙ ap (λ k. record { world = d.world; number = d.number; unfit = k }) (sym (joined_unfit seed))
    ∙ sym (none_after d)

unfit_none : (t : Told) → (t ≡ told.Unfit → ⊥) → unfit_count t ≡ 0
unfit_none told.Done other = refl
unfit_none told.Unfit other = absurd (other refl)
unfit_none (told.Refused r) other = refl
unfit_none (told.Base want got) other = refl
unfit_none (told.Blank place) other = refl
unfit_none told.Show other = refl

-- what stands behind n drawn steps
pub record HasDrawn (first : DrillState) (n number unfit : ℕ) (w : WorldState) : Type 0 where
  pub drill_is : record { world = w; number = number; unfit = unfit } ≡ after_lines n first
  pub open_is : IsOpenWorld w
  pub few : unfit ≤ n

module _ (first : DrillState) (n number unfit later : ℕ) (w v : WorldState) (t : Told) (h : HasDrawn first n number unfit w) (told_is : t ≡ told_of (script_line w number).step w) (after : v ≡ world_after (script_line w number).step w)
    (later_is : later ≡ (script_line w number).number) where
  goes_on : (counted : ℕ) → counted ≡ unfit + unfit_count t → counted ≤ n + 1 → HasDrawn first (n + 1) later counted v
  goes_on counted counted_is within = record {
    drill_is = step_taken (record { world = w; number = number; unfit = unfit }) v later counted t told_is after later_is counted_is ∙ ap next_drill h.drill_is ∙ sym (one_more n first);
    open_is = subst IsOpenWorld (sym after) (line_open w number h.open_is);
    few = within;
  }

  -- behind one more that was unfit
  pub unfit_drawn : (counted : ℕ) → t ≡ told.Unfit → counted ≡ unfit + 1 → HasDrawn first (n + 1) later counted v
  unfit_drawn counted is counted_is = goes_on counted (counted_is ∙ sym (ap (λ u. unfit + unfit_count u) is)) (omega (arith, h.few, counted_is))

  -- behind one more that wasn't
  pub other_drawn : (counted : ℕ) → (t ≡ told.Unfit → ⊥) → counted ≡ unfit → HasDrawn first (n + 1) later counted v
  other_drawn counted other counted_is = goes_on counted (omega (arith, counted_is, unfit_none t other)) (omega (arith, h.few, counted_is))

-- behind the last one
pub all_drawn : (first : DrillState) (n steps number unfit : ℕ) (w : WorldState) → HasDrawn first n number unfit w → steps ≤ n → n ≤ steps → (w ≡ (after_lines steps first).world) × (unfit ≡ (after_lines steps first).unfit)
all_drawn first n steps number unfit w h many few =
    let all : n ≡ steps = omega (arith, many, few) in
    let is = h.drill_is ∙ ap (λ k. after_lines k first) all in
    (ap (λ (e : DrillState). e.world) is, ap (λ (e : DrillState). e.unfit) is)
