-- The script's next step, by what was drawn for it.
use Rattle.std.proofs.Common.{◌≡◌, ◌≢◌, ℕ, zero, suc, ◌+◌, ◌-◌, ◌<◌, ◌≤◌, Bool, true, false, if◌then◌else◌, Option, Some, None, List, [], ◌∷◌, length, map, take, get_or, slice_get, nat_lt, refl, sym, ap, ◌∙◌, subst, arith}
use Rattle.std.specs.Prelude.{◌==◌, codes, Result, Ok, Err, OnOk}
use Rattle.std.proofs.lemmas.Bool.Decides.{nat_tests}
use Rattle.std.proofs.lemmas.List.{length-map, take_all}
use Rattle.troop_entry.specs.declared.call.Lang.TheVariants as lang
use Rattle.stage_state.specs.Machine.{held_text}
use Rattle.stage_state.specs.Staged.{machine}
use Rattle.wire_json.specs.declared.steps.Step.{Step}
use Rattle.world_core.specs.declared.performer.Performer.{Performer}
use Rattle.world_core.specs.States.{PerformerState, WorldState, performer_with}
use Rattle.world_core.specs.Values.{performer_state}
use Rattle.draws.specs.Numbers.{drawn_below, number_after_draw}
use Rattle.drill_run.specs.declared.kind.Kind.{Kind}
use Rattle.drill_run.proofs.Performers.{here_is, passed_over}
use Rattle.drill_run.specs.Script.{DrawnStep, IsScripted, drawn_line, held_length, join_behind, kind_of, length_held, numbers_of, script_join, script_line, script_numbers, step_drawn, who_drawn}

-- ---- joins

-- behind two or more the third joins
pub third_joins : (n : ℕ) → n ≢ 0 → n ≢ 1 → join_behind n ≡ script_join (codes "p3") lang.Lines
third_joins zero first second = absurd (first refl)
third_joins (suc zero) first second = absurd (second refl)
third_joins (suc (suc n)) first second = refl

-- while fewer than three are here, the next one joins
pub join_next : (w : WorldState) (number n : ℕ) → n ≡ length w.performers → n < 3 → script_line w number ≡ record { step = join_behind n; number = number }
unfolding script_line
join_next w number n is few =
    let test : nat_lt n 3 ≡ true = grind (arith, nat_tests) in
    let next_join : DrawnStep = record { step = join_behind (length w.performers); number = number } in
    ap (λ b. if b then next_join else drawn_line w number) (ap (λ k. nat_lt k 3) (sym is) ∙ test)
    ∙ ap (λ k. record { step = join_behind k; number = number }) (sym is)

-- else all three are here
pub all_here : (w : WorldState) → IsScripted w → 3 ≤ length w.performers → numbers_of w ≡ script_numbers
all_here w is many = is ∙ take_all (length w.performers) script_numbers many

-- and a step is drawn
pub drawn_next : (w : WorldState) (number n : ℕ) → n ≡ length w.performers → 3 ≤ n → script_line w number ≡ drawn_line w number
unfolding script_line
drawn_next w number n is many =
    let test : nat_lt n 3 ≡ false = grind (arith, nat_tests) in
    let next_join : DrawnStep = record { step = join_behind (length w.performers); number = number } in
    ap (λ b. if b then next_join else drawn_line w number) (ap (λ k. nat_lt k 3) (sym is) ∙ test)

-- as many states as performers
pub as_many : (ps : List Performer) → length (map performer_state ps) ≡ length ps
as_many ps = length-map ps performer_state

-- ---- a drawn step

-- what is drawn behind the kind and the performer
pub drawn_as : (w : WorldState) (number kind_number first second who : ℕ) (k : Kind) → kind_number ≡ drawn_below 13 number → first ≡ number_after_draw number → who ≡ drawn_below 3 first → second ≡ number_after_draw first
    → k ≡ kind_of kind_number → drawn_line w number ≡ step_drawn k (who + 1) (held_length (who + 1) w) second
unfolding drawn_line
drawn_as w number kind_number first second who k n f is s kind_is =
    let who_is : who_drawn number ≡ who + 1 = ap (λ m. drawn_below 3 m + 1) (sym f) ∙ ap (λ m. m + 1) (sym is) in
    ap (λ m. step_drawn (kind_of m) (who_drawn number) (held_length (who_drawn number) w) (number_after_draw (number_after_draw number))) (sym n)
    ∙ ap (λ x. step_drawn x (who_drawn number) (held_length (who_drawn number) w) (number_after_draw (number_after_draw number))) (sym kind_is)
    ∙ ap (λ m. step_drawn k m (held_length m w) (number_after_draw (number_after_draw number))) who_is
    ∙ ap (step_drawn k (who + 1) (held_length (who + 1) w)) (ap number_after_draw (sym f) ∙ sym s)

-- 0 was drawn, or not
pub is_zero : (n : ℕ) → n ≡ 0 → (n == 0) ≡ true
is_zero n e = grind (arith, nat_tests)

pub is_other : (n : ℕ) → n ≢ 0 → (n == 0) ≡ false
is_other n e = grind (arith, nat_tests)

-- ---- the performer of a number

at_number : (ps : List Performer) (who i : ℕ) (p : Performer) → map (λ (q : PerformerState). q.staged.own) (map performer_state ps) ≡ 1 ∷ 2 ∷ 3 ∷ [] → who ≡ suc i → i < 3 → p ≡ get_or ps i p
    → performer_with who (map performer_state ps) ≡ Some (performer_state p)
at_number [] who i p is number inside read = absurd (cc)
at_number (a ∷ []) who i p is number inside read = absurd (cc)
at_number (a ∷ b ∷ []) who i p is number inside read = absurd (cc)
at_number (a ∷ b ∷ c ∷ d ∷ ps) who i p is number inside read = absurd (cc)
at_number (a ∷ b ∷ c ∷ []) who zero p is number inside read =
    let first : a.stage.staged.own ≡ 1 = cc in
    here_is who (performer_state a) (performer_state b ∷ performer_state c ∷ []) (omega (arith, first, number)) ∙ ap (λ q. Some (performer_state q)) (sym read)
at_number (a ∷ b ∷ c ∷ []) who (suc zero) p is number inside read =
    let first : a.stage.staged.own ≡ 1 = cc in
    let second : b.stage.staged.own ≡ 2 = cc in
    passed_over who (performer_state a) (performer_state b ∷ performer_state c ∷ []) (λ e. omega (arith, e, first, number))
    ∙ here_is who (performer_state b) (performer_state c ∷ []) (omega (arith, second, number))
    ∙ ap (λ q. Some (performer_state q)) (sym read)
at_number (a ∷ b ∷ c ∷ []) who (suc (suc zero)) p is number inside read =
    let first : a.stage.staged.own ≡ 1 = cc in
    let second : b.stage.staged.own ≡ 2 = cc in
    let third : c.stage.staged.own ≡ 3 = cc in
    passed_over who (performer_state a) (performer_state b ∷ performer_state c ∷ []) (λ e. omega (arith, e, first, number))
    ∙ passed_over who (performer_state b) (performer_state c ∷ []) (λ e. omega (arith, e, second, number))
    ∙ here_is who (performer_state c) [] (omega (arith, third, number))
    ∙ ap (λ q. Some (performer_state q)) (sym read)
at_number (a ∷ b ∷ c ∷ []) who (suc (suc (suc i))) p is number inside read = absurd (omega (arith, inside))

-- how many characters it holds
pub held_by : (ps : List Performer) (who i : ℕ) (p : Performer) → map (λ (q : PerformerState). q.staged.own) (map performer_state ps) ≡ script_numbers → who ≡ suc i → i < 3 → p ≡ get_or ps i p
    → length_held (performer_with who (map performer_state ps)) ≡ length (held_text (machine p.stage.staged))
held_by ps who i p is number inside read = ap length_held (at_number ps who i p is number inside read)

-- what holds anyway holds of an `Ok`
pub on_ok : {T E P : Type 0} (r : Result T E) → P → OnOk r P
on_ok (Ok x) p = p
on_ok (Err e) p = tt
