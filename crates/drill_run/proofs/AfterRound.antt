-- What a round leaves: every performer awaits less, and behind three rounds each is drained.
use Rattle.std.proofs.Common.{◌≡◌, ℕ, zero, suc, ◌+◌, ◌-◌, ◌<◌, ◌≤◌, Option, None, Some, List, [], ◌∷◌, length, slice_get, refl, sym, ap, ◌∙◌, subst, ⊎_elim, arith}
use Rattle.std.specs.Prelude.{All, slice_index_or, Result, Ok, Err, OnOk}
use Rattle.std.proofs.lemmas.List.Elements.{All-nil, All-cons, All-weaker}
use Rattle.troop_entry.specs.declared.call.Call.{Call}
use Rattle.troop_entry.specs.declared.row.Row.{Row}
use Rattle.stage_state.specs.Machine.{taken_count}
use Rattle.stage_state.specs.Staged.{Staged, machine}
use Rattle.world_core.specs.Sound.{IsSoundPerformer, IsSoundWorld}
use Rattle.world_core.specs.States.{PerformerState, WorldState, performer_with}
use Rattle.world_core.specs.Steps.{next_entry, world_after}
use Rattle.drill_run.specs.declared.turn.Turn.{Turn}
use Rattle.drill_run.specs.declared.turn.Turn.TheVariants as turn
use Rattle.drill_run.specs.Draining.{IsDrained, after_round, after_rounds, drained, each_until_unfit, turn_step, turns_left, times_left}
use Rattle.drill_run.specs.OpenWorlds.{IsOpenWorld}
use Rattle.drill_run.specs.Script.{script_numbers}
use Rattle.drill_run.proofs.IsDrained.{awaited, awaits_less, awaits_two, is_drained, potential, serve_leaves, take_leaves}
use Rattle.drill_run.proofs.OpenWorld.{feed_keeps}
use Rattle.drill_run.proofs.Performers.{all_changed, all_three, found_keeps}
use Rattle.drill_run.proofs.TurnsLeft.{feed_log, turn_change, turned_or_not, turned_performers}
use Rattle.drill_run.proofs.UntilUnfit.{NoneCan, each_keeps, each_open, each_still, none_can}

-- what a turn keeps of each performer, its step keeps
pub turn_keeps : (P : PerformerState → Type 0) (t : Turn) → ((log : List Row) (p : PerformerState) → P p → P (turn_change t log p)) → (who : ℕ) (w : WorldState) → All P w.performers
    → All P (world_after (turn_step t who) w).performers
turn_keeps P t keeps who w all =
    ⊎_elim
    (λ done. subst (All P) (sym (turned_performers t who w done)) (all_changed P who (turn_change t w.log) w.performers (keeps w.log) all))
    (λ same. subst (λ (v : WorldState). All P v.performers) (sym same) all)
    (turned_or_not t who w)

-- each performer awaits at most so many operations
abbrev pub AwaitAtMost : ℕ → WorldState → Type 0
AwaitAtMost most w = All (λ p. awaited p ≤ most) w.performers

-- each performer awaits, and has to send, at most so many
abbrev pub HaveAtMost : ℕ → WorldState → Type 0
HaveAtMost most w = All (λ p. potential p ≤ most) w.performers

-- no performer awaits more than two
pub await_two : (w : WorldState) → AwaitAtMost 2 w
await_two w = by_list w.performers
  where
    by_list : (ps : List PerformerState) → All (λ p. awaited p ≤ 2) ps
    by_list [] = All-nil (λ p. awaited p ≤ 2)
    by_list (p ∷ ps) = All-cons (λ p. awaited p ≤ 2) p ps (awaits_two (machine p.staged).pending) (by_list ps)

serve_awaits : (most : ℕ) (w : WorldState) → IsOpenWorld w → AwaitAtMost most w → AwaitAtMost most (each_until_unfit turn.Serve script_numbers w)
serve_awaits most w h all =
    each_keeps (AwaitAtMost most) turn.Serve (λ who v g k. turn_keeps (λ p. awaited p ≤ most) turn.Serve (λ log p is. omega (arith, serve_leaves p, is)) who v k) script_numbers w h all

take_has : (most : ℕ) (w : WorldState) → IsOpenWorld w → HaveAtMost most w → HaveAtMost most (each_until_unfit turn.Take script_numbers w)
take_has most w h all =
    each_keeps (HaveAtMost most) turn.Take (λ who v g k. turn_keeps (λ p. potential p ≤ most) turn.Take (λ log p is. omega (arith, take_leaves (next_entry log (machine p.staged)) p, is)) who v k) script_numbers w h all

-- the performer of a number has nothing to send
none_to_send : (most who : ℕ) (w : WorldState) → AwaitAtMost most w → turns_left turn.Serve who w ≡ 0 → (p : PerformerState) → performer_with who w.performers ≡ Some p → potential p ≤ most
none_to_send most who w all none p found =
    let few = found_keeps (λ p. awaited p ≤ most) who w.performers p all found in
    let nothing : length (machine p.staged).outgoing ≡ 0 = sym (ap (times_left turn.Serve (length w.log)) found) ∙ none in
    omega (arith, few, nothing)

served_has : (most : ℕ) (w : WorldState) → IsOpenWorld w → AwaitAtMost most w → NoneCan turn.Serve w → HaveAtMost most w
served_has most w h all none =
    all_three (λ p. potential p ≤ most) w.performers h.numbers_are (none_to_send most 1 w all none.first) (none_to_send most 2 w all none.second) (none_to_send most 3 w all none.third)

none_to_take : (who : ℕ) (w : WorldState) → turns_left turn.Take who w ≡ 0 → (p : PerformerState) → performer_with who w.performers ≡ Some p → length w.log - taken_count (machine p.staged) ≡ 0
none_to_take who w none p found = sym (ap (times_left turn.Take (length w.log)) found) ∙ none

-- each performer has taken all
abbrev HaveTaken : WorldState → Type 0
HaveTaken w = All (λ p. length w.log - taken_count (machine p.staged) ≡ 0) w.performers

all_taken : (w : WorldState) → IsOpenWorld w → NoneCan turn.Take w → HaveTaken w
all_taken w h none =
    all_three (λ p. length w.log - taken_count (machine p.staged) ≡ 0) w.performers h.numbers_are (none_to_take 1 w none.first) (none_to_take 2 w none.second) (none_to_take 3 w none.third)

-- what holds behind a round, where each awaited at most so many before it
record IsRounded (most : ℕ) (w : WorldState) : Type 0 where
  open_is : IsOpenWorld w
  has : HaveAtMost most w
  taken : HaveTaken w

rounded : (most : ℕ) (w : WorldState) → IsOpenWorld w → AwaitAtMost most w → IsRounded most (after_round w)
rounded most w h all =
    let served : WorldState = each_until_unfit turn.Serve script_numbers w in
    let served_open = each_open turn.Serve script_numbers w h in
    let few = served_has most served served_open (serve_awaits most w h all) (none_can turn.Serve w h) in
    let open_is = each_open turn.Take script_numbers served served_open in
    record {
      open_is = open_is;
      has = take_has most served served_open few;
      taken = all_taken (after_round w) open_is (none_can turn.Take served served_open);
    }

-- the world stays open
pub round_open : (w : WorldState) → IsOpenWorld w → IsOpenWorld (after_round w)
round_open w h = each_open turn.Take script_numbers (each_until_unfit turn.Serve script_numbers w) (each_open turn.Serve script_numbers w h)

-- each performer of a sound world is sound
pub all_sound : (w : WorldState) → IsSoundWorld w → All (IsSoundPerformer w.log) w.performers
all_sound w sound = by_list w.performers sound.performers_are
  where
    by_list : (ps : List PerformerState) → ((i : ℕ) (p : PerformerState) → slice_get ps i ≡ Some p → IsSoundPerformer w.log p) → All (IsSoundPerformer w.log) ps
    by_list [] each = All-nil (IsSoundPerformer w.log)
    by_list (p ∷ ps) each = All-cons (IsSoundPerformer w.log) p ps (each 0 p refl) (by_list ps (λ i q is. each (suc i) q is))

-- behind a round each performer awaits one operation less
pub round_awaits : (most : ℕ) (w : WorldState) → IsOpenWorld w → AwaitAtMost most w → IsSoundWorld (after_round w) → AwaitAtMost (most - 1) (after_round w)
round_awaits most w h all sound =
    let r = rounded most w h all in
    let each = all_sound (after_round w) sound in
    λ k d inside. awaits_less (after_round w).log most (slice_index_or (after_round w).performers k d) (each k d inside) (r.has k d inside) (r.taken k d inside)

-- and where nobody awaited any, each is drained
pub round_drains : (w : WorldState) → IsOpenWorld w → AwaitAtMost 0 w → IsSoundWorld (after_round w) → All (IsDrained (length (after_round w).log)) (after_round w).performers
round_drains w h all sound =
    let r = rounded 0 w h all in
    let each = all_sound (after_round w) sound in
    λ k d inside. is_drained (after_round w).log (slice_index_or (after_round w).performers k d) (each k d inside) (r.has k d inside) (r.taken k d inside)

-- ---- the feeds at the end

fed_drained : (n : ℕ) (log : List Row) (p : PerformerState) → IsDrained n p → IsDrained n (turn_change turn.Feed log p)
fed_drained n log p h =
    let same = feed_keeps p.waiting None p in
    record {
      taken_all = ap (λ (s : Staged). taken_count (machine s)) same ∙ h.taken_all;
      awaits_nothing = ap (λ (s : Staged). (machine s).pending) same ∙ h.awaits_nothing;
      nothing_to_go = ap (λ (s : Staged). (machine s).outgoing) same ∙ h.nothing_to_go;
    }

-- leave all drained
pub feeds_drained : (w : WorldState) → IsOpenWorld w → All (IsDrained (length w.log)) w.performers
    → All (IsDrained (length (each_until_unfit turn.Feed script_numbers w).log)) (each_until_unfit turn.Feed script_numbers w).performers
feeds_drained w h all =
    each_keeps (λ v. All (IsDrained (length v.log)) v.performers) turn.Feed
    (λ who v g k. subst (λ (rows : List Row). All (IsDrained (length rows)) (world_after (turn_step turn.Feed who) v).performers) (sym (feed_log who None v)) (turn_keeps (IsDrained (length v.log)) turn.Feed (fed_drained (length v.log)) who v k))
    script_numbers w h all

-- ---- several rounds

-- no round
pub no_round : (w : WorldState) → after_rounds 0 w ≡ w
unfolding after_rounds
no_round w = refl

-- the first of them
pub first_round : (n k : ℕ) (w : WorldState) → n ≡ suc k → after_rounds n w ≡ after_rounds k (after_round w)
unfolding after_rounds
first_round n k w is = ap (λ m. after_rounds m w) is

-- what stands behind n of three rounds, the first of which began with this world: the others lead where all do; nobody awaits more than was awaited
-- at the beginning, which is two, less one for each round; and behind the last one all are drained
abbrev pub StandsAfter : ℕ → WorldState → WorldState → Type 0
StandsAfter n first w = (after_rounds (3 - n) w ≡ after_rounds 3 first) × IsOpenWorld w × AwaitAtMost (2 - n) w × (n ≡ 3 → All (IsDrained (length w.log)) w.performers)

-- one round more
pub stands_next : (n : ℕ) (first w v : WorldState) → n < 3 → StandsAfter n first w → v ≡ after_round w → IsSoundWorld v → StandsAfter (n + 1) first v
stands_next n first w v below h is sound =
    let sound_is = subst IsSoundWorld is sound in (
      ap (after_rounds (3 - (n + 1))) is ∙ sym (first_round (3 - n) (3 - (n + 1)) w (omega arith)) ∙ h.0,
      subst IsOpenWorld (sym is) (round_open w h.1),
      subst (AwaitAtMost (2 - (n + 1))) (sym is) (let less : 2 - n - 1 ≡ 2 - (n + 1) = omega arith in subst (λ k. AwaitAtMost k (after_round w)) less (round_awaits (2 - n) w h.1 h.2 sound_is)),
      λ last. subst (λ (u : WorldState). All (IsDrained (length u.log)) u.performers) (sym is)
          (let none : 2 - n ≡ 0 = omega (arith, last) in round_drains w h.1 (subst (λ k. AwaitAtMost k w) none h.2) sound_is),
    )

-- at the beginning
pub stands_first : (w : WorldState) → IsOpenWorld w → StandsAfter 0 w w
stands_first w h = (refl, h, await_two w, λ last. absurd (omega (arith, last)))

-- behind the last round, and the feeds
pub last_leads : {E : Type 0} (r : Result (Unit {0}) E) (n : ℕ) (first w v : WorldState) → 3 ≤ n → n ≤ 3 → StandsAfter n first w → OnOk r (v ≡ each_until_unfit turn.Feed script_numbers w) → OnOk r (v ≡ drained first)
last_leads (Ok done) n first w v many few h is =
    let all : 3 - n ≡ 0 = omega (arith, many) in
    is ∙ ap (each_until_unfit turn.Feed script_numbers) (sym (no_round w) ∙ ap (λ k. after_rounds k w) (sym all) ∙ h.0)
last_leads (Err e) n first w v many few h is = tt

pub last_drained : {E : Type 0} (r : Result (Unit {0}) E) (n : ℕ) (first w v : WorldState) → 3 ≤ n → n ≤ 3 → StandsAfter n first w → OnOk r (v ≡ each_until_unfit turn.Feed script_numbers w) → OnOk r (All (IsDrained (length v.log)) v.performers)
last_drained (Ok done) n first w v many few h is =
    subst (λ (u : WorldState). All (IsDrained (length u.log)) u.performers) (sym is) (feeds_drained w h.1 (h.3 (omega (arith, many, few))))
last_drained (Err e) n first w v many few h is = tt

-- the drained world is open
pub drained_open : (w : WorldState) → IsOpenWorld w → IsOpenWorld (drained w)
drained_open w h = each_open turn.Feed script_numbers (after_rounds 3 w) (by_count 3 w h)
  where
    by_count : (n : ℕ) (v : WorldState) → IsOpenWorld v → IsOpenWorld (after_rounds n v)
    by_count zero v g = subst IsOpenWorld (sym (no_round v)) g
    by_count (suc n) v g = subst IsOpenWorld (sym (first_round (suc n) n v refl)) (by_count n (after_round v) (round_open v g))

-- ---- a further round

none_left : (t : Turn) (n who : ℕ) (ps : List PerformerState) → ((p : PerformerState) → IsDrained n p → times_left t n (Some p) ≡ 0) → (times_left t n None ≡ 0) → All (IsDrained n) ps → times_left t n (performer_with who ps) ≡ 0
none_left t n who ps some none all = by_found (performer_with who ps) refl
  where
    by_found : (o : Option PerformerState) → performer_with who ps ≡ o → times_left t n o ≡ 0
    by_found None is = none
    by_found (Some p) is = some p (found_keeps (IsDrained n) who ps p all is)

-- leaves a drained world as it is
pub further_round : (w : WorldState) → All (IsDrained (length w.log)) w.performers → after_round w ≡ w
further_round w all =
    ap (each_until_unfit turn.Take script_numbers)
    (each_still turn.Serve script_numbers w (λ who. none_left turn.Serve (length w.log) who w.performers (λ p h. ap (λ (cs : List Call). length cs) h.nothing_to_go) refl all))
    ∙ each_still turn.Take script_numbers w (λ who. none_left turn.Take (length w.log) who w.performers (λ p h. omega (arith, h.taken_all)) refl all)
