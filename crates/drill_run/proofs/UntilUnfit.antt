-- Performers who take their step until it is unfit.
use Rattle.std.proofs.Common.{◌≡◌, ◌≢◌, ℕ, zero, suc, ◌+◌, ◌<◌, ◌≤◌, List, [], ◌∷◌, length, drop, get_or, refl, sym, ap, ◌∙◌, subst, ⊎_elim, arith}
use Rattle.std.proofs.lemmas.List.{at_drop_more, at_drop_all}
use Rattle.wire_json.specs.declared.steps.Step.{Step}
use Rattle.world_core.specs.declared.told.Told.{Told}
use Rattle.world_core.specs.declared.told.Told.TheVariants as told
use Rattle.world_core.specs.States.{WorldState}
use Rattle.world_core.specs.Steps.{is_done, told_of, world_after}
use Rattle.world_core.proofs.WorldAfter.{unmoved}
use Rattle.drill_run.specs.declared.turn.Turn.{Turn}
use Rattle.drill_run.specs.Draining.{each_until_unfit, repeated, turn_step, turns_left, until_unfit}
use Rattle.drill_run.specs.OpenWorlds.{IsOpenWorld}
use Rattle.drill_run.proofs.OpenWorld.{IsDrillStep, world_open}
use Rattle.drill_run.proofs.TurnsLeft.{CanTurn, CannotTurn, other_turns, turn_cases, turn_drills}

repeated_none : (s : Step) (w : WorldState) → repeated 0 s w ≡ w
unfolding repeated
repeated_none s w = refl

repeated_more : (n : ℕ) (s : Step) (w : WorldState) → repeated (suc n) s w ≡ repeated n s (world_after s w)
unfolding repeated
repeated_more n s w = refl

-- ---- one performer

-- a step that is done comes first
pub until_done : (t : Turn) (who : ℕ) (w : WorldState) → CanTurn t who w → until_unfit t who w ≡ until_unfit t who (world_after (turn_step t who) w)
until_done t who w can =
    ap (λ n. repeated n (turn_step t who) w) can.one_less ∙ repeated_more (turns_left t who (world_after (turn_step t who) w)) (turn_step t who) w

-- one that is unfit is the end
pub until_none : (t : Turn) (who : ℕ) (w : WorldState) → CannotTurn t who w → until_unfit t who w ≡ w
until_none t who w cannot = ap (λ n. repeated n (turn_step t who) w) cannot.none_left ∙ repeated_none (turn_step t who) w

-- where none is left, the end is here
pub until_still : (t : Turn) (who : ℕ) (w : WorldState) → turns_left t who w ≡ 0 → until_unfit t who w ≡ w
until_still t who w none = ap (λ n. repeated n (turn_step t who) w) none ∙ repeated_none (turn_step t who) w

-- what every step keeps, all of them keep
pub until_keeps : (K : WorldState → Type 0) (t : Turn) (who : ℕ) → ((v : WorldState) → IsOpenWorld v → K v → K (world_after (turn_step t who) v)) → (w : WorldState) → IsOpenWorld w → K w → K (until_unfit t who w)
until_keeps K t who keeps w h k = by_count (turns_left t who w) w h k
  where
    by_count : (n : ℕ) (v : WorldState) → IsOpenWorld v → K v → K (repeated n (turn_step t who) v)
    by_count zero v h k = subst K (sym (repeated_none (turn_step t who) v)) k
    by_count (suc n) v h k =
        subst K (sym (repeated_more n (turn_step t who) v)) (by_count n (world_after (turn_step t who) v) (world_open (turn_step t who) v (turn_drills t who) h) (keeps v h k))

-- the world stays open
pub until_open : (t : Turn) (who : ℕ) (w : WorldState) → IsOpenWorld w → IsOpenWorld (until_unfit t who w)
until_open t who w h = until_keeps IsOpenWorld t who (λ v g k. world_open (turn_step t who) v (turn_drills t who) g) w h h

-- and then the step is unfit
pub until_unfit_then : (t : Turn) (who : ℕ) (w : WorldState) → IsOpenWorld w → CannotTurn t who (until_unfit t who w)
until_unfit_then t who w h = by_count (turns_left t who w) w refl h
  where
    by_count : (n : ℕ) (v : WorldState) → turns_left t who v ≡ n → IsOpenWorld v → CannotTurn t who (repeated n (turn_step t who) v)
    by_count zero v is h =
        subst (CannotTurn t who) (sym (repeated_none (turn_step t who) v))
        (⊎_elim (λ can. absurd (omega (arith, can.one_less, is))) (λ cannot. cannot) (turn_cases t who v h))
    by_count (suc n) v is h =
        subst (CannotTurn t who) (sym (repeated_more n (turn_step t who) v))
        (⊎_elim
        (λ can. by_count n (world_after (turn_step t who) v) (omega (arith, can.one_less, is)) (world_open (turn_step t who) v (turn_drills t who) h))
        (λ cannot. absurd (omega (arith, cannot.none_left, is)))
        (turn_cases t who v h))

-- any other performer can take its step as often as before
pub until_other : (t : Turn) (who j : ℕ) (w : WorldState) → IsOpenWorld w → j ≢ who → turns_left t j (until_unfit t who w) ≡ turns_left t j w
until_other t who j w h other = until_keeps (λ v. turns_left t j v ≡ turns_left t j w) t who (λ v g k. other_turns t who j v other ∙ k) w h refl

-- ---- one after the other

each_none : (t : Turn) (w : WorldState) → each_until_unfit t [] w ≡ w
unfolding each_until_unfit
each_none t w = refl

pub each_more : (t : Turn) (who : ℕ) (others : List ℕ) (w : WorldState) → each_until_unfit t (who ∷ others) w ≡ each_until_unfit t others (until_unfit t who w)
unfolding each_until_unfit
each_more t who others w = refl

-- what every step keeps, all of them keep
pub each_keeps : (K : WorldState → Type 0) (t : Turn) → ((who : ℕ) (v : WorldState) → IsOpenWorld v → K v → K (world_after (turn_step t who) v)) → (whos : List ℕ) (w : WorldState) → IsOpenWorld w → K w
    → K (each_until_unfit t whos w)
each_keeps K t keeps [] w h k = subst K (sym (each_none t w)) k
each_keeps K t keeps (who ∷ others) w h k =
    subst K (sym (each_more t who others w)) (each_keeps K t keeps others (until_unfit t who w) (until_open t who w h) (until_keeps K t who (keeps who) w h k))

-- where none of them has one left, the end is here
pub each_still : (t : Turn) (whos : List ℕ) (w : WorldState) → ((who : ℕ) → turns_left t who w ≡ 0) → each_until_unfit t whos w ≡ w
each_still t [] w none = each_none t w
each_still t (who ∷ others) w none = each_more t who others w ∙ ap (each_until_unfit t others) (until_still t who w (none who)) ∙ each_still t others w none

-- the world stays open
pub each_open : (t : Turn) (whos : List ℕ) (w : WorldState) → IsOpenWorld w → IsOpenWorld (each_until_unfit t whos w)
each_open t whos w h = each_keeps IsOpenWorld t (λ who v g k. world_open (turn_step t who) v (turn_drills t who) g) whos w h h

-- three performers: then nobody can take the step
pub record NoneCan (t : Turn) (w : WorldState) : Type 0 where
  pub first : turns_left t 1 w ≡ 0
  pub second : turns_left t 2 w ≡ 0
  pub third : turns_left t 3 w ≡ 0

pub none_can : (t : Turn) (w : WorldState) → IsOpenWorld w → NoneCan t (each_until_unfit t (1 ∷ 2 ∷ 3 ∷ []) w)
none_can t w h =
    let one : WorldState = until_unfit t 1 w in
    let one_open = until_open t 1 w h in
    let two : WorldState = until_unfit t 2 one in
    let two_open = until_open t 2 one one_open in
    let three : WorldState = until_unfit t 3 two in
    let all_is : each_until_unfit t (1 ∷ 2 ∷ 3 ∷ []) w ≡ three = each_more t 1 (2 ∷ 3 ∷ []) w ∙ each_more t 2 (3 ∷ []) one ∙ each_more t 3 [] two ∙ each_none t three in
    subst (NoneCan t) (sym all_is) (record {
      first = until_other t 3 1 two two_open (λ e. omega arith) ∙ until_other t 2 1 one one_open (λ e. omega arith) ∙ (until_unfit_then t 1 w h).none_left;
      second = until_other t 3 2 two two_open (λ e. omega arith) ∙ (until_unfit_then t 2 one one_open).none_left;
      third = (until_unfit_then t 3 two two_open).none_left;
    })

-- the next of several performers
pub each_next : (t : Turn) (whos : List ℕ) (i : ℕ) (w : WorldState) → i < length whos → each_until_unfit t (drop i whos) w ≡ each_until_unfit t (drop (i + 1) whos) (until_unfit t (get_or whos i 0) w)
each_next t whos i w inside = at_drop_more (λ l. each_until_unfit t l w) whos i 0 inside ∙ each_more t (get_or whos i 0) (drop (i + 1) whos) w

-- behind the last one
pub each_done : (t : Turn) (whos : List ℕ) (i : ℕ) (w : WorldState) → length whos ≤ i → each_until_unfit t (drop i whos) w ≡ w
each_done t whos i w past = at_drop_all (λ l. each_until_unfit t l w) whos i past ∙ each_none t w

-- ---- a step that was taken, by what it was told

done_turns : (t : Turn) (who : ℕ) (w : WorldState) → IsOpenWorld w → told_of (turn_step t who) w ≡ told.Done → CanTurn t who w
done_turns t who w h done =
    ⊎_elim (λ can. can) (λ cannot. let no : told.Unfit ≡ told.Done = sym cannot.unfit ∙ done in absurd (cc)) (turn_cases t who w h)

module _ (t : Turn) (who : ℕ) (w v : WorldState) (s : Step) (said : Told) (h : IsOpenWorld w) (step_is : s ≡ turn_step t who) (told_is : said ≡ told_of s w) (after_is : v ≡ world_after s w) where
  said_done : said ≡ told.Done → told_of (turn_step t who) w ≡ told.Done
  said_done done = sym (told_is ∙ ap (λ x. told_of x w) step_is) ∙ done

  after_turn : v ≡ world_after (turn_step t who) w
  after_turn = after_is ∙ ap (λ x. world_after x w) step_is

  -- one that is done can be taken once less
  pub turn_falls : said ≡ told.Done → turns_left t who v < turns_left t who w
  turn_falls done =
      let can = done_turns t who w h (said_done done) in
      subst (λ u. turns_left t who u < turns_left t who w) (sym after_turn) (omega (arith, can.one_less))

  -- and leads where those that are left lead
  pub turn_leads : said ≡ told.Done → until_unfit t who v ≡ until_unfit t who w
  turn_leads done = ap (until_unfit t who) after_turn ∙ sym (until_done t who w (done_turns t who w h (said_done done)))

  -- in an open world
  pub turn_open : IsOpenWorld v
  turn_open = subst IsOpenWorld (sym after_turn) (world_open (turn_step t who) w (turn_drills t who) h)

  -- one that isn't done is the end
  pub turn_ends : (said ≡ told.Done → ⊥) → v ≡ until_unfit t who w
  turn_ends other =
      ⊎_elim
      (λ can. absurd (other (told_is ∙ ap (λ x. told_of x w) step_is ∙ can.done)))
      (λ cannot. after_turn ∙ unmoved (turn_step t who) w (ap is_done cannot.unfit) ∙ sym (until_none t who w cannot))
      (turn_cases t who w h)
