-- How often a performer can still take its step.
use Rattle.std.proofs.Common.{◌≡◌, ◌≢◌, ℕ, suc, ◌+◌, ◌-◌, ◌<◌, ◌≤◌, Bool, true, false, if◌then◌else◌, Option, None, Some, List, [], ◌∷◌, ◌++◌, length, slice_get, option_map, refl, sym, ap, ◌∙◌, subst, inl, inr, ⊎_elim, ◌⊎◌, nat_lt, arith}
use Rattle.std.specs.Prelude.{is_some}
use Rattle.std.proofs.lemmas.Bool.Decides.{nat_tests}
use Rattle.troop_entry.specs.declared.block.Block.{Block}
use Rattle.troop_entry.specs.declared.call.Call.{Call}
use Rattle.troop_entry.specs.declared.entry.Entry.{Entry}
use Rattle.troop_entry.specs.declared.row.Row.{Row}
use Rattle.log_model.specs.Answers.{log_after}
use Rattle.log_model.specs.Log.{entries}
use Rattle.log_model.proofs.Lists.{slice_get-within, within_length}
use Rattle.stage_state.specs.declared.act.Act.TheVariants as act
use Rattle.stage_state.specs.declared.act.Next.{Next}
use Rattle.stage_state.specs.declared.act.Next.TheVariants as next
use Rattle.stage_state.specs.Machine.{Machine, after_act, after_entry_taken, after_own_edit, after_other_entry, after_sending, next_number, next_of, taken_count}
use Rattle.stage_state.specs.Replies.{accepts, sends}
use Rattle.stage_state.specs.Staged.{Staged, machine, with_act}
use Rattle.stage_state.proofs.Machine.{machine-with_act, taken_entries}
use Rattle.troop_entry.specs.Told.{is_edit_of}
use Rattle.wire_json.specs.declared.steps.Step.{Step}
use Rattle.wire_json.specs.declared.steps.Step.TheVariants as step
use Rattle.world_core.specs.declared.told.Told.{Told}
use Rattle.world_core.specs.declared.told.Told.TheVariants as told
use Rattle.world_core.specs.States.{PerformerState, WorldState, performer_with, with_performer}
use Rattle.world_core.specs.Steps.{after_alone, after_feed, after_next_call, after_next_entry, after_own_act, is_done, moved, next_call, next_entry, told_by_next, told_by_some, told_if_here, told_of, world_after}
use Rattle.world_core.proofs.NextEntry.{next_is, is_next, none_left}
use Rattle.world_core.proofs.WorldAfter.{moves, unmoved}
use Rattle.drill_run.specs.declared.turn.Turn.{Turn}
use Rattle.drill_run.specs.declared.turn.Turn.TheVariants as turn
use Rattle.drill_run.specs.Draining.{turn_step, times_left, turns_left}
use Rattle.drill_run.specs.OpenWorlds.{IsOpen, IsOpenWorld}
use Rattle.drill_run.proofs.IsOpen.{first_goes_out, none_goes_out}
use Rattle.drill_run.proofs.OpenWorld.{IsDrillStep, feed_keeps, open_found, own_act_keeps, take_keeps}
use Rattle.drill_run.proofs.Performers.{KeepsOwn, changed_found, changed_other}

-- every turn's step is one of a drill
pub turn_drills : (t : Turn) (who : ℕ) → IsDrillStep (turn_step t who)
turn_drills turn.Serve who = tt
turn_drills turn.Take who = tt
turn_drills turn.Feed who = tt

-- the step can't be taken, or it is done, and can be taken once less
pub record CanTurn (t : Turn) (who : ℕ) (w : WorldState) : Type 0 where
  pub done : told_of (turn_step t who) w ≡ told.Done
  pub one_less : turns_left t who w ≡ suc (turns_left t who (world_after (turn_step t who) w))

pub record CannotTurn (t : Turn) (who : ℕ) (w : WorldState) : Type 0 where
  pub unfit : told_of (turn_step t who) w ≡ told.Unfit
  pub none_left : turns_left t who w ≡ 0

-- ---- what the performer is behind its step

-- one of this number was found, and is this one after the step
changed_is : (who : ℕ) (f : PerformerState → PerformerState) (ps : List PerformerState) (p : PerformerState) → KeepsOwn f → performer_with who ps ≡ Some p → performer_with who (with_performer who f ps) ≡ Some (f p)
changed_is who f ps p keeps found = changed_found who f ps keeps ∙ ap (option_map f) found

-- the call that goes out
served_outgoing : (p : PerformerState) (c : Call) (calls : List Call) → IsOpen (machine p.staged) → (machine p.staged).outgoing ≡ c ∷ calls → (machine (after_own_act act.Next p).staged).outgoing ≡ calls
served_outgoing p c calls h is =
    let m : Machine = machine p.staged in
    let goes : accepts m act.Next ≡ true = ap sends (first_goes_out m c calls h is) in
    ap (λ b. (machine (if b then with_act 0 act.Next p.staged else p.staged)).outgoing) goes
    ∙ ap (λ (n : Machine). n.outgoing) (machine-with_act 0 act.Next p.staged)
    ∙ ap (λ cs. (after_sending cs m).outgoing) is

taken_start : (b : Bool) (e : Entry) (m : Machine) → (if b then after_own_edit e m else after_other_entry e m).start ≡ m.start
taken_start true e m = refl
taken_start false e m = refl

-- one more entry is taken
pub one_more_taken : (e : Entry) (s : Staged) → taken_count (machine (with_act 0 (act.Take e) s)) ≡ taken_count (machine s) + 1
one_more_taken e s =
    let m : Machine = machine s in
    ap taken_count (machine-with_act 0 (act.Take e) s)
    ∙ omega (arith, ap (λ (es : List Entry). length es) (taken_entries (is_edit_of m.own e) e m), taken_start (is_edit_of m.own e) e m, length_more m.entries e)
  where
    length_more : (es : List Entry) (e : Entry) → length (es ++ e ∷ []) ≡ length es + 1
    length_more [] e = refl
    length_more (x ∷ es) e = omega (arith, length_more es e)

-- ---- what a step does to the performers

-- how a turn changes the performer whose it is
abbrev pub turn_change : Turn → List Row → PerformerState → PerformerState
turn_change turn.Serve log p = after_own_act act.Next p
turn_change turn.Take log p = after_next_entry (next_entry log (machine p.staged)) p
turn_change turn.Feed log p = after_feed p.waiting None p

pub turn_keeps_own : (t : Turn) (log : List Row) → KeepsOwn (turn_change t log)
turn_keeps_own turn.Serve log = own_act_keeps act.Next
turn_keeps_own turn.Take log = take_keeps log
turn_keeps_own turn.Feed log = λ p. ap (λ (s : Staged). s.own) (feed_keeps p.waiting None p)

pub done_is : (t : Told) → is_done t ≡ true → t ≡ told.Done
done_is told.Done e = refl
done_is told.Unfit e = absurd (cc)
done_is (told.Refused r) e = absurd (cc)
done_is (told.Base want got) e = absurd (cc)
done_is (told.Blank place) e = absurd (cc)
done_is told.Show e = absurd (cc)

told_next : (o : Option PerformerState) → told_if_here (λ p. told_by_next (next_of (machine p.staged))) o ≡ told.Done → told_by_next (next_call o) ≡ told.Done
told_next None e = absurd (cc)
told_next (Some p) e = e

sent_performers : (who : ℕ) (n : Next) (w : WorldState) → told_by_next n ≡ told.Done → (after_next_call who n w).performers ≡ with_performer who (after_own_act act.Next) w.performers
sent_performers who (next.Send num c) w e = refl
sent_performers who next.NotYet w e = absurd (cc)
sent_performers who next.Done w e = absurd (cc)

moved_performers : (t : Turn) (who : ℕ) (w : WorldState) → told_of (turn_step t who) w ≡ told.Done → (moved (turn_step t who) w).performers ≡ with_performer who (turn_change t w.log) w.performers
moved_performers turn.Serve who w e = sent_performers who (next_call (performer_with who w.performers)) w (told_next (performer_with who w.performers) e)
moved_performers turn.Take who w e = refl
moved_performers turn.Feed who w e = refl

-- the performers after a step that is done
pub turned_performers : (t : Turn) (who : ℕ) (w : WorldState) → told_of (turn_step t who) w ≡ told.Done → (world_after (turn_step t who) w).performers ≡ with_performer who (turn_change t w.log) w.performers
turned_performers t who w e = ap (λ (v : WorldState). v.performers) (moves (turn_step t who) w (ap is_done e)) ∙ moved_performers t who w e

-- a step either is done or changes nothing
pub turned_or_not : (t : Turn) (who : ℕ) (w : WorldState) → (told_of (turn_step t who) w ≡ told.Done) ⊎ (world_after (turn_step t who) w ≡ w)
turned_or_not t who w = by_test (is_done (told_of (turn_step t who) w)) refl
  where
    by_test : (b : Bool) → is_done (told_of (turn_step t who) w) ≡ b → (told_of (turn_step t who) w ≡ told.Done) ⊎ (world_after (turn_step t who) w ≡ w)
    by_test true e = inl (done_is (told_of (turn_step t who) w) e)
    by_test false e = inr (unmoved (turn_step t who) w e)

-- takes and feeds leave the log
pub take_log : (who : ℕ) (w : WorldState) → (world_after (step.Take who) w).log ≡ w.log
take_log who w = by_test (is_done (told_of (step.Take who) w))
  where
    by_test : (b : Bool) → (if b then moved (step.Take who) w else w).log ≡ w.log
    by_test true = refl
    by_test false = refl

pub feed_log : (who : ℕ) (bytes : Option ℕ) (w : WorldState) → (world_after (step.Feed who bytes) w).log ≡ w.log
feed_log who bytes w = by_test (is_done (told_of (step.Feed who bytes) w))
  where
    by_test : (b : Bool) → (if b then moved (step.Feed who bytes) w else w).log ≡ w.log
    by_test true = refl
    by_test false = refl

-- the performer of the number, behind a step that is done
found_after : (t : Turn) (who : ℕ) (w : WorldState) (p : PerformerState) → performer_with who w.performers ≡ Some p → told_of (turn_step t who) w ≡ told.Done
    → performer_with who (world_after (turn_step t who) w).performers ≡ Some (turn_change t w.log p)
found_after t who w p found e =
    ap (performer_with who) (turned_performers t who w e)
    ∙ changed_is who (turn_change t w.log) w.performers p (turn_keeps_own t w.log) found

-- any other performer is what it was
pub other_after : (t : Turn) (who j : ℕ) (w : WorldState) → j ≢ who → performer_with j (world_after (turn_step t who) w).performers ≡ performer_with j w.performers
other_after t who j w other =
    ⊎_elim
    (λ e. ap (performer_with j) (turned_performers t who w e) ∙ changed_other who j (turn_change t w.log) w.performers (turn_keeps_own t w.log) other)
    (λ same. ap (λ (v : WorldState). performer_with j v.performers) same)
    (turned_or_not t who w)

queue_any : (n k : ℕ) (o : Option PerformerState) → times_left turn.Serve n o ≡ times_left turn.Serve k o
queue_any n k None = refl
queue_any n k (Some p) = refl

-- and can take its step as often as before
pub other_turns : (t : Turn) (who j : ℕ) (w : WorldState) → j ≢ who → turns_left t j (world_after (turn_step t who) w) ≡ turns_left t j w
other_turns turn.Serve who j w other =
    ap (times_left turn.Serve (length (world_after (step.Serve who) w).log)) (other_after turn.Serve who j w other)
    ∙ queue_any (length (world_after (step.Serve who) w).log) (length w.log) (performer_with j w.performers)
other_turns turn.Take who j w other =
    ap (λ (rows : List Row). times_left turn.Take (length rows) (performer_with j (world_after (step.Take who) w).performers)) (take_log who w)
    ∙ ap (times_left turn.Take (length w.log)) (other_after turn.Take who j w other)
other_turns turn.Feed who j w other =
    ap (λ (rows : List Row). times_left turn.Feed (length rows) (performer_with j (world_after (step.Feed who None) w).performers)) (feed_log who None w)
    ∙ ap (times_left turn.Feed (length w.log)) (other_after turn.Feed who j w other)

-- ---- whether the step can be taken

lt_of : (a b : ℕ) → nat_lt a b ≡ true → a < b
lt_of a b e = grind (arith, nat_tests)

le_of : (a b : ℕ) → nat_lt a b ≡ false → b ≤ a
le_of a b e = grind (arith, nat_tests)

none_over : (a b : ℕ) → nat_lt a b ≡ false → b - a ≡ 0
none_over a b e = omega (arith, le_of a b e)

one_less_over : (a k b : ℕ) → a < b → k ≡ a + 1 → b - a ≡ suc (b - k)
one_less_over a k b below is = omega arith

absent_unfit : (t : Turn) (who : ℕ) (w : WorldState) → performer_with who w.performers ≡ None → CannotTurn t who w
absent_unfit turn.Serve who w none = record { unfit = ap (told_if_here (λ p. told_by_next (next_of (machine p.staged)))) none; none_left = ap (times_left turn.Serve (length w.log)) none }
absent_unfit turn.Take who w none = record { unfit = ap (told_if_here (λ p. told_by_some (next_entry w.log (machine p.staged)))) none; none_left = ap (times_left turn.Take (length w.log)) none }
absent_unfit turn.Feed who w none = record { unfit = ap (told_if_here (λ p. told_by_some (slice_get p.waiting 0))) none; none_left = ap (times_left turn.Feed (length w.log)) none }

serve_cases : (who : ℕ) (w : WorldState) (p : PerformerState) → IsOpenWorld w → performer_with who w.performers ≡ Some p → CanTurn turn.Serve who w ⊎ CannotTurn turn.Serve who w
serve_cases who w p h found = by_calls (machine p.staged).outgoing refl
  where
    open_is : IsOpen (machine p.staged)
    open_is = open_found who w p h found

    told_is : told_of (step.Serve who) w ≡ told_by_next (next_of (machine p.staged))
    told_is = ap (told_if_here (λ p. told_by_next (next_of (machine p.staged)))) found

    by_calls : (calls : List Call) → (machine p.staged).outgoing ≡ calls → CanTurn turn.Serve who w ⊎ CannotTurn turn.Serve who w
    by_calls [] is = inr (record {
      unfit = told_is ∙ ap told_by_next (none_goes_out (machine p.staged) open_is is);
      none_left = ap (times_left turn.Serve (length w.log)) found ∙ ap (λ (cs : List Call). length cs) is;
    })
    by_calls (c ∷ calls) is =
        let goes : told_of (step.Serve who) w ≡ told.Done = told_is ∙ ap told_by_next (first_goes_out (machine p.staged) c calls open_is is) in
        inl (record {
          done = goes;
          one_less =
              ap (times_left turn.Serve (length w.log)) found
              ∙ ap (λ (cs : List Call). length cs) is
              ∙ ap (λ (cs : List Call). suc (length cs)) (sym (served_outgoing p c calls open_is is))
              ∙ ap suc (ap (times_left turn.Serve (length (world_after (step.Serve who) w).log)) (sym (found_after turn.Serve who w p found goes)));
        })

take_cases : (who : ℕ) (w : WorldState) (p : PerformerState) → IsOpenWorld w → performer_with who w.performers ≡ Some p → CanTurn turn.Take who w ⊎ CannotTurn turn.Take who w
take_cases who w p h found = by_next (next_entry w.log (machine p.staged)) refl (nat_lt (taken_count (machine p.staged)) (length w.log)) refl
  where
    told_is : told_of (step.Take who) w ≡ told_by_some (next_entry w.log (machine p.staged))
    told_is = ap (told_if_here (λ p. told_by_some (next_entry w.log (machine p.staged)))) found

    left_is : turns_left turn.Take who w ≡ length w.log - taken_count (machine p.staged)
    left_is = ap (times_left turn.Take (length w.log)) found

    by_next : (o : Option Entry) → next_entry w.log (machine p.staged) ≡ o → (b : Bool) → nat_lt (taken_count (machine p.staged)) (length w.log) ≡ b → CanTurn turn.Take who w ⊎ CannotTurn turn.Take who w
    by_next None is true below =
        let no : true ≡ false = sym (is_next w.log (machine p.staged) (open_found who w p h found).not_gone (lt_of (taken_count (machine p.staged)) (length w.log) below)) ∙ ap is_some is in absurd (cc)
    by_next None is false past = inr (record {
      unfit = told_is ∙ ap told_by_some is;
      none_left = left_is ∙ none_over (taken_count (machine p.staged)) (length w.log) past;
    })
    by_next (Some e) is false past =
        let no : None ≡ Some e = sym (none_left w.log (machine p.staged) (le_of (taken_count (machine p.staged)) (length w.log) past)) ∙ is in absurd (cc)
    by_next (Some e) is true below =
        let goes : told_of (step.Take who) w ≡ told.Done = told_is ∙ ap told_by_some is in
        let after_is : performer_with who (world_after (step.Take who) w).performers ≡ Some (after_next_entry (Some e) p) = found_after turn.Take who w p found goes ∙ ap (λ o. Some (after_next_entry o p)) is in
        let rest_is : turns_left turn.Take who (world_after (step.Take who) w) ≡ length w.log - taken_count (machine (with_act 0 (act.Take e) p.staged)) =
        ap (λ (rows : List Row). times_left turn.Take (length rows) (performer_with who (world_after (step.Take who) w).performers)) (take_log who w) ∙ ap (times_left turn.Take (length w.log)) after_is in
        inl (record {
          done = goes;
          one_less = left_is ∙ one_less_over (taken_count (machine p.staged)) (taken_count (machine (with_act 0 (act.Take e) p.staged))) (length w.log) (lt_of (taken_count (machine p.staged)) (length w.log) below) (one_more_taken e p.staged) ∙ ap suc (sym rest_is);
        })

feed_cases : (who : ℕ) (w : WorldState) (p : PerformerState) → performer_with who w.performers ≡ Some p → CanTurn turn.Feed who w ⊎ CannotTurn turn.Feed who w
feed_cases who w p found = by_blocks p.waiting refl
  where
    told_is : told_of (step.Feed who None) w ≡ told_by_some (slice_get p.waiting 0)
    told_is = ap (told_if_here (λ p. told_by_some (slice_get p.waiting 0))) found

    left_is : turns_left turn.Feed who w ≡ length p.waiting
    left_is = ap (times_left turn.Feed (length w.log)) found

    by_blocks : (blocks : List Block) → p.waiting ≡ blocks → CanTurn turn.Feed who w ⊎ CannotTurn turn.Feed who w
    by_blocks [] is = inr (record {
      unfit = told_is ∙ ap (λ (bs : List Block). told_by_some (slice_get bs 0)) is;
      none_left = left_is ∙ ap (λ (bs : List Block). length bs) is;
    })
    by_blocks (block ∷ blocks) is =
        let goes : told_of (step.Feed who None) w ≡ told.Done = told_is ∙ ap (λ (bs : List Block). told_by_some (slice_get bs 0)) is in
        let after_is : performer_with who (world_after (step.Feed who None) w).performers ≡ Some (after_feed (block ∷ blocks) None p) = found_after turn.Feed who w p found goes ∙ ap (λ (bs : List Block). Some (after_feed bs None p)) is in
        inl (record {
          done = goes;
          one_less = left_is ∙ ap (λ (bs : List Block). length bs) is ∙ ap suc (sym (ap (times_left turn.Feed (length (world_after (step.Feed who None) w).log)) after_is));
        })

-- a performer's step can be taken just as often as is left
pub turn_cases : (t : Turn) (who : ℕ) (w : WorldState) → IsOpenWorld w → CanTurn t who w ⊎ CannotTurn t who w
turn_cases t who w h = by_found (performer_with who w.performers) refl t
  where
    by_found : (o : Option PerformerState) → performer_with who w.performers ≡ o → (t : Turn) → CanTurn t who w ⊎ CannotTurn t who w
    by_found None none t = inr (absent_unfit t who w none)
    by_found (Some p) found turn.Serve = serve_cases who w p h found
    by_found (Some p) found turn.Take = take_cases who w p h found
    by_found (Some p) found turn.Feed = feed_cases who w p found
