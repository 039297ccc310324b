-- The steps of a world, by the performer that was found.
use Rattle.std.proofs.Common.{◌≡◌, ℕ, ◌<◌, Bool, true, false, if◌then◌else◌, Option, None, Some, List, [], ◌∷◌, ◌++◌, length, map, set, slice_get, refl, sym, ap, ◌∙◌, subst, inl, ⊎_elim}
use Rattle.std.specs.Prelude.{is_some, slice_index_or}
use Rattle.std.specs.List.{position_from}
use Rattle.std.proofs.lemmas.Option.{slice_get_read}
use Rattle.troop_entry.specs.declared.call.Call.{Call}
use Rattle.troop_entry.specs.declared.entry.Entry.{Entry}
use Rattle.troop_entry.specs.declared.reply.Reply.{Reply}
use Rattle.troop_entry.specs.declared.reply.Reply.TheVariants as reply
use Rattle.troop_entry.specs.declared.row.Row.{Row}
use Rattle.log_model.specs.Answers.{answer, is_accepted, log_after, row_made}
use Rattle.stage_state.specs.declared.act.Act.TheVariants as act
use Rattle.stage_state.specs.declared.act.Next.{Next}
use Rattle.stage_state.specs.declared.act.Next.TheVariants as next
use Rattle.stage_state.specs.Machine.{CanAct, IsSend, next_of}
use Rattle.stage_state.specs.Staged.{Staged, machine, stage_after_next}
use Rattle.wire_json.specs.declared.steps.Step.TheVariants as step
use Rattle.world_core.specs.declared.performer.Performer.{Performer}
use Rattle.world_core.specs.declared.told.Told.{Told}
use Rattle.world_core.specs.declared.told.Told.TheVariants as told
use Rattle.world_core.specs.Sending.{log_after_next, position_sent}
use Rattle.world_core.specs.States.{PerformerState, WorldState, performer_with}
use Rattle.world_core.specs.Steps.{after_next_entry, is_done, next_entry, told_by_next, told_by_reply, told_by_some, told_if_here, told_of, told_unless_here, world_after}
use Rattle.world_core.specs.Values.{performer_state, state_of}
use Rattle.world_core.specs.WorldInvariant.{IsKeptPerformer, IsWorld, TakesOn}
use Rattle.world_core.proofs.IsKeptPerformer.{kept_local, kept_sent}
use Rattle.world_core.proofs.IsWorld.{can_take, is_placed, world_alone, world_call, world_serve, world_take}
use Rattle.world_core.proofs.NextEntry.{next_is}
use Rattle.world_core.proofs.PerformerWith.{IsAt, has_number}
use Rattle.world_core.proofs.WorldAfter.{absent, here, moves, same_states, unmoved}

-- ---- the performer that was found

-- the performer that is read at the index
pub found_at : (log : List Row) (ps : List Performer) (last : List (Option ℕ)) (who i : ℕ) (p : Performer) → IsWorld log ps last → position_from (has_number who) 0 ps ≡ Some i
    → p ≡ slice_index_or ps i p → IsAt who ps i p
found_at log ps last who i p w e is =
    let at = here log ps last who i w e in
    let read : slice_get ps i ≡ Some p = slice_get_read ps (length ps) i p refl at.1.inside is in
    let both : Some at.0 ≡ Some p = sym at.1.is_there ∙ read in
    let same : at.0 ≡ p = cc in
    subst (IsAt who ps i) same at.1

pub index_inside : (log : List Row) (ps : List Performer) (last : List (Option ℕ)) (who i : ℕ) → IsWorld log ps last → position_from (has_number who) 0 ps ≡ Some i → i < length ps
index_inside log ps last who i w e = (here log ps last who i w e).1.inside

-- ---- a call by a number that is nobody's here

told_unless_some : (o : Option PerformerState) (t : Told) → is_some o ≡ true → told_unless_here o t ≡ told.Unfit
told_unless_some None t e = absurd (cc)
told_unless_some (Some p) t e = refl

found_some : (log : List Row) (ps : List Performer) (last : List (Option ℕ)) (who : ℕ) → IsWorld log ps last → is_some (position_from (has_number who) 0 ps) ≡ true
    → is_some (performer_with who (map performer_state ps)) ≡ true
found_some log ps last who w e = by_position (position_from (has_number who) 0 ps) refl e
  where
    by_position : (o : Option ℕ) → position_from (has_number who) 0 ps ≡ o → is_some o ≡ true → is_some (performer_with who (map performer_state ps)) ≡ true
    by_position None is some = absurd (cc)
    by_position (Some i) is some = ap is_some (here log ps last who i w is).1.is_found

pub call_unfit : (log : List Row) (ps : List Performer) (last : List (Option ℕ)) (who num : ℕ) (call : Call) → IsWorld log ps last → is_some (position_from (has_number who) 0 ps) ≡ true
    → told_of (step.Call who num call) (state_of (record { log = log; performers = ps })) ≡ told.Unfit
call_unfit log ps last who num call w e = told_unless_some (performer_with who (map performer_state ps)) (told_by_reply (answer log who num call)) (found_some log ps last who w e)

none_some : (o : Option ℕ) → is_some o ≡ false → o ≡ None
none_some None e = refl
none_some (Some x) e = absurd (cc)

pub call_told : (log : List Row) (ps : List Performer) (last : List (Option ℕ)) (who num : ℕ) (call : Call) → IsWorld log ps last → is_some (position_from (has_number who) 0 ps) ≡ false
    → told_of (step.Call who num call) (state_of (record { log = log; performers = ps })) ≡ told_by_reply (answer log who num call)
call_told log ps last who num call w e =
    ap (λ o. told_unless_here o (told_by_reply (answer log who num call))) (absent log ps last who w (none_some (position_from (has_number who) 0 ps) e)).0

pub call_world : (log later : List Row) (ps : List Performer) (last : List (Option ℕ)) (who num : ℕ) (call : Call) → IsWorld log ps last → is_some (position_from (has_number who) 0 ps) ≡ false
    → later ≡ log_after log 0 who num call → IsWorld later ps last
call_world log later ps last who num call w e is =
    subst (λ (rows : List Row). IsWorld rows ps last) (sym is)
    (world_call log ps last who num call w (absent log ps last who w (none_some (position_from (has_number who) 0 ps) e)).1)

accepted_done : (r : Reply) → is_done (told_by_reply r) ≡ is_accepted r
accepted_done (reply.Placed at who) = refl
accepted_done (reply.Kept at who) = refl
accepted_done (reply.Clash num at) = refl
accepted_done (reply.NotMember who) = refl
accepted_done (reply.Ahead seen n) = refl
accepted_done (reply.BadBase want got) = refl
accepted_done (reply.Crowded joins) = refl

pub call_wanting : (log : List Row) (ps : List Performer) (last : List (Option ℕ)) (who num : ℕ) (call : Call) → IsWorld log ps last → is_some (position_from (has_number who) 0 ps) ≡ false
    → is_accepted (answer log who num call) ≡ true → is_done (told_of (step.Call who num call) (state_of (record { log = log; performers = ps }))) ≡ true
call_wanting log ps last who num call w e accepted = ap is_done (call_told log ps last who num call w e) ∙ accepted_done (answer log who num call) ∙ accepted

pub call_state : (log later : List Row) (ps : List Performer) (last : List (Option ℕ)) (who num : ℕ) (call : Call) → IsWorld log ps last → is_some (position_from (has_number who) 0 ps) ≡ false
    → later ≡ log_after log 0 who num call
    → state_of (record { log = later; performers = ps }) ≡ world_after (step.Call who num call) (state_of (record { log = log; performers = ps }))
call_state log later ps last who num call w e is =
    ap (λ rows. record { log = rows; performers = map performer_state ps }) is ∙ by_test (is_accepted (answer log who num call)) refl
  where
    state : WorldState
    state = state_of (record { log = log; performers = ps })

    done_is : is_done (told_of (step.Call who num call) state) ≡ is_accepted (answer log who num call)
    done_is = ap is_done (call_told log ps last who num call w e) ∙ accepted_done (answer log who num call)

    by_test : (b : Bool) → is_accepted (answer log who num call) ≡ b → record { log = log_after log 0 who num call; performers = map performer_state ps } ≡ world_after (step.Call who num call) state
    by_test true t = sym (moves (step.Call who num call) state (done_is ∙ t))
    by_test false t =
        ap (λ b. record { log = if b then log ++ row_made log 0 who num call ∷ [] else log; performers = map performer_state ps }) t
        ∙ sym (unmoved (step.Call who num call) state (done_is ∙ t))

-- ---- the next entry

pub fits_next : (log : List Row) (ps : List Performer) (last : List (Option ℕ)) (who i : ℕ) (p : Performer) → IsWorld log ps last → IsAt who ps i p
    → (e : Entry) → next_entry log (machine p.stage.staged) ≡ Some e → CanAct (machine p.stage.staged) (act.Take e)
fits_next log ps last who i p w at e is =
    let next = next_is log (machine p.stage.staged) e is in
    can_take log ps last i p e w at.is_there next.0 next.1

pub taken_world : (log : List Row) (ps : List Performer) (last : List (Option ℕ)) (who i : ℕ) (p q : Performer) → IsWorld log ps last → IsAt who ps i p → IsKeptPerformer q → TakesOn log p.stage.staged q.stage.staged
    → IsWorld log (set ps i q) last
taken_world log ps last who i p q w at kept on =
    ⊎_elim
    (λ same. world_alone log ps last i p q w at.is_there kept (inl same))
    (λ more. let next = next_is log (machine p.stage.staged) more.0 more.1 in world_take log ps last i p q more.0 w at.is_there next.0 next.1 more.2 kept)
    on

pub take_told : (log : List Row) (ps : List Performer) (who i : ℕ) (p : Performer) → IsAt who ps i p
    → told_of (step.Take who) (state_of (record { log = log; performers = ps })) ≡ told_by_some (next_entry log (machine p.stage.staged))
take_told log ps who i p at = ap (told_if_here (λ r. told_by_some (next_entry log (machine r.staged)))) at.is_found

pub take_state : (log : List Row) (ps : List Performer) (who i : ℕ) (p q : Performer) → IsAt who ps i p → performer_state q ≡ after_next_entry (next_entry log (machine p.stage.staged)) (performer_state p)
    → state_of (record { log = log; performers = set ps i q }) ≡ world_after (step.Take who) (state_of (record { log = log; performers = ps }))
take_state log ps who i p q at is = by_next (next_entry log (machine p.stage.staged)) refl
  where
    state : WorldState
    state = state_of (record { log = log; performers = ps })

    by_next : (o : Option Entry) → next_entry log (machine p.stage.staged) ≡ o → state_of (record { log = log; performers = set ps i q }) ≡ world_after (step.Take who) state
    by_next None none =
        same_states log ps i p q at.is_there (is ∙ ap (λ o. after_next_entry o (performer_state p)) none)
        ∙ sym (unmoved (step.Take who) state (ap is_done (take_told log ps who i p at ∙ ap told_by_some none)))
    by_next (Some e) some =
        ap (λ qs. record { log = log; performers = qs }) (at.set_is (λ r. after_next_entry (next_entry log (machine r.staged)) r) q is)
        ∙ sym (moves (step.Take who) state (ap is_done (take_told log ps who i p at ∙ ap told_by_some some)))

-- ---- the next call

pub sends_placed : (log : List Row) (ps : List Performer) (last : List (Option ℕ)) (who i : ℕ) (p : Performer) → IsWorld log ps last → IsAt who ps i p
    → (num : ℕ) (call : Call) → next_of (machine p.stage.staged) ≡ next.Send num call → answer log who num call ≡ reply.Placed (length log) who
sends_placed log ps last who i p w at num call sends =
    subst (λ (n : ℕ). answer log n num call ≡ reply.Placed (length log) n) at.own_is (is_placed log ps last i num p call w at.is_there sends)

-- a performer whose stage is what it was, and whose room alone may have changed
pub same_world : (log later : List Row) (ps : List Performer) (last : List (Option ℕ)) (who i : ℕ) (p q : Performer) → IsWorld log ps last → IsAt who ps i p → later ≡ log
    → q.stage.staged ≡ p.stage.staged → q.who ≡ p.who → q.waiting ≡ p.waiting → q.driver ≡ p.driver → IsWorld later (set ps i q) last
same_world log later ps last who i p q w at logged staged number waiting driver =
    subst (λ (rows : List Row). IsWorld rows (set ps i q) last) (sym logged)
    (world_alone log ps last i p q w at.is_there (kept_local p q (inl staged) number waiting driver (w.kept i p at.is_there)) (inl staged))

pub same_world_state : (log later : List Row) (ps : List Performer) (who i : ℕ) (p q : Performer) → IsAt who ps i p → later ≡ log → performer_state q ≡ performer_state p
    → state_of (record { log = later; performers = set ps i q }) ≡ state_of (record { log = log; performers = ps })
same_world_state log later ps who i p q at logged same =
    ap (λ rows. state_of (record { log = rows; performers = set ps i q })) logged ∙ same_states log ps i p q at.is_there same

pub serve_told : (log : List Row) (ps : List Performer) (who i : ℕ) (p : Performer) → IsAt who ps i p
    → told_of (step.Serve who) (state_of (record { log = log; performers = ps })) ≡ told_by_next (next_of (machine p.stage.staged))
serve_told log ps who i p at = ap (told_if_here (λ r. told_by_next (next_of (machine r.staged)))) at.is_found

pub sends_done : (n : Next) → IsSend n → is_done (told_by_next n) ≡ true
sends_done (next.Send num c) s = refl
sends_done next.NotYet s = absurd s
sends_done next.Done s = absurd s

-- what went out, and where its row stands
pub sent_done : (k at : ℕ) (n : Next) → position_sent k n ≡ Some at → told_by_next n ≡ told.Done
sent_done k at (next.Send num c) e = refl
sent_done k at next.NotYet e = absurd (cc)
sent_done k at next.Done e = absurd (cc)

-- where nothing went out
pub quiet_told : (k : ℕ) (n : Next) → position_sent k n ≡ None → told_by_next n ≡ told.Unfit
quiet_told k (next.Send num c) e = absurd (cc)
quiet_told k next.NotYet e = refl
quiet_told k next.Done e = refl

pub quiet_log : (k who : ℕ) (log : List Row) (n : Next) → position_sent k n ≡ None → log_after_next log who n ≡ log
quiet_log k who log (next.Send num c) e = absurd (cc)
quiet_log k who log next.NotYet e = refl
quiet_log k who log next.Done e = refl

pub quiet_stage : (k : ℕ) (n : Next) (s : Staged) → position_sent k n ≡ None → stage_after_next 0 n s ≡ s
quiet_stage k (next.Send num c) s e = absurd (cc)
quiet_stage k next.NotYet s e = refl
quiet_stage k next.Done s e = refl

-- the world behind a call that went out
pub sent_world : (log later : List Row) (ps : List Performer) (last : List (Option ℕ)) (who i at : ℕ) (p q : Performer) → IsWorld log ps last → IsAt who ps i p
    → position_sent (length log) (next_of (machine p.stage.staged)) ≡ Some at → later ≡ log_after_next log who (next_of (machine p.stage.staged))
    → q.stage.staged ≡ stage_after_next 0 (next_of (machine p.stage.staged)) p.stage.staged → q.who ≡ p.who → q.waiting ≡ p.waiting → q.driver ≡ p.driver
    → IsWorld later (set ps i q) (set last i (Some at))
sent_world log later ps last who i at p q w found sent logged staged number waiting driver = by_next (next_of (machine p.stage.staged)) refl sent logged staged
  where
    by_next : (n : Next) → next_of (machine p.stage.staged) ≡ n → position_sent (length log) n ≡ Some at → later ≡ log_after_next log who n → q.stage.staged ≡ stage_after_next 0 n p.stage.staged
        → IsWorld later (set ps i q) (set last i (Some at))
    by_next (next.Send num call) is e grown placed =
        let same : Some (length log) ≡ Some at = e in
        let position : length log ≡ at = cc in
        subst (λ (n : ℕ). IsWorld later (set ps i q) (set last i (Some n))) position
        (subst (λ (rows : List Row). IsWorld rows (set ps i q) (set last i (Some (length log)))) (sym (grown ∙ ap (λ n. log_after log 0 n num call) (sym found.own_is)))
        (world_serve log ps last i num p q call w found.is_there is placed (kept_sent p q placed number waiting driver (w.kept i p found.is_there))))
    by_next next.NotYet is e grown placed = absurd (cc)
    by_next next.Done is e grown placed = absurd (cc)
