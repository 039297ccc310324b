-- What a step is told, and the world after it.
use Rattle.std.proofs.Common.{◌≡◌, ◌≢◌, ℕ, zero, suc, ◌+◌, Bool, true, false, if◌then◌else◌, Option, None, Some, List, [], ◌∷◌, ◌++◌, length, map, set, slice_get, refl, sym, ap, ◌∙◌, subst, arith}
use Rattle.std.specs.Prelude.{◌==◌}
use Rattle.std.specs.List.{position_from}
use Rattle.std.specs.Str.{encode_utf8_all}
use Rattle.std.proofs.lemmas.List.{map-append}
use Rattle.troop_entry.specs.declared.call.Call.TheVariants.{Join}
use Rattle.troop_entry.specs.declared.call.Lang.{Lang}
use Rattle.troop_entry.specs.declared.row.Row.{Row}
use Rattle.log_model.specs.Answers.{answer, log_after, most_joins}
use Rattle.log_model.specs.Log.{doc, join_count}
use Rattle.log_model.proofs.Lists.{true_equal}
use Rattle.pipe_ports.specs.Scripts.{ChildValue, HatchValue}
use Rattle.child_driver.specs.Drivers.{DriverValue}
use Rattle.stage_state.specs.declared.act.Act.TheVariants as act
use Rattle.stage_state.specs.declared.act.Next.{Next}
use Rattle.stage_state.specs.declared.act.Next.TheVariants as next
use Rattle.stage_state.specs.Machine.{next_of}
use Rattle.stage_state.specs.Staged.{Staged, machine, new_stage, stage_at, stage_after_next}
use Rattle.wire_json.specs.declared.steps.Step.{Step}
use Rattle.wire_json.specs.declared.steps.Step.TheVariants as step
use Rattle.world_core.specs.declared.performer.Performer.{Performer}
use Rattle.world_core.specs.declared.told.Told.TheVariants as told
use Rattle.world_core.specs.Moves.{IsNew, alone_by}
use Rattle.world_core.specs.Sending.{log_after_next}
use Rattle.world_core.specs.States.{PerformerState, WorldState, performer_with, with_performer}
use Rattle.world_core.specs.Steps.{after_alone, after_next_call, after_own_act, is_done, moved, new_interpreter, next_call, told_alone, told_by_next, told_by_reply, told_if_here, told_of, world_after}
use Rattle.world_core.specs.Values.{WorldValue, interpreter_of, performer_state, state_of}
use Rattle.world_core.specs.WorldInvariant.{IsWorld}
use Rattle.world_core.proofs.AsksFor.{acted}
use Rattle.world_core.proofs.IsWorld.{join_doc, join_placed, numbered}
use Rattle.world_core.proofs.PerformerWith.{IsAt, found, has_number, none_found}

-- ---- the performer of a number

-- where an index was found, the performer stands there
pub here : (log : List Row) (ps : List Performer) (last : List (Option ℕ)) (who i : ℕ) → IsWorld log ps last → position_from (has_number who) 0 ps ≡ Some i → (p : Performer) × IsAt who ps i p
here log ps last who i w e =
    let f = found who 0 ps i (numbered log ps last w) e in
    let same : f.0 ≡ i = omega (arith, f.1) in
    (f.2.0, subst (λ (n : ℕ). IsAt who ps n f.2.0) same f.2.1)

pub absent : (log : List Row) (ps : List Performer) (last : List (Option ℕ)) (who : ℕ) → IsWorld log ps last → position_from (has_number who) 0 ps ≡ None
    → (performer_with who (map performer_state ps) ≡ None) × ((i : ℕ) (p : Performer) → slice_get ps i ≡ Some p → who ≢ p.stage.staged.own)
absent log ps last who w e = none_found who 0 ps (numbered log ps last w) e

-- ---- worlds and steps

-- what isn't done changes nothing, and what is done moves the world
pub unmoved : (s : Step) (w : WorldState) → is_done (told_of s w) ≡ false → world_after s w ≡ w
unmoved s w e = ap (λ b. if b then moved s w else w) e

pub moves : (s : Step) (w : WorldState) → is_done (told_of s w) ≡ true → world_after s w ≡ moved s w
moves s w e = ap (λ b. if b then moved s w else w) e

-- ---- a step that a performer takes by itself

pub told_alone_is : (s : Step) (who : ℕ) (w : WorldState) → alone_by s ≡ Some who → told_of s w ≡ told_if_here (told_alone s) (performer_with who w.performers)
told_alone_is (step.Guest name lang) who w e = absurd (cc)
told_alone_is (step.Call by num c) who w e = absurd (cc)
told_alone_is (step.Join name lang boot) who w e = absurd (cc)
told_alone_is (step.SnapJoin name lang boot) who w e = absurd (cc)
told_alone_is (step.Edit by op) who w e = let same : by ≡ who = cc in ap (λ n. told_if_here (told_alone (step.Edit by op)) (performer_with n w.performers)) same
told_alone_is (step.Eval by place) who w e = let same : by ≡ who = cc in ap (λ n. told_if_here (told_alone (step.Eval by place)) (performer_with n w.performers)) same
told_alone_is (step.Reset by text) who w e = let same : by ≡ who = cc in ap (λ n. told_if_here (told_alone (step.Reset by text)) (performer_with n w.performers)) same
told_alone_is (step.Serve by) who w e = absurd (cc)
told_alone_is (step.Take by) who w e = absurd (cc)
told_alone_is (step.Feed by bytes) who w e = let same : by ≡ who = cc in ap (λ n. told_if_here (told_alone (step.Feed by bytes)) (performer_with n w.performers)) same
told_alone_is (step.Deaf by starts) who w e = let same : by ≡ who = cc in ap (λ n. told_if_here (told_alone (step.Deaf by starts)) (performer_with n w.performers)) same
told_alone_is (step.Leave by) who w e = let same : by ≡ who = cc in ap (λ n. told_if_here (told_alone (step.Leave by)) (performer_with n w.performers)) same
told_alone_is (step.Again by) who w e = absurd (cc)
told_alone_is step.Show who w e = absurd (cc)

moved_alone_is : (s : Step) (who : ℕ) (w : WorldState) → alone_by s ≡ Some who → moved s w ≡ record w { performers = with_performer who (after_alone s) w.performers }
moved_alone_is (step.Guest name lang) who w e = absurd (cc)
moved_alone_is (step.Call by num c) who w e = absurd (cc)
moved_alone_is (step.Join name lang boot) who w e = absurd (cc)
moved_alone_is (step.SnapJoin name lang boot) who w e = absurd (cc)
moved_alone_is (step.Edit by op) who w e = let same : by ≡ who = cc in ap (λ n. record w { performers = with_performer n (after_alone (step.Edit by op)) w.performers }) same
moved_alone_is (step.Eval by place) who w e = let same : by ≡ who = cc in ap (λ n. record w { performers = with_performer n (after_alone (step.Eval by place)) w.performers }) same
moved_alone_is (step.Reset by text) who w e = let same : by ≡ who = cc in ap (λ n. record w { performers = with_performer n (after_alone (step.Reset by text)) w.performers }) same
moved_alone_is (step.Serve by) who w e = absurd (cc)
moved_alone_is (step.Take by) who w e = absurd (cc)
moved_alone_is (step.Feed by bytes) who w e = let same : by ≡ who = cc in ap (λ n. record w { performers = with_performer n (after_alone (step.Feed by bytes)) w.performers }) same
moved_alone_is (step.Deaf by starts) who w e = let same : by ≡ who = cc in ap (λ n. record w { performers = with_performer n (after_alone (step.Deaf by starts)) w.performers }) same
moved_alone_is (step.Leave by) who w e = let same : by ≡ who = cc in ap (λ n. record w { performers = with_performer n (after_alone (step.Leave by)) w.performers }) same
moved_alone_is (step.Again by) who w e = absurd (cc)
moved_alone_is step.Show who w e = absurd (cc)

-- it is told what its performer tells
pub told_here : (s : Step) (log : List Row) (ps : List Performer) (who i : ℕ) (p : Performer) → alone_by s ≡ Some who → IsAt who ps i p
    → told_of s (state_of (record { log = log; performers = ps })) ≡ told_alone s (performer_state p)
told_here s log ps who i p by at = told_alone_is s who (state_of (record { log = log; performers = ps })) by ∙ ap (told_if_here (told_alone s)) at.is_found

-- a performer replaced by one in the same state leaves the states
same_set : (ps : List Performer) (i : ℕ) (p q : Performer) → slice_get ps i ≡ Some p → performer_state q ≡ performer_state p → map performer_state (set ps i q) ≡ map performer_state ps
same_set [] i p q e same = refl
same_set (x ∷ ps) zero p q e same = let one : x ≡ p = cc in ap (λ y. y ∷ map performer_state ps) (same ∙ ap performer_state (sym one))
same_set (x ∷ ps) (suc i) p q e same = ap (λ r. performer_state x ∷ r) (same_set ps i p q e same)

-- and its performer is what has changed
pub alone_state : (s : Step) (log : List Row) (ps : List Performer) (who i : ℕ) (p q : Performer) → alone_by s ≡ Some who → IsAt who ps i p
    → performer_state q ≡ (if is_done (told_alone s (performer_state p)) then after_alone s (performer_state p) else performer_state p)
    → state_of (record { log = log; performers = set ps i q }) ≡ world_after s (state_of (record { log = log; performers = ps }))
alone_state s log ps who i p q by at is = by_test (is_done (told_alone s (performer_state p))) refl is
  where
    w : WorldState
    w = state_of (record { log = log; performers = ps })

    told : told_of s w ≡ told_alone s (performer_state p)
    told = told_here s log ps who i p by at

    by_test : (b : Bool) → is_done (told_alone s (performer_state p)) ≡ b → performer_state q ≡ (if b then after_alone s (performer_state p) else performer_state p)
        → state_of (record { log = log; performers = set ps i q }) ≡ world_after s w
    by_test true done same =
        ap (λ qs. record { log = log; performers = qs }) (at.set_is (after_alone s) q same)
        ∙ sym (moves s w (ap is_done told ∙ done) ∙ moved_alone_is s who w by)
    by_test false done same =
        ap (λ qs. record { log = log; performers = qs }) (same_set ps i p q at.is_there same)
        ∙ sym (unmoved s w (ap is_done told ∙ done))

pub same_states : (log : List Row) (ps : List Performer) (i : ℕ) (p q : Performer) → slice_get ps i ≡ Some p → performer_state q ≡ performer_state p
    → state_of (record { log = log; performers = set ps i q }) ≡ state_of (record { log = log; performers = ps })
same_states log ps i p q e same = ap (λ qs. record { log = log; performers = qs }) (same_set ps i p q e same)

-- ---- joins

join_done : (log : List Row) (name : List ℕ) (lang : Lang) → (join_count log == most_joins) ≡ false → is_done (told_by_reply (answer log 0 0 (Join name lang))) ≡ true
join_done log name lang room = ap (λ r. is_done (told_by_reply r)) (join_placed log name lang room)

new_state : (name : List ℕ) (lang : Lang) (boot : List ℕ) (q : Performer) (s : Staged) → IsNew name lang boot q → q.stage.staged ≡ s
    → performer_state q ≡ record { name = name; staged = s; waiting = []; interpreter = new_interpreter lang (encode_utf8_all boot) }
new_state name lang boot q s h staged =
    ap (λ n. record { name = n; staged = q.stage.staged; waiting = q.waiting; interpreter = interpreter_of q.driver }) h.name_is
    ∙ ap (λ t. record { name = name; staged = t; waiting = q.waiting; interpreter = interpreter_of q.driver }) staged
    ∙ ap (λ b. record { name = name; staged = s; waiting = b; interpreter = interpreter_of q.driver }) h.waiting_is
    ∙ ap (λ (d : DriverValue HatchValue ChildValue). record { name = name; staged = s; waiting = []; interpreter = interpreter_of d }) h.driver_is

-- the world with a new performer
with_new_state : (log later : List Row) (ps qs : List Performer) (name : List ℕ) (lang : Lang) (boot : List ℕ) (q : Performer) (s : Staged)
    → qs ≡ ps ++ q ∷ [] → IsNew name lang boot q → q.stage.staged ≡ s
    → state_of (record { log = later; performers = qs })
    ≡ record { log = later; performers = map performer_state ps ++ record { name = name; staged = s; waiting = []; interpreter = new_interpreter lang (encode_utf8_all boot) } ∷ [] }
with_new_state log later ps qs name lang boot q s grown h staged =
    ap (λ rs. record { log = later; performers = map performer_state rs }) grown
    ∙ ap (λ rs. record { log = later; performers = rs }) (map-append performer_state ps (q ∷ []) ∙ ap (λ r. map performer_state ps ++ r ∷ []) (new_state name lang boot q s h staged))

pub join_state : (w v : WorldValue) (name : List ℕ) (lang : Lang) (boot : List ℕ) (q : Performer) → (join_count w.log == most_joins) ≡ false
    → v.log ≡ log_after w.log 0 0 0 (Join q.name lang) → v.performers ≡ w.performers ++ q ∷ [] → IsNew name lang boot q → q.stage.staged ≡ new_stage (join_count w.log + 1) (length w.log)
    → state_of v ≡ world_after (step.Join name lang boot) (state_of w)
join_state w v name lang boot q room log grown h staged =
    with_new_state w.log v.log w.performers v.performers name lang boot q (new_stage (join_count w.log + 1) (length w.log)) grown h staged
    ∙ ap (λ rows. record { log = rows; performers = map performer_state w.performers ++ record { name = name; staged = new_stage (join_count w.log + 1) (length w.log); waiting = []; interpreter = new_interpreter lang (encode_utf8_all boot) } ∷ [] })
    (log ∙ ap (λ n. log_after w.log 0 0 0 (Join n lang)) h.name_is)
    ∙ sym (moves (step.Join name lang boot) (state_of w) (join_done w.log name lang room))

pub snap_state : (w v : WorldValue) (name : List ℕ) (lang : Lang) (boot : List ℕ) (q : Performer) → (join_count w.log == most_joins) ≡ false
    → v.log ≡ log_after w.log 0 0 0 (Join q.name lang) → v.performers ≡ w.performers ++ q ∷ [] → IsNew name lang boot q → q.stage.staged ≡ stage_at (join_count w.log + 1) (length w.log) (doc w.log)
    → state_of v ≡ world_after (step.SnapJoin name lang boot) (state_of w)
snap_state w v name lang boot q room log grown h staged =
    let s : Staged = stage_at (join_count w.log + 1) (length w.log) (doc (log_after w.log 0 0 0 (Join name lang))) in
    let staged_is : q.stage.staged ≡ s = staged ∙ ap (stage_at (join_count w.log + 1) (length w.log)) (sym (join_doc w.log name lang room)) in
    with_new_state w.log v.log w.performers v.performers name lang boot q s grown h staged_is
    ∙ ap (λ rows. record { log = rows; performers = map performer_state w.performers ++ record { name = name; staged = s; waiting = []; interpreter = new_interpreter lang (encode_utf8_all boot) } ∷ [] })
    (log ∙ ap (λ n. log_after w.log 0 0 0 (Join n lang)) h.name_is)
    ∙ sym (moves (step.SnapJoin name lang boot) (state_of w) (join_done w.log name lang room))

pub joins_done : (log : List Row) (name : List ℕ) (lang : Lang) → (join_count log == most_joins) ≡ false → told_by_reply (answer log 0 0 (Join name lang)) ≡ told.Done
joins_done log name lang room = ap told_by_reply (join_placed log name lang room)

-- ---- a call served

sent_alike : (n : Next) (p : PerformerState) → n ≡ next_of (machine p.staged) → told_by_next n ≡ told.Done → after_own_act act.Next p ≡ record p { staged = stage_after_next 0 n p.staged }
sent_alike (next.Send num c) p e done = acted act.Next p (rw (sym e) tt)
sent_alike next.NotYet p e done = absurd (cc)
sent_alike next.Done p e done = absurd (cc)

-- the world behind what went out of a performer's stage
pub serve_state : (log later : List Row) (ps : List Performer) (who i : ℕ) (p q : Performer) → IsAt who ps i p
    → later ≡ log_after_next log who (next_of (machine p.stage.staged)) → performer_state q ≡ record (performer_state p) { staged = stage_after_next 0 (next_of (machine p.stage.staged)) p.stage.staged }
    → told_by_next (next_of (machine p.stage.staged)) ≡ told.Done
    → state_of (record { log = later; performers = set ps i q }) ≡ world_after (step.Serve who) (state_of (record { log = log; performers = ps }))
serve_state log later ps who i p q at logged same done =
    let w : WorldState = state_of (record { log = log; performers = ps }) in
    let n : Next = next_of (machine p.stage.staged) in
    let told_is : told_of (step.Serve who) w ≡ told.Done = ap (told_if_here (λ r. told_by_next (next_of (machine r.staged)))) at.is_found ∙ done in
    let performers : map performer_state (set ps i q) ≡ with_performer who (after_own_act act.Next) (map performer_state ps) =
    at.set_is (after_own_act act.Next) q (same ∙ sym (sent_alike n (performer_state p) refl done)) in
    ap (λ rows. record { log = rows; performers = map performer_state (set ps i q) }) logged
    ∙ ap (λ qs. record { log = log_after_next log who n; performers = qs }) performers
    ∙ by_next n done
    ∙ sym (moves (step.Serve who) w (ap is_done told_is) ∙ ap (λ o. after_next_call who (next_call o) w) at.is_found)
  where
    by_next : (n : Next) → told_by_next n ≡ told.Done
        → record { log = log_after_next log who n; performers = with_performer who (after_own_act act.Next) (map performer_state ps) } ≡ after_next_call who n (state_of (record { log = log; performers = ps }))
    by_next (next.Send num c) e = refl
    by_next next.NotYet e = absurd (cc)
    by_next next.Done e = absurd (cc)

-- the log is not crowded
pub crowd_false : (n k : ℕ) → n ≡ k → (n ≡ 4096 → ⊥) → (k == most_joins) ≡ false
crowd_false n k same free = by_test (k == most_joins) refl
  where
    by_test : (b : Bool) → (k == most_joins) ≡ b → b ≡ false
    by_test true e = absurd (free (same ∙ true_equal k most_joins e))
    by_test false e = refl
