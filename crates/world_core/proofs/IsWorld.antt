-- A world is kept, step by step.
use Rattle.std.proofs.Common.{◌≡◌, ◌≢◌, ℕ, zero, suc, ◌+◌, ◌<◌, Bool, true, false, if◌then◌else◌, Option, None, Some, List, [], ◌∷◌, ◌++◌, length, map, set, slice_get, refl, sym, ap, ◌∙◌, subst, inl, inr, ⊎_elim, ◌⊎◌, arith}
use Rattle.std.specs.Prelude.{◌==◌}
use Rattle.std.proofs.lemmas.List.{map-set, map-append}
use Rattle.troop_entry.specs.declared.call.Call.{Call}
use Rattle.troop_entry.specs.declared.call.Call.TheVariants.{Join, Leave, Edit, Eval, Reset}
use Rattle.troop_entry.specs.declared.call.Lang.{Lang}
use Rattle.troop_entry.specs.declared.entry.Entry.{Entry}
use Rattle.troop_entry.specs.declared.reply.Reply.TheVariants as reply
use Rattle.troop_entry.specs.declared.row.Row.{Row}
use Rattle.troop_entry.specs.Kinds.{is_join}
use Rattle.log_model.specs.Answers.{answer, author, is_accepted, log_after, most_joins, row_made}
use Rattle.log_model.specs.Log.{doc, entries, join_count}
use Rattle.log_model.proofs.DocFrom.{doc-one_more}
use Rattle.log_model.proofs.Lists.{at_end, equal_true, true_equal, within_length}
use Rattle.log_model.proofs.IsMember.{row_number}
use Rattle.stage_state.specs.declared.act.Act.TheVariants as act
use Rattle.stage_state.specs.declared.act.Next.TheVariants as next
use Rattle.stage_state.specs.Machine.{CanAct, next_of, taken_count}
use Rattle.stage_state.specs.Staged.{Staged, machine, with_act}
use Rattle.stage_state.specs.Staged.{stage_at as stage_behind}
use Rattle.ot_text.specs.Marked.{Marked}
use Rattle.agreement.proofs.IsAligned.{serve_aligned}
use Rattle.world_core.specs.Moves.{StartsAt}
use Rattle.agreement.specs.Stages.{StagesAgree}
use Rattle.agreement.proofs.OwnAsks.{joined_row}
use Rattle.agreement.proofs.StagesAgree.{again_kept, guest_agrees, local_agrees, new_agrees, serve_agrees, snapshot_agrees, take_agrees}
use Rattle.world_core.specs.declared.performer.Performer.{Performer}
use Rattle.world_core.specs.States.{last_row}
use Rattle.world_core.specs.WorldInvariant.{ActsOn, IsKeptPerformer, IsWorld, stages_of}
use Rattle.world_core.proofs.LastRow.{last_row-is, last_row-more, last_row-new, last_row-other}
use Rattle.world_core.proofs.PerformerWith.{AreNumbered}

abbrev pub staged_of : Performer → Staged
staged_of p = p.stage.staged

-- the position of a performer's last row
abbrev pub last_of : List Row → Performer → Option ℕ
last_of log p = last_row log p.stage.staged

-- ---- what is known of each performer

pub numbered : (log : List Row) (ps : List Performer) (last : List (Option ℕ)) → IsWorld log ps last → AreNumbered ps
numbered log ps last w = λ i p e. (w.kept i p e).number_is

pub stage_at : (ps : List Performer) (i : ℕ) (p : Performer) → slice_get ps i ≡ Some p → slice_get (stages_of ps) i ≡ Some p.stage.staged
stage_at [] i p e = absurd (cc)
stage_at (x ∷ ps) zero p e = let same : x ≡ p = cc in ap (λ (q : Performer). Some q.stage.staged) same
stage_at (x ∷ ps) (suc i) p e = stage_at ps i p e

performer_at : (ps : List Performer) (i : ℕ) (s : Staged) → slice_get (stages_of ps) i ≡ Some s → (p : Performer) × (slice_get ps i ≡ Some p) × (p.stage.staged ≡ s)
performer_at [] i s e = absurd (cc)
performer_at (x ∷ ps) zero s e = let same : x.stage.staged ≡ s = cc in (x, refl, same)
performer_at (x ∷ ps) (suc i) s e = performer_at ps i s e

-- its join is a row
pub joined_inside : (log : List Row) (ps : List Performer) (last : List (Option ℕ)) (i : ℕ) (p : Performer) → IsWorld log ps last → slice_get ps i ≡ Some p → p.stage.staged.joined < length log
joined_inside log ps last i p w e =
    let row = joined_row log p.stage.staged.joined p.stage.staged.own (w.agree.aligned i p.stage.staged (stage_at ps i p e)).has_joined in
    within_length log p.stage.staged.joined row.0 row.1

last_at : (log : List Row) (ps : List Performer) (i : ℕ) (p : Performer) → slice_get ps i ≡ Some p → slice_get (map (last_of log) ps) i ≡ Some (last_of log p)
last_at log [] i p e = absurd (cc)
last_at log (x ∷ ps) zero p e = let same : x ≡ p = cc in ap (λ q. Some (last_of log q)) same
last_at log (x ∷ ps) (suc i) p e = last_at log ps i p e

-- the position of its last row is the one that is kept
pub last_kept : (log : List Row) (ps : List Performer) (last : List (Option ℕ)) (i : ℕ) (p : Performer) → IsWorld log ps last → slice_get ps i ≡ Some p → slice_get last i ≡ Some (last_row log p.stage.staged)
last_kept log ps last i p w e = ap (λ l. slice_get l i) w.last_are ∙ last_at log ps i p e

-- ---- one performer replaced

set_get : {A : Type 0} (xs : List A) (i j : ℕ) (v y : A) → slice_get (set xs i v) j ≡ Some y → ((j ≡ i) × (y ≡ v)) ⊎ ((j ≡ i → ⊥) × (slice_get xs j ≡ Some y))
set_get [] i j v y e = absurd (cc)
set_get (x ∷ xs) zero zero v y e = let same : v ≡ y = cc in inl (refl, sym same)
set_get (x ∷ xs) zero (suc j) v y e = inr ((λ w. omega arith), e)
set_get (x ∷ xs) (suc i) zero v y e = inr ((λ w. omega arith), e)
set_get (x ∷ xs) (suc i) (suc j) v y e =
    ⊎_elim (λ l. inl (ap suc l.0, l.1)) (λ r. inr ((λ w. r.0 (omega arith)), r.1)) (set_get xs i j v y e)

set_same : {A : Type 0} (xs : List A) (i : ℕ) (x : A) → slice_get xs i ≡ Some x → set xs i x ≡ xs
set_same [] i x e = refl
set_same (y ∷ xs) zero x e = let same : y ≡ x = cc in ap (λ z. z ∷ xs) (sym same)
set_same (y ∷ xs) (suc i) x e = ap (λ r. y ∷ r) (set_same xs i x e)

-- where two functions agree on all but one element, that one aside the lists are the same
set_agree : (f g : Performer → Option ℕ) (ps : List Performer) (i : ℕ) (v : Option ℕ) → ((j : ℕ) (p : Performer) → (j ≡ i → ⊥) → slice_get ps j ≡ Some p → f p ≡ g p)
    → set (map f ps) i v ≡ set (map g ps) i v
set_agree f g [] i v same = refl
set_agree f g (p ∷ ps) zero v same = ap (λ r. v ∷ r) (all_agree ps (λ j q e. same (suc j) q (λ w. omega arith) e))
  where
    all_agree : (qs : List Performer) → ((j : ℕ) (q : Performer) → slice_get qs j ≡ Some q → f q ≡ g q) → map f qs ≡ map g qs
    all_agree [] same = refl
    all_agree (q ∷ qs) same = rw (same 0 q refl, all_agree qs (λ j r e. same (suc j) r e)) refl
set_agree f g (p ∷ ps) (suc i) v same =
    rw (same 0 p (λ w. omega arith) refl, set_agree f g ps i v (λ j q other e. same (suc j) q (λ w. other (omega arith)) e)) refl

map_agree : (f g : Performer → Option ℕ) (ps : List Performer) → ((j : ℕ) (p : Performer) → slice_get ps j ≡ Some p → f p ≡ g p) → map f ps ≡ map g ps
map_agree f g [] same = refl
map_agree f g (p ∷ ps) same = rw (same 0 p refl, map_agree f g ps (λ j q e. same (suc j) q e)) refl

kept_set : (ps : List Performer) (i : ℕ) (q : Performer) → ((j : ℕ) (p : Performer) → slice_get ps j ≡ Some p → IsKeptPerformer p) → IsKeptPerformer q
    → (j : ℕ) (p : Performer) → slice_get (set ps i q) j ≡ Some p → IsKeptPerformer p
kept_set ps i q all here j p e =
    ⊎_elim (λ l. subst IsKeptPerformer (sym l.1) here) (λ r. all j p r.1) (set_get ps i j q p e)

-- a performer on the same log whose stage has the same number and the same join
alike_set : (log : List Row) (ps : List Performer) (last : List (Option ℕ)) (i : ℕ) (p q : Performer) → IsWorld log ps last → slice_get ps i ≡ Some p → IsKeptPerformer q
    → last_row log q.stage.staged ≡ last_row log p.stage.staged → StagesAgree log (set (stages_of ps) i q.stage.staged) → IsWorld log (set ps i q) last
alike_set log ps last i p q w e kept same agree = record {
  agree = subst (StagesAgree log) (sym (map-set staged_of ps i q)) agree;
  kept = kept_set ps i q w.kept kept;
  last_are = w.last_are ∙ sym (map-set (last_of log) ps i q ∙ ap (set (map (last_of log) ps) i) same ∙ set_same (map (last_of log) ps) i (last_of log p) (last_at log ps i p e));
}

-- a performer that was replaced by one with the same stage
went_agree : (log : List Row) (ps : List Performer) (i : ℕ) (p : Performer) (s t : Staged) → StagesAgree log (stages_of ps) → slice_get ps i ≡ Some p → p.stage.staged ≡ s → ActsOn s t → StagesAgree log (set (stages_of ps) i t)
went_agree log ps i p s t h e is on =
    ⊎_elim
    (λ same. subst (λ (u : Staged). StagesAgree log (set (stages_of ps) i u)) (sym same) (subst (StagesAgree log) (sym (set_same (stages_of ps) i s (stage_at ps i p e ∙ ap Some is))) h))
    (λ more. subst (λ (u : Staged). StagesAgree log (set (stages_of ps) i u)) (sym more.3) (local_agrees log (stages_of ps) i 0 s more.0 h (stage_at ps i p e ∙ ap Some is) more.1 more.2))
    on

went_last : (log : List Row) (s t : Staged) → ActsOn s t → last_row log t ≡ last_row log s
went_last log s t on = ⊎_elim (λ same. ap (last_row log) same) (λ more. ap (last_row log) more.3) on

-- ---- the steps

-- a performer went on by itself
pub world_alone : (log : List Row) (ps : List Performer) (last : List (Option ℕ)) (i : ℕ) (p q : Performer) → IsWorld log ps last → slice_get ps i ≡ Some p → IsKeptPerformer q → ActsOn p.stage.staged q.stage.staged
    → IsWorld log (set ps i q) last
world_alone log ps last i p q w e kept on =
    alike_set log ps last i p q w e kept (went_last log p.stage.staged q.stage.staged on) (went_agree log ps i p p.stage.staged q.stage.staged w.agree e refl on)

-- the next entry can be taken
pub can_take : (log : List Row) (ps : List Performer) (last : List (Option ℕ)) (i : ℕ) (p : Performer) (entry : Entry) → IsWorld log ps last → slice_get ps i ≡ Some p → (machine p.stage.staged).gone ≡ false
    → slice_get (entries log) (taken_count (machine p.stage.staged)) ≡ Some entry → CanAct (machine p.stage.staged) (act.Take entry)
can_take log ps last i p entry w e here next = (take_agrees log (stages_of ps) i 0 p.stage.staged entry w.agree (stage_at ps i p e) here next).0

-- a performer took the next entry
pub world_take : (log : List Row) (ps : List Performer) (last : List (Option ℕ)) (i : ℕ) (p q : Performer) (entry : Entry) → IsWorld log ps last → slice_get ps i ≡ Some p → (machine p.stage.staged).gone ≡ false
    → slice_get (entries log) (taken_count (machine p.stage.staged)) ≡ Some entry → q.stage.staged ≡ with_act 0 (act.Take entry) p.stage.staged → IsKeptPerformer q → IsWorld log (set ps i q) last
world_take log ps last i p q entry w e here next staged kept =
    alike_set log ps last i p q w e kept (ap (last_row log) staged)
    (subst (λ (s : Staged). StagesAgree log (set (stages_of ps) i s)) (sym staged) (take_agrees log (stages_of ps) i 0 p.stage.staged entry w.agree (stage_at ps i p e) here next).1)

-- a performer's next call is placed
pub is_placed : (log : List Row) (ps : List Performer) (last : List (Option ℕ)) (i num : ℕ) (p : Performer) (call : Call) → IsWorld log ps last → slice_get ps i ≡ Some p
    → next_of (machine p.stage.staged) ≡ next.Send num call → answer log p.stage.staged.own num call ≡ reply.Placed (length log) p.stage.staged.own
is_placed log ps last i num p call w e sends = (serve_agrees log (stages_of ps) i 0 0 num p.stage.staged call w.agree (stage_at ps i p e) sends).0

own_author : (log : List Row) (who : ℕ) (c : Call) → is_join c ≡ false → author log who c ≡ who
own_author log who (Join name lang) e = absurd (cc)
own_author log who Leave e = refl
own_author log who (Edit seen op) e = refl
own_author log who (Eval seen text) e = refl
own_author log who (Reset seen text) e = refl

differ_false : (m n : ℕ) → (m ≡ n → ⊥) → (m == n) ≡ false
differ_false m n f = by_test (m == n) refl
  where
    by_test : (b : Bool) → (m == n) ≡ b → b ≡ false
    by_test true e = absurd (f (true_equal m n e))
    by_test false e = refl

same_number : (n : ℕ) → (n == n) ≡ true
same_number n = equal_true n n refl

-- a performer's next call went to the log
pub world_serve : (log : List Row) (ps : List Performer) (last : List (Option ℕ)) (i num : ℕ) (p q : Performer) (call : Call) → IsWorld log ps last → slice_get ps i ≡ Some p
    → next_of (machine p.stage.staged) ≡ next.Send num call → q.stage.staged ≡ with_act 0 act.Next p.stage.staged → IsKeptPerformer q
    → IsWorld (log_after log 0 p.stage.staged.own num call) (set ps i q) (set last i (Some (length log)))
world_serve log ps last i num p q call w e sends staged kept =
    let s : Staged = p.stage.staged in
    let here = stage_at ps i p e in
    let served = serve_agrees log (stages_of ps) i 0 0 num s call w.agree here sends in
    let no_join = (serve_aligned log s 0 0 num call w.agree.legal (w.agree.played i s here) (w.agree.aligned i s here) sends).1 in
    let later : List Row = log_after log 0 s.own num call in
    let by : author log s.own call ≡ s.own = own_author log s.own call no_join in
    let grown : later ≡ log ++ row_made log 0 s.own num call ∷ [] = ap (λ r. if is_accepted r then log ++ row_made log 0 s.own num call ∷ [] else log) served.0 in
    let mine : last_of later q ≡ Some (length log) =
    ap (last_row later) staged ∙ ap (λ rows. last_row rows s) grown
    ∙ last_row-more log (row_made log 0 s.own num call) s (joined_inside log ps last i p w e)
    ∙ ap (λ n. if n == s.own then Some (length log) else last_row log s) by
    ∙ ap (λ b. if b then Some (length log) else last_row log s) (same_number s.own) in
    record {
      agree = subst (StagesAgree later) (sym (map-set staged_of ps i q)) (subst (λ (t : Staged). StagesAgree later (set (stages_of ps) i t)) (sym staged) served.1);
      kept = kept_set ps i q w.kept kept;
      last_are =
          ap (λ l. set l i (Some (length log))) w.last_are
          ∙ set_agree (last_of log) (last_of later) ps i (Some (length log))
          (λ j r other f. sym (last_row-other log 0 s.own num call r.stage.staged (joined_inside log ps last j r w f)
          (ap (λ n. n == r.stage.staged.own) by ∙ differ_false s.own r.stage.staged.own (λ same. other (w.agree.apart j i r.stage.staged s (stage_at ps j r f) here (sym same))))))
          ∙ ap (set (map (last_of later) ps) i) (sym mine)
          ∙ sym (map-set (last_of later) ps i q);
    }

-- the next number is nobody's
next_is_new : (log : List Row) (ps : List Performer) (last : List (Option ℕ)) (i : ℕ) (p : Performer) → IsWorld log ps last → slice_get ps i ≡ Some p → join_count log + 1 ≢ p.stage.staged.own
next_is_new log ps last i p w e same =
    let row = joined_row log p.stage.staged.joined p.stage.staged.own (w.agree.aligned i p.stage.staged (stage_at ps i p e)).has_joined in
    let known = row_number log p.stage.staged.joined row.0 w.agree.legal row.1 in
    omega (arith, known.1, row.3, same)

-- a call by a number that is nobody's here makes no row of a performer's
author_apart : (log : List Row) (ps : List Performer) (last : List (Option ℕ)) (who : ℕ) (call : Call) → IsWorld log ps last → ((i : ℕ) (p : Performer) → slice_get ps i ≡ Some p → who ≢ p.stage.staged.own)
    → (i : ℕ) (p : Performer) → slice_get ps i ≡ Some p → author log who call ≢ p.stage.staged.own
author_apart log ps last who (Join name lang) w none i p e = next_is_new log ps last i p w e
author_apart log ps last who Leave w none i p e = none i p e
author_apart log ps last who (Edit seen op) w none i p e = none i p e
author_apart log ps last who (Eval seen text) w none i p e = none i p e
author_apart log ps last who (Reset seen text) w none i p e = none i p e

others_last : (log : List Row) (ps : List Performer) (last : List (Option ℕ)) (who num : ℕ) (call : Call) → IsWorld log ps last
    → ((i : ℕ) (p : Performer) → slice_get ps i ≡ Some p → author log who call ≢ p.stage.staged.own) → map (last_of (log_after log 0 who num call)) ps ≡ last
others_last log ps last who num call w apart =
    map_agree (last_of (log_after log 0 who num call)) (last_of log) ps
    (λ j p e. last_row-other log 0 who num call p.stage.staged (joined_inside log ps last j p w e) (differ_false (author log who call) p.stage.staged.own (apart j p e)))
    ∙ sym w.last_are

asked_apart : (log : List Row) (ps : List Performer) (last : List (Option ℕ)) (who num : ℕ) (call : Call) → IsWorld log ps last
    → ((i : ℕ) (p : Performer) → slice_get ps i ≡ Some p → author log who call ≢ p.stage.staged.own) → IsWorld (log_after log 0 who num call) ps last
asked_apart log ps last who num call w apart = record {
  agree = guest_agrees log (stages_of ps) 0 who num call w.agree
      (λ i s e same. let p = performer_at ps i s e in apart i p.0 p.1 (same ∙ sym (ap (λ (t : Staged). t.own) p.2)));
  kept = w.kept;
  last_are = sym (others_last log ps last who num call w apart);
}

-- a call by a number that is nobody's here
pub world_call : (log : List Row) (ps : List Performer) (last : List (Option ℕ)) (who num : ℕ) (call : Call) → IsWorld log ps last → ((i : ℕ) (p : Performer) → slice_get ps i ≡ Some p → who ≢ p.stage.staged.own)
    → IsWorld (log_after log 0 who num call) ps last
world_call log ps last who num call w none = asked_apart log ps last who num call w (author_apart log ps last who call w none)

-- a guest's join
pub world_guest : (log : List Row) (ps : List Performer) (last : List (Option ℕ)) (name : List ℕ) (lang : Lang) → IsWorld log ps last → IsWorld (log_after log 0 0 0 (Join name lang)) ps last
world_guest log ps last name lang w = asked_apart log ps last 0 0 (Join name lang) w (λ i p e. next_is_new log ps last i p w e)

-- the join that was placed, where the log is not crowded
pub join_placed : (log : List Row) (name : List ℕ) (lang : Lang) → (join_count log == most_joins) ≡ false → answer log 0 0 (Join name lang) ≡ reply.Placed (length log) (join_count log + 1)
join_placed log name lang room = ap (λ b. if b then reply.Crowded most_joins else reply.Placed (length log) (join_count log + 1)) room

-- a join has no operation
pub join_doc : (log : List Row) (name : List ℕ) (lang : Lang) → (join_count log == most_joins) ≡ false → doc (log_after log 0 0 0 (Join name lang)) ≡ doc log
join_doc log name lang room =
    ap (λ r. doc (if is_accepted r then log ++ row_made log 0 0 0 (Join name lang) ∷ [] else log)) (join_placed log name lang room)
    ∙ doc-one_more log (row_made log 0 0 0 (Join name lang))

starts_agree : (log : List Row) (ps : List Performer) (last : List (Option ℕ)) (name : List ℕ) (lang : Lang) (s : Staged) → IsWorld log ps last → (join_count log == most_joins) ≡ false → StartsAt log s
    → StagesAgree (log_after log 0 0 0 (Join name lang)) (stages_of ps ++ s ∷ [])
starts_agree log ps last name lang s w room starts =
    ⊎_elim
    (λ empty. subst (λ (t : Staged). StagesAgree (log_after log 0 0 0 (Join name lang)) (stages_of ps ++ t ∷ [])) (sym empty)
    (new_agrees log (stages_of ps) 0 (join_count log + 1) 0 0 name lang w.agree (join_placed log name lang room)))
    (λ behind. subst (λ (t : Staged). StagesAgree (log_after log 0 0 0 (Join name lang)) (stages_of ps ++ t ∷ [])) (sym behind)
    (subst (λ (m : Marked). StagesAgree (log_after log 0 0 0 (Join name lang)) (stages_of ps ++ stage_behind (join_count log + 1) (length log) m ∷ [])) (join_doc log name lang room)
    (snapshot_agrees log (stages_of ps) 0 (join_count log + 1) 0 0 name lang w.agree (join_placed log name lang room))))
    starts

pub starts_acts : (log : List Row) (s : Staged) → StartsAt log s → (s.acts ≡ []) × (s.joined ≡ length log) × (s.own ≡ join_count log + 1)
starts_acts log s starts =
    ⊎_elim
    (λ empty. subst (λ (t : Staged). (t.acts ≡ []) × (t.joined ≡ length log) × (t.own ≡ join_count log + 1)) (sym empty) (refl, refl, refl))
    (λ behind. subst (λ (t : Staged). (t.acts ≡ []) × (t.joined ≡ length log) × (t.own ≡ join_count log + 1)) (sym behind) (refl, refl, refl))
    starts

-- the join of a new performer
pub world_join : (log : List Row) (ps : List Performer) (last : List (Option ℕ)) (name : List ℕ) (lang : Lang) (q : Performer) → IsWorld log ps last → (join_count log == most_joins) ≡ false → StartsAt log q.stage.staged → IsKeptPerformer q
    → IsWorld (log_after log 0 0 0 (Join name lang)) (ps ++ q ∷ []) (last ++ None ∷ [])
world_join log ps last name lang q w room starts kept =
    let later : List Row = log_after log 0 0 0 (Join name lang) in
    let grown : later ≡ log ++ row_made log 0 0 0 (Join name lang) ∷ [] = ap (λ r. if is_accepted r then log ++ row_made log 0 0 0 (Join name lang) ∷ [] else log) (join_placed log name lang room) in
    let none : last_of later q ≡ None = ap (λ rows. last_row rows q.stage.staged) grown ∙ last_row-new log (row_made log 0 0 0 (Join name lang)) q.stage.staged (starts_acts log q.stage.staged starts).1 in
    record {
      agree = subst (StagesAgree later) (sym (map-append staged_of ps (q ∷ []))) (starts_agree log ps last name lang q.stage.staged w room starts);
      kept = λ i p e. ⊎_elim (λ l. w.kept i p l.0) (λ r. subst IsKeptPerformer (sym r.1) kept) (at_end ps q i p e);
      last_are = sym (map-append (last_of later) ps (q ∷ []) ∙ rw (others_last log ps last 0 0 (Join name lang) w (λ i p e. next_is_new log ps last i p w e), none) refl);
    }

-- what is asked again changes nothing
pub world_again : (log : List Row) (ps : List Performer) (last : List (Option ℕ)) (i at : ℕ) (p : Performer) (row : Row) → IsWorld log ps last → slice_get ps i ≡ Some p → slice_get last i ≡ Some (Some at) → slice_get log at ≡ Some row
    → log_after log 0 p.stage.staged.own row.num row.call ≡ log
world_again log ps last i at p row w e kept is =
    let same : Some (last_row log p.stage.staged) ≡ Some (Some at) = sym (last_kept log ps last i p w e) ∙ kept in
    let found : last_row log p.stage.staged ≡ Some at = cc in
    let known = last_row-is log p.stage.staged at found in
    let one : Some known.1.0 ≡ Some row = sym known.1.1 ∙ is in
    let row_is : known.1.0 ≡ row = cc in
    (again_kept log (stages_of ps) i at 0 p.stage.staged row w.agree (stage_at ps i p e) known.0 is (ap (λ (r : Row). r.who) (sym row_is) ∙ known.1.2)).1

-- the last row is a row
pub last_inside : (log : List Row) (ps : List Performer) (last : List (Option ℕ)) (i at : ℕ) (p : Performer) → IsWorld log ps last → slice_get ps i ≡ Some p → slice_get last i ≡ Some (Some at) → at < length log
last_inside log ps last i at p w e kept =
    let same : Some (last_row log p.stage.staged) ≡ Some (Some at) = sym (last_kept log ps last i p w e) ∙ kept in
    let found : last_row log p.stage.staged ≡ Some at = cc in
    let known = last_row-is log p.stage.staged at found in
    within_length log at known.1.0 known.1.1

pub world_joined : (log later : List Row) (ps qs : List Performer) (last lasts : List (Option ℕ)) (name : List ℕ) (lang : Lang) (q : Performer) → IsWorld log ps last → (join_count log == most_joins) ≡ false
    → StartsAt log q.stage.staged → IsKeptPerformer q → later ≡ log_after log 0 0 0 (Join name lang) → qs ≡ ps ++ q ∷ [] → lasts ≡ last ++ None ∷ [] → IsWorld later qs lasts
world_joined log later ps qs last lasts name lang q w room starts kept a b c = rw (a, b, c) (world_join log ps last name lang q w room starts kept)
