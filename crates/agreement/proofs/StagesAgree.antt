-- A world stays sound, step by step.
use Rattle.std.proofs.Common.{◌≡◌, ◌≢◌, ℕ, zero, suc, ◌+◌, ◌-◌, ◌<◌, ◌≤◌, Bool, true, false, nat_eq, if◌then◌else◌, None, Some, List, [], ◌∷◌, ◌++◌, length, take, drop, set, slice_get, refl, sym, ap, ◌∙◌, subst, inl, inr, ⊎_elim, ◌⊎◌, arith, append-nil}
use Rattle.std.specs.Prelude.{◌==◌}
use Rattle.std.proofs.lemmas.List.{take_all}
use Rattle.ot_text.specs.Marked.{Marked}
use Rattle.troop_entry.specs.declared.row.Row.{Row}
use Rattle.troop_entry.specs.declared.entry.Entry.{Entry}
use Rattle.troop_entry.specs.declared.call.Call.{Call}
use Rattle.troop_entry.specs.declared.call.Lang.{Lang}
use Rattle.troop_entry.specs.declared.call.Call.TheVariants.{Join, Leave, Edit, Eval, Reset}
use Rattle.troop_entry.specs.declared.reply.Reply.TheVariants.{Placed, Kept, Crowded}
use Rattle.stage_state.specs.declared.act.Act.{Act}
use Rattle.stage_state.specs.declared.act.Act.TheVariants.{Take, Next}
use Rattle.stage_state.specs.declared.act.Next.TheVariants.{Send}
use Rattle.log_model.specs.Log.{doc, entries, join_count}
use Rattle.troop_entry.specs.Kinds.{is_join}
use Rattle.log_model.specs.Legal.{IsLegal}
use Rattle.log_model.specs.Answers.{most_joins, answer, author, row_made, log_after}
use Rattle.log_model.proofs.IsLegal.{legal_after}
use Rattle.log_model.proofs.IsMember.{row_number}
use Rattle.log_model.proofs.CallUnder.{kept_again}
use Rattle.stage_state.specs.Machine.{taken_count, counted_from, next_of, CanAct}
use Rattle.stage_state.specs.Staged.{Staged, IsStagePlayed, machine, with_act, new_stage, stage_at}
use Rattle.stage_state.proofs.IsPlayed.{stage_placed}
use Rattle.agreement.specs.Agreement.{Agrees, pairs_by, is_own_join}
use Rattle.agreement.specs.Aligned.{IsAligned}
use Rattle.agreement.specs.Stages.{StagesAgree, is_local}
use Rattle.log_model.proofs.Lists.{at_end, slice_get-last, length-one_more, equal_true, nothing_left}
use Rattle.agreement.proofs.CanAct.{takes_next}
use Rattle.agreement.proofs.Dropped.{get_drop}
use Rattle.agreement.proofs.IsAligned.{after_aligned, aligned_agrees, can_send, differ_false, local_aligned, serve_aligned, take_aligned}
use Rattle.agreement.proofs.OwnAsks.{joined_row}

-- what stands in a list with one element replaced
set_get : {A : Type 0} (xs : List A) (i j : ℕ) (v y : A) → slice_get (set xs i v) j ≡ Some y → ((j ≡ i) × (y ≡ v)) ⊎ ((j ≡ i → ⊥) × (slice_get xs j ≡ Some y))
set_get [] i j v y e = absurd (cc)
set_get (x ∷ xs) zero zero v y e = let same : v ≡ y = cc in inl (refl, sym same)
set_get (x ∷ xs) zero (suc j) v y e = inr ((λ w. omega arith), e)
set_get (x ∷ xs) (suc i) zero v y e = inr ((λ w. omega arith), e)
set_get (x ∷ xs) (suc i) (suc j) v y e =
    ⊎_elim (λ l. inl (ap suc l.0, l.1)) (λ r. inr ((λ w. r.0 (omega arith)), r.1)) (set_get xs i j v y e)

kept_apart : (stages : List Staged) (i : ℕ) (s new : Staged) → slice_get stages i ≡ Some s → new.own ≡ s.own
    → ((j k : ℕ) (a b : Staged) → slice_get stages j ≡ Some a → slice_get stages k ≡ Some b → a.own ≡ b.own → j ≡ k)
    → (j k : ℕ) (a b : Staged) → slice_get (set stages i new) j ≡ Some a → slice_get (set stages i new) k ≡ Some b → a.own ≡ b.own → j ≡ k
kept_apart stages i s new is own apart j k a b e f same =
    ⊎_elim
    (λ l. ⊎_elim (λ m. l.0 ∙ sym m.0) (λ m. l.0 ∙ apart i k s b is m.1 (sym own ∙ ap (λ (x : Staged). x.own) (sym l.1) ∙ same)) (set_get stages i k new b f))
    (λ l. ⊎_elim (λ m. apart j i a s l.1 is (same ∙ ap (λ (x : Staged). x.own) m.1 ∙ own) ∙ sym m.0) (λ m. apart j k a b l.1 m.1 same) (set_get stages i k new b f))
    (set_get stages i j new a e)

-- one stage replaced by itself with one act more, on the same log or one that the others are aligned with
replaced : (log later : List Row) (stages : List Staged) (i seat : ℕ) (s : Staged) (a : Act) → StagesAgree log stages → slice_get stages i ≡ Some s → CanAct (machine s) a
    → IsLegal later → IsAligned later (with_act seat a s) None
    → ((j : ℕ) (r : Staged) → (j ≡ i → ⊥) → slice_get stages j ≡ Some r → IsAligned later r None) → StagesAgree later (set stages i (with_act seat a s))
replaced log later stages i seat s a h is can legal here others = record {
  legal = legal;
  played = λ j r e. ⊎_elim
      (λ l. subst (λ (x : Staged). IsStagePlayed x) (sym l.1) (stage_placed seat a s (h.played i s is) can))
      (λ l. h.played j r l.1)
      (set_get stages i j (with_act seat a s) r e);
  aligned = λ j r e. ⊎_elim
      (λ l. subst (λ (x : Staged). IsAligned later x None) (sym l.1) here)
      (λ l. others j r l.0 l.1)
      (set_get stages i j (with_act seat a s) r e);
  apart = kept_apart stages i s (with_act seat a s) is refl h.apart;
}

-- each stage of a sound world agrees with its log
pub each_agrees : (log : List Row) (stages : List Staged) (i : ℕ) (s : Staged) → StagesAgree log stages → slice_get stages i ≡ Some s → Agrees log (machine s) None
each_agrees log stages i s h is = aligned_agrees log s None h.legal (h.played i s is) (h.aligned i s is)

-- edits, evaluations, resets and leaves of a performer
pub local_agrees : (log : List Row) (stages : List Staged) (i seat : ℕ) (s : Staged) (a : Act) → StagesAgree log stages → slice_get stages i ≡ Some s → is_local a ≡ true → CanAct (machine s) a
    → StagesAgree log (set stages i (with_act seat a s))
local_agrees log stages i seat s a h is local can =
    replaced log log stages i seat s a h is can h.legal (local_aligned log s None seat a local (h.aligned i s is)) (λ j r other e. h.aligned j r e)

-- a performer takes the next entry, which it can
pub take_agrees : (log : List Row) (stages : List Staged) (i seat : ℕ) (s : Staged) (e : Entry) → StagesAgree log stages → slice_get stages i ≡ Some s → (machine s).gone ≡ false → slice_get (entries log) (taken_count (machine s)) ≡ Some e
    → CanAct (machine s) (Take e) × StagesAgree log (set stages i (with_act seat (Take e) s))
take_agrees log stages i seat s e h is here next =
    let can = takes_next log (machine s) None e h.legal (each_agrees log stages i s h is) here next in
    (can, replaced log log stages i seat s (Take e) h is can h.legal (take_aligned log s None seat e (h.aligned i s is) next) (λ j r other f. h.aligned j r f))

own_author : (log : List Row) (who : ℕ) (c : Call) → is_join c ≡ false → author log who c ≡ who
own_author log who (Join name lang) e = absurd (cc)
own_author log who Leave e = refl
own_author log who (Edit seen op) e = refl
own_author log who (Eval seen text) e = refl
own_author log who (Reset seen text) e = refl

-- a performer's next call goes to the log, which places it
pub serve_agrees : (log : List Row) (stages : List Staged) (i acts_seat seat num : ℕ) (s : Staged) (call : Call) → StagesAgree log stages → slice_get stages i ≡ Some s → next_of (machine s) ≡ Send num call
    → (answer log s.own num call ≡ Placed (length log) s.own) × StagesAgree (log_after log seat s.own num call) (set stages i (with_act acts_seat Next s))
serve_agrees log stages i acts_seat seat num s call h is sends =
    let served = serve_aligned log s acts_seat seat num call h.legal (h.played i s is) (h.aligned i s is) sends in (
      served.0,
      replaced log (log_after log seat s.own num call) stages i acts_seat s Next h is (can_send (machine s) num call sends) (legal_after log seat s.own num call h.legal) served.2
          (λ j r other e. after_aligned log r seat s.own num call None (h.aligned j r e)
          (ap (λ w. w == r.own) (own_author log s.own call served.1) ∙ differ_false s.own r.own (λ same. other (h.apart j i r s e is (sym same))))),
    )

-- whatever a number asks that no stage has
pub guest_agrees : (log : List Row) (stages : List Staged) (seat who num : ℕ) (call : Call) → StagesAgree log stages → ((i : ℕ) (s : Staged) → slice_get stages i ≡ Some s → author log who call ≢ s.own)
    → StagesAgree (log_after log seat who num call) stages
guest_agrees log stages seat who num call h none = record {
  legal = legal_after log seat who num call h.legal;
  played = h.played;
  aligned = λ i s e. after_aligned log s seat who num call None (h.aligned i s e) (differ_false (author log who call) s.own (none i s e));
  apart = h.apart;
}

-- the next number is nobody's
next_is_new : (log : List Row) (stages : List Staged) (i : ℕ) (s : Staged) → StagesAgree log stages → slice_get stages i ≡ Some s → join_count log + 1 ≢ s.own
next_is_new log stages i s h is same =
    let j = joined_row log s.joined s.own (h.aligned i s is).has_joined in
    let known = row_number log s.joined j.0 h.legal j.1 in
    omega (arith, known.1, j.3, same)

-- a join makes no row, or that of the next number
pub join_agrees : (log : List Row) (stages : List Staged) (seat who num : ℕ) (name : List ℕ) (lang : Lang) → StagesAgree log stages → StagesAgree (log_after log seat who num (Join name lang)) stages
join_agrees log stages seat who num name lang h = guest_agrees log stages seat who num (Join name lang) h (λ i s e. next_is_new log stages i s h e)

placed_number : (b : Bool) (n k i who : ℕ) → (if b then Crowded most_joins else Placed n k) ≡ Placed i who → who ≡ k
placed_number true n k i who e = absurd (cc)
placed_number false n k i who e = let same : k ≡ who = cc in sym same

nothing_behind : (xs : List Row) (x : Row) → drop (suc (length xs)) (xs ++ x ∷ []) ≡ []
nothing_behind [] x = refl
nothing_behind (y ∷ xs) x = nothing_behind xs x

-- a new performer's stage joins the others
added : (log later : List Row) (stages : List Staged) (new : Staged) → StagesAgree later stages → new.acts ≡ [] → IsAligned later new None
    → ((i : ℕ) (s : Staged) → slice_get stages i ≡ Some s → s.own ≢ new.own) → StagesAgree later (stages ++ new ∷ [])
added log later stages new h none here differ = record {
  legal = h.legal;
  played = λ i s e. ⊎_elim (λ l. h.played i s l.0) (λ r. rw (r.1, none) tt) (at_end stages new i s e);
  aligned = λ i s e. ⊎_elim (λ l. h.aligned i s l.0) (λ r. subst (λ (x : Staged). IsAligned later x None) (sym r.1) here) (at_end stages new i s e);
  apart = λ i j s r e f same. ⊎_elim
      (λ l. ⊎_elim (λ k. h.apart i j s r l.0 k.0 same) (λ k. absurd (differ i s l.0 (same ∙ ap (λ (x : Staged). x.own) k.1))) (at_end stages new j r f))
      (λ l. ⊎_elim (λ k. absurd (differ j r k.0 (sym same ∙ ap (λ (x : Staged). x.own) l.1))) (λ k. l.0 ∙ sym k.0) (at_end stages new j r f))
      (at_end stages new i s e);
}

-- behind its own join a stage is aligned, whether it starts at the empty log or behind the join
begin_aligned : (log : List Row) (row : Row) (who start : ℕ) (text : Marked) → is_join row.call ≡ true → row.who ≡ who → start ≤ suc (length log) → text ≡ doc (take start (log ++ row ∷ []))
    → IsAligned (log ++ row ∷ []) (record { own = who; joined = length log; start = start; text = text; acts = [] }) None
begin_aligned log row who start text join mine near text_is =
    let n : start + 0 ≡ start = omega arith in
    record {
      has_joined = ap (is_own_join who) (slice_get-last log row) ∙ rw (join, equal_true row.who who mine) refl;
      near = near;
      start_is = text_is;
      taken_is = rw n (sym (nothing_left start (entries (log ++ row ∷ []))));
      sent_is = ap (λ rows. pairs_by who rows ++ []) (nothing_behind log row);
    }

begins : (log : List Row) (stages : List Staged) (seat who w num start : ℕ) (name : List ℕ) (lang : Lang) (text : Marked) → StagesAgree log stages → answer log w num (Join name lang) ≡ Placed (length log) who
    → start ≤ suc (length log) → text ≡ doc (take start (log_after log seat w num (Join name lang)))
    → StagesAgree (log_after log seat w num (Join name lang)) (stages ++ record { own = who; joined = length log; start = start; text = text; acts = [] } ∷ [])
begins log stages seat who w num start name lang text h placed near text_is =
    let new : Staged = record { own = who; joined = length log; start = start; text = text; acts = [] } in
    let number : who ≡ join_count log + 1 = placed_number (join_count log == most_joins) (length log) (join_count log + 1) (length log) who placed in
    let later : log_after log seat w num (Join name lang) ≡ log ++ row_made log seat w num (Join name lang) ∷ [] = rw placed refl in
    added log (log_after log seat w num (Join name lang)) stages new (join_agrees log stages seat w num name lang h) refl
    (rw later (begin_aligned log (row_made log seat w num (Join name lang)) who start text refl (sym number) near (text_is ∙ ap (λ rows. doc (take start rows)) later)))
    (λ i s e same. next_is_new log stages i s h e (sym number ∙ sym same))

-- a performer joins at the empty log
pub new_agrees : (log : List Row) (stages : List Staged) (seat who w num : ℕ) (name : List ℕ) (lang : Lang) → StagesAgree log stages → answer log w num (Join name lang) ≡ Placed (length log) who
    → StagesAgree (log_after log seat w num (Join name lang)) (stages ++ new_stage who (length log) ∷ [])
new_agrees log stages seat who w num name lang h placed = begins log stages seat who w num 0 name lang [] h placed (omega arith) refl

-- or behind its join, with the document then
pub snapshot_agrees : (log : List Row) (stages : List Staged) (seat who w num : ℕ) (name : List ℕ) (lang : Lang) → StagesAgree log stages → answer log w num (Join name lang) ≡ Placed (length log) who
    → StagesAgree (log_after log seat w num (Join name lang)) (stages ++ stage_at who (length log) (doc (log_after log seat w num (Join name lang))) ∷ [])
snapshot_agrees log stages seat who w num name lang h placed =
    let later : log_after log seat w num (Join name lang) ≡ log ++ row_made log seat w num (Join name lang) ∷ [] = rw placed refl in
    let size : length (log_after log seat w num (Join name lang)) ≡ suc (length log) = ap length later ∙ length-one_more log (row_made log seat w num (Join name lang)) in
    begins log stages seat who w num (suc (length log)) name lang (doc (log_after log seat w num (Join name lang))) h placed (omega arith)
    (sym (ap doc (take_all (suc (length log)) (log_after log seat w num (Join name lang)) (omega (arith, size)))))

-- ---- asked again

-- the numbers of these pairs are n and above
abbrev AllFrom : ℕ → List (ℕ × Call) → Type 0
AllFrom n [] = Unit {0}
AllFrom n (p ∷ ps) = (n ≤ p.0) × AllFrom n ps

all_from : (n k : ℕ) (cs : List Call) → n ≤ k → AllFrom n (counted_from k cs)
all_from n k [] below = tt
all_from n k (c ∷ cs) below = (below, all_from n (suc k) cs (omega arith))

from_here : (b : Bool) (n : ℕ) (p : ℕ × Call) (ps : List (ℕ × Call)) → b ≡ true → AllFrom n (if b then p ∷ ps else ps) → n ≤ p.0
from_here true n p ps t a = a.0
from_here false n p ps t a = absurd (cc)

from_rest : (b : Bool) (n : ℕ) (p : ℕ × Call) (ps : List (ℕ × Call)) → AllFrom n (if b then p ∷ ps else ps) → AllFrom n ps
from_rest true n p ps a = a.1
from_rest false n p ps a = a

own_from : (n who : ℕ) (rows : List Row) (i : ℕ) (row : Row) → AllFrom n (pairs_by who rows) → slice_get rows i ≡ Some row → row.who ≡ who → n ≤ row.num
own_from n who [] i row all e is = absurd (cc)
own_from n who (x ∷ rows) zero row all e is =
    let same : x ≡ row = cc in
    let mine : nat_eq x.who who ≡ true = equal_true x.who who (ap (λ (r : Row). r.who) same ∙ is) in
    omega (arith, from_here (nat_eq x.who who) n (x.num, x.call) (pairs_by who rows) mine all, ap (λ (r : Row). r.num) same)
own_from n who (x ∷ rows) (suc i) row all e is = own_from n who rows i row (from_rest (nat_eq x.who who) n (x.num, x.call) (pairs_by who rows) all) e is

-- a performer's row behind its join has a number, so asked again it is told its place, and nothing changes
pub again_kept : (log : List Row) (stages : List Staged) (i at seat : ℕ) (s : Staged) (row : Row) → StagesAgree log stages → slice_get stages i ≡ Some s → s.joined < at → slice_get log at ≡ Some row → row.who ≡ s.own
    → (answer log s.own row.num row.call ≡ Kept at s.own) × (log_after log seat s.own row.num row.call ≡ log)
again_kept log stages i at seat s row h is past e mine =
    let a = h.aligned i s is in
    let all : AllFrom 1 (pairs_by s.own (drop (suc s.joined) log)) =
    subst (AllFrom 1) (sym (sym (append-nil (pairs_by s.own (drop (suc s.joined) log))) ∙ a.sent_is)) (all_from 1 1 (machine s).sent (omega arith)) in
    let some : 1 ≤ row.num = own_from 1 s.own (drop (suc s.joined) log) (at - suc s.joined) row all (get_drop log (suc s.joined) (at - suc s.joined) at (omega (arith, past)) ∙ e) mine in
    let kept = kept_again log at row seat h.legal e some in
    subst (λ (w : ℕ). (answer log w row.num row.call ≡ Kept at w) × (log_after log seat w row.num row.call ≡ log)) mine kept
