-- What a performer awaits and has to send, and when it is drained.
use Rattle.std.proofs.Common.{◌≡◌, ℕ, zero, suc, ◌+◌, ◌-◌, ◌≤◌, Bool, true, false, ◌&&◌, if◌then◌else◌, Option, None, Some, List, [], ◌∷◌, ◌++◌, length, drop, slice_get, refl, sym, ap, ◌∙◌, subst, arith, length-append}
use Rattle.std.specs.Prelude.{All, ◌==◌}
use Rattle.std.specs.Bool.{Decides}
use Rattle.std.specs.List.{list_all}
use Rattle.std.proofs.lemmas.Bool.Decides.{Decides-eqb}
use Rattle.std.proofs.lemmas.List.Elements.{All-head, All-tail}
use Rattle.std.proofs.lemmas.Slice.Eq.{slice_eq-Decides}
use Rattle.ot_text.specs.Change.{Change}
use Rattle.ot_text.specs.Marked.{Marked}
use Rattle.troop_entry.specs.declared.call.Call.{Call}
use Rattle.troop_entry.specs.declared.entry.Entry.{Entry}
use Rattle.troop_entry.specs.declared.row.Row.{Row}
use Rattle.troop_entry.specs.Told.{is_edit_of, op_told}
use Rattle.log_model.specs.Legal.{IsLegal}
use Rattle.log_model.specs.Log.{doc}
use Rattle.client_state.specs.declared.state.State.{State}
use Rattle.client_state.specs.declared.state.State.TheVariants.{Synchronized, Awaiting, WithBuffer}
use Rattle.client_state.specs.Pending.{after_own, after_told, buffer, outstanding}
use Rattle.stage_state.specs.declared.act.Act.TheVariants as act
use Rattle.stage_state.specs.Machine.{Machine, after_entry_taken, after_other_entry, after_own_edit, after_sending, edit_asked, held_text, taken_count}
use Rattle.stage_state.specs.Replies.{accepts}
use Rattle.stage_state.specs.Staged.{machine, with_act}
use Rattle.stage_state.proofs.Machine.{machine-with_act}
use Rattle.agreement.specs.Agreement.{Agrees, IsAccountedFor, edit_positions, edits_among, positions_ahead}
use Rattle.agreement.proofs.Document.{holds_all}
use Rattle.replay_run.specs.Shown.{awaits}
use Rattle.world_core.specs.Sound.{IsSoundPerformer}
use Rattle.world_core.specs.States.{PerformerState}
use Rattle.world_core.specs.Steps.{after_next_entry, after_own_act}
use Rattle.drill_run.specs.Draining.{IsDrained}
use Rattle.drill_run.specs.Summary.{all_hold, same_doc, same_mark}

-- how many operations a performer awaits and holds back
abbrev pub awaited : PerformerState → ℕ
awaited p = awaits (machine p.staged).pending

-- these, and the calls that it has to send: each may still lead to an own entry
abbrev pub potential : PerformerState → ℕ
potential p = awaited p + length (machine p.staged).outgoing

-- it awaits and holds back at most two
pub awaits_two : (s : State) → awaits s ≤ 2
awaits_two Synchronized = omega arith
awaits_two (Awaiting u) = omega arith
awaits_two (WithBuffer u v) = omega arith

-- ---- serving and taking

sending_leaves : (calls : List Call) (m : Machine) → (after_sending calls m).pending ≡ m.pending
sending_leaves [] m = refl
sending_leaves (c ∷ calls) m = refl

-- to send leaves what is awaited
pub serve_leaves : (p : PerformerState) → awaited (after_own_act act.Next p) ≡ awaited p
serve_leaves p = by_test (accepts (machine p.staged) act.Next)
  where
    by_test : (b : Bool) → awaits (machine (if b then with_act 0 act.Next p.staged else p.staged)).pending ≡ awaits (machine p.staged).pending
    by_test true = ap (λ (m : Machine). awaits m.pending) (machine-with_act 0 act.Next p.staged) ∙ ap awaits (sending_leaves (machine p.staged).outgoing (machine p.staged))
    by_test false = refl

own_edit_potential : (s : State) (t : ℕ) (calls : List Call) → awaits (after_own s) + length (calls ++ edit_asked t (buffer s)) ≤ awaits s + length calls
own_edit_potential Synchronized t calls = omega (arith, length-append calls (edit_asked t None))
own_edit_potential (Awaiting u) t calls = omega (arith, length-append calls (edit_asked t None))
own_edit_potential (WithBuffer u v) t calls = omega (arith, length-append calls (edit_asked t (Some v)))

told_awaits : (s : State) (o : Option Change) → awaits (after_told s o) ≡ awaits s
told_awaits s None = refl
told_awaits Synchronized (Some op) = refl
told_awaits (Awaiting u) (Some op) = refl
told_awaits (WithBuffer u v) (Some op) = refl

taken_potential : (b : Bool) (e : Entry) (m : Machine) → awaits (if b then after_own_edit e m else after_other_entry e m).pending + length (if b then after_own_edit e m else after_other_entry e m).outgoing ≤ awaits m.pending + length m.outgoing
taken_potential true e m = own_edit_potential m.pending (suc (taken_count m)) m.outgoing
taken_potential false e m = omega (arith, told_awaits m.pending (op_told e.deed))

-- no entry raises the potential
pub take_leaves : (o : Option Entry) (p : PerformerState) → potential (after_next_entry o p) ≤ potential p
take_leaves None p = omega arith
take_leaves (Some e) p =
    subst (λ (m : Machine). awaits m.pending + length m.outgoing ≤ potential p) (sym (machine-with_act 0 (act.Take e) p.staged)) (taken_potential (is_edit_of (machine p.staged).own e) e (machine p.staged))

-- ---- a performer who has taken all

drop_past : (log : List Row) (t : ℕ) → length log ≤ t → drop t log ≡ []
drop_past log t past = drop_all log t past
  where
    drop_all : (rows : List Row) (t : ℕ) → length rows ≤ t → drop t rows ≡ []
    drop_all [] zero past = refl
    drop_all [] (suc t) past = refl
    drop_all (row ∷ rows) zero past = absurd (omega (arith, past))
    drop_all (row ∷ rows) (suc t) past = drop_all rows t (omega (arith, past))

none_ahead : (log : List Row) (own t : ℕ) → length log ≤ t → positions_ahead log own t ≡ []
none_ahead log own t past = ap (edit_positions own t) (drop_past log t past)

edits_few : (calls : List Call) → length calls ≡ 0 → edits_among calls ≡ []
edits_few [] none = refl
edits_few (c ∷ calls) none = absurd (omega (arith, none))

-- what is outstanding waits to be sent
outstanding_waits : (log : List Row) (own t : ℕ) (u : Change) (es : List (ℕ × Change)) → length log ≤ t → IsAccountedFor log own t (Some u) es → es ≡ [] → ⊥
outstanding_waits log own t u [] past h none = let no : h.at ∷ [] ≡ [] = sym h.ahead ∙ none_ahead log own t past in absurd (cc)
outstanding_waits log own t u (e ∷ es) past h none = absurd (cc)

some_wait : (log : List Row) (m : Machine) (u : Change) → Agrees log m None → length log ≤ taken_count m → outstanding m.pending ≡ Some u → length m.outgoing ≡ 0 → ⊥
some_wait log m u h past is none =
    outstanding_waits log m.own (taken_count m) u (edits_among m.outgoing) past (subst (λ o. IsAccountedFor log m.own (taken_count m) o (edits_among m.outgoing)) is h.accounted) (edits_few m.outgoing none)

by_state : (log : List Row) (m : Machine) (most : ℕ) (s : State) → m.pending ≡ s → Agrees log m None → length log ≤ taken_count m → awaits s + length m.outgoing ≤ most → awaits s ≤ most - 1
by_state log m most Synchronized is h past within = omega arith
by_state log m most (Awaiting u) is h past within = by_count (length m.outgoing) refl
  where
    by_count : (n : ℕ) → length m.outgoing ≡ n → 1 ≤ most - 1
    by_count zero none = absurd (some_wait log m u h past (ap outstanding is) none)
    by_count (suc n) some = omega (arith, some, within)
by_state log m most (WithBuffer u v) is h past within = by_count (length m.outgoing) refl
  where
    by_count : (n : ℕ) → length m.outgoing ≡ n → 2 ≤ most - 1
    by_count zero none = absurd (some_wait log m u h past (ap outstanding is) none)
    by_count (suc n) some = omega (arith, some, within)

-- a performer who has taken all awaits one operation less than its potential was, if it awaits any
pub awaits_less : (log : List Row) (most : ℕ) (p : PerformerState) → IsSoundPerformer log p → potential p ≤ most → length log - taken_count (machine p.staged) ≡ 0 → awaited p ≤ most - 1
awaits_less log most p sound within all = by_state log (machine p.staged) most (machine p.staged).pending refl sound.agrees (omega (arith, all)) within

synchronized : (s : State) → awaits s ≡ 0 → s ≡ Synchronized
synchronized Synchronized none = refl
synchronized (Awaiting u) none = absurd (omega (arith, none))
synchronized (WithBuffer u v) none = absurd (omega (arith, none))

no_calls : (calls : List Call) → length calls ≡ 0 → calls ≡ []
no_calls [] none = refl
no_calls (c ∷ calls) none = absurd (omega (arith, none))

-- with no potential it is drained
pub is_drained : (log : List Row) (p : PerformerState) → IsSoundPerformer log p → potential p ≤ 0 → length log - taken_count (machine p.staged) ≡ 0 → IsDrained (length log) p
is_drained log p sound none all = record {
  taken_all = omega (arith, all, sound.agrees.within);
  awaits_nothing = synchronized (machine p.staged).pending (omega (arith, none));
  nothing_to_go = no_calls (machine p.staged).outgoing (omega (arith, none));
}

-- ---- a drained performer holds the log's document

mark_decides : (a b : ℕ × ℕ) → Decides (same_mark a b) (a ≡ b)
mark_decides (a, i) (b, j) = by_tests (a == b) (i == j) (Decides-eqb a b) (Decides-eqb i j)
  where
    by_tests : (p q : Bool) → Decides p (a ≡ b) → Decides q (i ≡ j) → Decides (p && q) (◌≡◌ {A = ℕ × ℕ} (a, i) (b, j))
    by_tests true true d e = (λ _. rw (d.0 refl, e.0 refl) refl, λ _. refl)
    by_tests true false d e = (λ no. cc, λ is. e.1 (ap (λ (m : ℕ × ℕ). m.1) is))
    by_tests false q d e = (λ no. cc, λ is. d.1 (ap (λ (m : ℕ × ℕ). m.0) is))

-- the test of documents decides whether they are equal
pub doc_decides : (a b : Marked) → Decides (same_doc a b) (a ≡ b)
doc_decides a b = slice_eq-Decides mark_decides a b (same_doc a b) refl

holds : (log : List Row) (p : PerformerState) → IsLegal log → IsSoundPerformer log p → IsDrained (length log) p → held_text (machine p.staged) ≡ doc log
holds log p legal sound h = holds_all log (machine p.staged) None legal sound.agrees h.taken_all (ap outstanding h.awaits_nothing)

-- so each of them does
pub drained_hold : (log : List Row) (ps : List PerformerState) → IsLegal log → All (IsSoundPerformer log) ps → All (IsDrained (length log)) ps → all_hold (doc log) ps ≡ true
drained_hold log [] legal sound all = refl
drained_hold log (p ∷ ps) legal sound all =
    let here : same_doc (held_text (machine p.staged)) (doc log) ≡ true =
    (doc_decides (held_text (machine p.staged)) (doc log)).1 (holds log p legal (All-head (IsSoundPerformer log) p ps sound) (All-head (IsDrained (length log)) p ps all)) in
    ap (λ b. b && all_hold (doc log) ps) here ∙ drained_hold log ps legal (All-tail (IsSoundPerformer log) p ps sound) (All-tail (IsDrained (length log)) p ps all)
