-- A machine whose takes and rows are those of a log agrees with it, whatever the order in which they came.
use Rattle.std.proofs.Common.{◌≡◌, ℕ, suc, ◌+◌, ◌≤◌, Bool, true, false, not, ◌||◌, nat_eq, if◌then◌else◌, Option, None, Some, List, [], ◌∷◌, ◌++◌, length, take, drop, slice_get, refl, sym, ap, ◌∙◌, append_assoc, arith, append-nil}
use Rattle.client_state.specs.declared.state.State.TheVariants.{Synchronized, Awaiting, WithBuffer}
use Rattle.troop_entry.specs.declared.call.Call.TheVariants.{Join, Leave, Edit, Eval, Reset}
use Rattle.stage_state.specs.declared.act.Act.TheVariants.{Typed}
use Rattle.stage_state.specs.declared.act.Next.TheVariants.{Send, NotYet, Done}
use Rattle.ot_text.specs.Change.{Change, base}
use Rattle.ot_transform.specs.Chain.{through}
use Rattle.client_state.specs.declared.state.State.{State}
use Rattle.client_state.specs.Standing.{FitsOn, pending_on}
use Rattle.client_state.specs.Pending.{outstanding, buffer, after_edit, after_own, sent_at_edit, is_awaiting}
use Rattle.troop_entry.specs.declared.row.Row.{Row}
use Rattle.troop_entry.specs.declared.call.Call.{Call}
use Rattle.log_model.specs.Log.{ops, doc, entries}
use Rattle.troop_entry.specs.Kinds.{is_leave}
use Rattle.troop_entry.specs.Entries.{entry_of, deed_of}
use Rattle.log_model.specs.Answers.{served_op}
use Rattle.agreement.specs.Agreement.{is_edit_by, SeenRises, edits_among, HasEnded}
use Rattle.log_model.specs.Legal.{IsLegal}
use Rattle.stage_state.specs.Machine.{Machine, next_number, taken_count, is_closed, edit_asked, eval_asked, after_own_edit, after_other_entry, after_sending, next_open, after_act, CanAct, IsSend}
use Rattle.log_model.specs.Told.{doc_told}
use Rattle.troop_entry.specs.Told.{op_told}
use Rattle.client_state.proofs.FitsOn.{typed_bases, told_bases, own_bases}
use Rattle.log_model.proofs.Lists.{within_length, take_next, nothing_left, length-one_more}
use Rattle.log_model.proofs.DocFrom.{doc_next}
use Rattle.log_model.proofs.IsLegal.{row_fits}
use Rattle.log_model.proofs.DocTold.{told_between, told_op, entries_next}
use Rattle.agreement.proofs.Leads.{but_leaves, but_leaves-append, edit_asks, queue}
use Rattle.agreement.proofs.OwnAsks.{any_leave, any_leave-append, no_own_edit, own_asks, own_asks-append, own_edit}
use Rattle.agreement.proofs.Pending.{awaits_none, not_true, open_end, outstanding-after_told, stays_synchronized}
use Rattle.agreement.proofs.SeenRises.{edits_among-append, rises-append, rises_suffix, rises_wider, seen_within}
use Rattle.agreement.proofs.Through.{behind, behind-some, behind_one, through_next}

-- u is the operation of an edit, moved through what was taken since it was made
pub record IsMoved (log : List Row) (t seen : ℕ) (op u : Change) : Type 0 where
  pub fits : base op ≡ length (doc (take seen log))
  pub moved : u ≡ through op (ops (drop seen (take t log)))

-- the outstanding operation is the one edit among the asks whose rows aren't taken
abbrev pub IsUntaken : List Row → ℕ → Option Change → List (ℕ × Change) → Type 0
IsUntaken log t None [] = Unit {0}
IsUntaken log t None (e ∷ es) = ⊥
IsUntaken log t (Some u) [] = ⊥
IsUntaken log t (Some u) (e ∷ []) = IsMoved log t e.0 e.1 u
IsUntaken log t (Some u) (e ∷ f ∷ es) = ⊥

untaken_typed : (log : List Row) (t : ℕ) (s : State) (op : Change) (es : List (ℕ × Change)) → FitsOn (after_edit s op) (length (doc (take t log))) → IsUntaken log t (outstanding s) es
    → IsUntaken log t (outstanding (after_edit s op)) (es ++ edits_among (edit_asked t (sent_at_edit s op)))
untaken_typed log t Synchronized op [] fit h = record { fits = fit; moved = ap (λ rows. through op (ops rows)) (sym (nothing_left t log)) }
untaken_typed log t Synchronized op (e ∷ es) fit h = absurd h
untaken_typed log t (Awaiting u) op es fit h = rw (append-nil es) h
untaken_typed log t (WithBuffer u v) op es fit h = rw (append-nil es) h

untaken_next : (log : List Row) (row : Row) (t : ℕ) (o : Option Change) (es : List (ℕ × Change)) → ((e : ℕ × Change) → es ≡ e ∷ [] → e.0 ≤ t) → slice_get log t ≡ Some row
    → IsUntaken log t o es → IsUntaken log (suc t) (behind o row.op) es
untaken_next log row t None [] before e h = tt
untaken_next log row t None (f ∷ es) before e h = absurd h
untaken_next log row t (Some u) [] before e h = absurd h
untaken_next log row t (Some u) (f ∷ []) before e h =
    rw (behind-some u row.op) (record { fits = h.fits; moved = ap (λ x. behind_one x row.op) h.moved ∙ sym (through_next log f.0 t f.1 row (before f refl) e) })
untaken_next log row t (Some u) (f ∷ g ∷ es) before e h = absurd h

untaken_own : (log : List Row) (t seen : ℕ) (op : Change) (o : Option Change) (es : List (ℕ × Change)) → IsUntaken log t o ((seen, op) ∷ es)
    → (u : Change) × (o ≡ Some u) × (es ≡ []) × (u ≡ through op (ops (drop seen (take t log))))
untaken_own log t seen op None es h = absurd h
untaken_own log t seen op (Some u) [] h = (u, refl, refl, h.moved)
untaken_own log t seen op (Some u) (f ∷ es) h = absurd h

untaken_after_own : (log : List Row) (t : ℕ) (s : State) → FitsOn (after_own s) (length (doc (take t log))) → IsUntaken log t (outstanding (after_own s)) (edits_among (edit_asked t (buffer s)))
untaken_after_own log t Synchronized fit = tt
untaken_after_own log t (Awaiting u) fit = tt
untaken_after_own log t (WithBuffer u v) fit = record { fits = fit; moved = ap (λ rows. through v (ops rows)) (sym (nothing_left t log)) }

-- a leave, if one was sent
abbrev pub leave_if : Bool → List Call
leave_if true = Leave ∷ []
leave_if false = []

-- the machine follows the log: what it took is the log's, and its asks begin with those of its rows that it took
pub record Follows (log : List Row) (m : Machine) : Type 0 where
  pub start_is : m.text ≡ doc (take m.start log)
  pub entries_is : m.entries ≡ drop m.start (take (taken_count m) (entries log))
  pub within : taken_count m ≤ length log
  pub seen_rises : SeenRises 0 (taken_count m) (queue m)
  pub untaken : List Call
  pub untaken_is : own_asks m.own (take (taken_count m) log) ++ untaken ≡ queue m
  pub accounted : IsUntaken log (taken_count m) (outstanding m.pending) (edits_among untaken)
  pub last : m.leave_sent ≡ true → HasEnded m
  pub asked : List Call
  pub sent_is : m.sent ≡ asked ++ leave_if m.leave_sent
  pub no_leave : any_leave asked ≡ false
  pub bases : FitsOn m.pending (length (doc (take (taken_count m) log)))

follows_doc : (log : List Row) (m : Machine) → IsLegal log → Follows log m → doc_told m.text m.entries ≡ doc (take (taken_count m) log)
follows_doc log m legal h =
    ap (λ d. doc_told d m.entries) h.start_is
    ∙ ap (doc_told (doc (take m.start log))) h.entries_is
    ∙ told_between log m.start (taken_count m) legal (omega arith)

-- an edit is typed
pub follow_typed : (log : List Row) (m : Machine) (op : Change) → IsLegal log → CanAct m (Typed op) → Follows log m → Follows log (after_act (Typed op) m)
follow_typed log m op legal can h =
    let more : List Call = edit_asked (taken_count m) (sent_at_edit m.pending op) in
    let bases' : FitsOn (after_edit m.pending op) (length (doc (take (taken_count m) log))) =
    typed_bases m.own m.pending op (doc (take (taken_count m) log)) (can.1 ∙ ap (λ d. length (pending_on m.own m.pending d)) (follows_doc log m legal h)) h.bases in
    record {
      start_is = h.start_is;
      entries_is = h.entries_is;
      within = h.within;
      seen_rises = rw (← append_assoc (but_leaves m.sent) m.outgoing more) (rises-append 0 (taken_count m) (taken_count m) (queue m) more h.seen_rises (edit_asks (taken_count m) (sent_at_edit m.pending op)));
      untaken = h.untaken ++ more;
      untaken_is = sym (append_assoc (own_asks m.own (take (taken_count m) log)) h.untaken more) ∙ ap (λ cs. cs ++ more) h.untaken_is ∙ append_assoc (but_leaves m.sent) m.outgoing more;
      accounted = rw (edits_among-append h.untaken more) (untaken_typed log (taken_count m) m.pending op (edits_among h.untaken) bases' h.accounted);
      last = λ e. absurd (open_end m.finishing _ can.0 (h.last e).finishing);
      asked = h.asked;
      sent_is = h.sent_is;
      no_leave = h.no_leave;
      bases = bases';
    }

-- calls without an operation are asked
pub follow_asked : (log : List Row) (m : Machine) (more : List Call) → SeenRises (taken_count m) (taken_count m) more → edits_among more ≡ [] → is_closed m ≡ false → Follows log m → Follows log (record m { outgoing = m.outgoing ++ more })
follow_asked log m more one none open_is h = record {
  start_is = h.start_is;
  entries_is = h.entries_is;
  within = h.within;
  seen_rises = rw (← append_assoc (but_leaves m.sent) m.outgoing more) (rises-append 0 (taken_count m) (taken_count m) (queue m) more h.seen_rises one);
  untaken = h.untaken ++ more;
  untaken_is = sym (append_assoc (own_asks m.own (take (taken_count m) log)) h.untaken more) ∙ ap (λ cs. cs ++ more) h.untaken_is ∙ append_assoc (but_leaves m.sent) m.outgoing more;
  accounted = rw (edits_among-append h.untaken more, none, append-nil (edits_among h.untaken)) h.accounted;
  last = λ e. absurd (open_end m.finishing _ open_is (h.last e).finishing);
  asked = h.asked;
  sent_is = h.sent_is;
  no_leave = h.no_leave;
  bases = h.bases;
}

-- an evaluation is no edit
pub eval_edits : (t : ℕ) (o : Option (List ℕ)) → edits_among (eval_asked t o) ≡ []
eval_edits t None = refl
eval_edits t (Some text) = refl

-- something goes out
pub follow_send : (log : List Row) (m : Machine) (calls : List Call) → m.outgoing ≡ calls → IsSend (next_open m calls) → Follows log m → Follows log (after_sending calls m)
follow_send log m (call ∷ calls) is s h =
    let stays : m.leave_sent ≡ false = not_true m.leave_sent (λ e. let none : call ∷ calls ≡ [] = sym is ∙ (h.last e).nothing_to_go in cc) in
    let plain : is_leave call ≡ false = no_leave_first call calls 0 (taken_count m) (rw is at (rises_suffix 0 (taken_count m) (but_leaves m.sent) m.outgoing h.seen_rises)) in
    let same : but_leaves (m.sent ++ call ∷ []) ++ calls ≡ queue m =
    ap (λ cs. cs ++ calls) (but_leaves-append m.sent (call ∷ []) ∙ ap (λ cs. but_leaves m.sent ++ cs) (one_stays call plain))
    ∙ append_assoc (but_leaves m.sent) (call ∷ []) calls ∙ ap (λ cs. but_leaves m.sent ++ cs) (sym is) in
    record {
      start_is = h.start_is;
      entries_is = h.entries_is;
      within = h.within;
      seen_rises = rw same h.seen_rises;
      untaken = h.untaken;
      untaken_is = h.untaken_is ∙ sym same;
      accounted = h.accounted;
      last = λ e. let wrong : false ≡ true = sym stays ∙ e in absurd (cc);
      asked = h.asked ++ call ∷ [];
      sent_is = ap (λ cs. cs ++ call ∷ []) (h.sent_is ∙ ap (λ b. h.asked ++ leave_if b) stays ∙ append-nil h.asked)
          ∙ sym (append-nil (h.asked ++ call ∷ []))
          ∙ sym (ap (λ b. (h.asked ++ call ∷ []) ++ leave_if b) stays);
      no_leave = any_leave-append h.asked (call ∷ []) ∙ ap (λ b. b || any_leave (call ∷ [])) h.no_leave ∙ ap (λ b. b || false) plain;
      bases = h.bases;
    }
  where
    no_leave_first : (c : Call) (cs : List Call) (lo hi : ℕ) → SeenRises lo hi (c ∷ cs) → is_leave c ≡ false
    no_leave_first (Join name lang) cs lo hi a = absurd a
    no_leave_first Leave cs lo hi a = absurd a
    no_leave_first (Edit x o) cs lo hi a = refl
    no_leave_first (Eval x t) cs lo hi a = refl
    no_leave_first (Reset x t) cs lo hi a = refl

    one_stays : (c : Call) → is_leave c ≡ false → but_leaves (c ∷ []) ≡ c ∷ []
    one_stays (Join name lang) e = refl
    one_stays Leave e = absurd (cc)
    one_stays (Edit x o) e = refl
    one_stays (Eval x t) e = refl
    one_stays (Reset x t) e = refl
follow_send log m [] is s h =
    let k = kept (next_number m) m.finishing (is_awaiting m.pending) m.leave_sent s in
    let same : but_leaves (m.sent ++ Leave ∷ []) ++ m.outgoing ≡ queue m = ap (λ cs. cs ++ m.outgoing) (but_leaves-append m.sent (Leave ∷ []) ∙ append-nil (but_leaves m.sent)) in
    record {
      start_is = h.start_is;
      entries_is = h.entries_is;
      within = h.within;
      seen_rises = rw same h.seen_rises;
      untaken = h.untaken;
      untaken_is = h.untaken_is ∙ sym same;
      accounted = h.accounted;
      last = λ e. record { finishing = k.0; synchronized = awaits_none m.pending k.1; nothing_to_go = is };
      asked = h.asked;
      sent_is = ap (λ cs. cs ++ Leave ∷ []) (h.sent_is ∙ ap (λ b. h.asked ++ leave_if b) k.2 ∙ append-nil h.asked);
      no_leave = h.no_leave;
      bases = h.bases;
    }
  where
    kept : (k : ℕ) (f w l : Bool) → IsSend (if not f || w then NotYet else (if l then Done else Send k Leave)) → (f ≡ true) × (w ≡ false) × (l ≡ false)
    kept k false w l s = absurd s
    kept k true true l s = absurd s
    kept k true false true s = absurd s
    kept k true false false s = (refl, refl, refl)

-- what is known of an entry that is to be taken
pub record IsNextRow (log : List Row) (m : Machine) (row : Row) : Type 0 where
  pub here : slice_get log (taken_count m) ≡ Some row
  pub rest : List Call
  pub first : (untaken : List Call) → own_asks m.own (take (taken_count m) log) ++ untaken ≡ queue m → (r : List Call) × (untaken ≡ own_asks m.own (row ∷ []) ++ r)

-- an entry is taken
pub follow_take : (b : Bool) (log : List Row) (m : Machine) (row : Row) → IsLegal log → is_edit_by m.own row ≡ b → IsNextRow log m row → Follows log m
    → Follows log (if b then after_own_edit (entry_of (taken_count m) row) m else after_other_entry (entry_of (taken_count m) row) m)
follow_take false log m row legal is next h =
    let e : slice_get log (taken_count m) ≡ Some row = next.here in
    let r = next.first h.untaken h.untaken_is in
    let told : op_told (deed_of row.call row.op) ≡ row.op = told_op log (taken_count m) row legal e in
    let n : m.start + length (m.entries ++ entry_of (taken_count m) row ∷ []) ≡ suc (taken_count m) = omega (arith, length-one_more m.entries (entry_of (taken_count m) row)) in
    let same_edits : edits_among h.untaken ≡ edits_among r.0 =
    ap edits_among r.1 ∙ edits_among-append (own_asks m.own (row ∷ [])) r.0 ∙ ap (λ es. es ++ edits_among r.0) (no_own_edit (nat_eq row.who m.own) row.call is) in
    let tail : SeenRises 0 (taken_count m) h.untaken = rises_suffix 0 (taken_count m) (own_asks m.own (take (taken_count m) log)) h.untaken (rw h.untaken_is h.seen_rises) in
    record {
      start_is = h.start_is;
      entries_is = rw n (ap (λ es. es ++ entry_of (taken_count m) row ∷ []) h.entries_is ∙ sym (entries_next log m.start (taken_count m) row (omega arith) e));
      within = omega (arith, n, within_length log (taken_count m) row e);
      seen_rises = rw n (rises_wider 0 (taken_count m) 0 (suc (taken_count m)) (queue m) (omega arith) (omega arith) h.seen_rises);
      untaken = r.0;
      untaken_is = rw n (ap (λ cs. cs ++ r.0) (ap (own_asks m.own) (take_next log (taken_count m) row e) ∙ own_asks-append m.own (take (taken_count m) log) (row ∷ []))
          ∙ append_assoc (own_asks m.own (take (taken_count m) log)) (own_asks m.own (row ∷ [])) r.0
          ∙ ap (λ cs. own_asks m.own (take (taken_count m) log) ++ cs) (sym r.1)
          ∙ h.untaken_is);
      accounted = rw (n, told, outstanding-after_told m.pending row.op, ← same_edits)
          (untaken_next log row (taken_count m) (outstanding m.pending) (edits_among h.untaken) (λ f g. seen_within 0 (taken_count m) h.untaken f [] tail g) e h.accounted);
      last = λ l. let before = h.last l in record {
        finishing = before.finishing;
        synchronized = stays_synchronized m.pending (op_told (deed_of row.call row.op)) before.synchronized;
        nothing_to_go = before.nothing_to_go;
      };
      asked = h.asked;
      sent_is = h.sent_is;
      no_leave = h.no_leave;
      bases = rw (n, told, doc_next log (taken_count m) row e) (told_bases row.who m.pending row.op (doc (take (taken_count m) log)) h.bases (row_fits log (taken_count m) row legal e));
    }
follow_take true log m row legal is next h =
    let e : slice_get log (taken_count m) ≡ Some row = next.here in
    let r = next.first h.untaken h.untaken_is in
    let n : m.start + length (m.entries ++ entry_of (taken_count m) row ∷ []) ≡ suc (taken_count m) = omega (arith, length-one_more m.entries (entry_of (taken_count m) row)) in
    let x = own_edit (nat_eq row.who m.own) row.call is in
    let the_edits : edits_among h.untaken ≡ (x.0, x.1) ∷ edits_among r.0 =
    ap edits_among r.1 ∙ edits_among-append (own_asks m.own (row ∷ [])) r.0 ∙ ap (λ es. es ++ edits_among r.0) x.3 in
    let known = untaken_own log (taken_count m) x.0 x.1 (outstanding m.pending) (edits_among r.0) (rw the_edits at h.accounted) in
    let made_is : row.op ≡ Some known.0 = ap (λ (r : Row). r.op) (legal (taken_count m) row e).same ∙ ap (served_op (take (taken_count m) log)) x.2 ∙ ap Some (sym known.3) in
    let more : List Call = edit_asked (suc (taken_count m)) (buffer m.pending) in
    let bases' : FitsOn (after_own m.pending) (length (doc (take (suc (taken_count m)) log))) =
    rw (doc_next log (taken_count m) row e, made_is) (own_bases row.who m.pending (Some known.0) (doc (take (taken_count m) log)) (sym known.1) h.bases) in
    record {
      start_is = h.start_is;
      entries_is = rw n (ap (λ es. es ++ entry_of (taken_count m) row ∷ []) h.entries_is ∙ sym (entries_next log m.start (taken_count m) row (omega arith) e));
      within = omega (arith, n, within_length log (taken_count m) row e);
      seen_rises = rw (n, ← append_assoc (but_leaves m.sent) m.outgoing more)
          (rises-append 0 (suc (taken_count m)) (suc (taken_count m)) (queue m) more (rises_wider 0 (taken_count m) 0 (suc (taken_count m)) (queue m) (omega arith) (omega arith) h.seen_rises) (edit_asks (suc (taken_count m)) (buffer m.pending)));
      untaken = r.0 ++ more;
      untaken_is = rw n (sym (append_assoc (own_asks m.own (take (suc (taken_count m)) log)) r.0 more)
          ∙ ap (λ cs. cs ++ more) (ap (λ cs. cs ++ r.0) (ap (own_asks m.own) (take_next log (taken_count m) row e) ∙ own_asks-append m.own (take (taken_count m) log) (row ∷ []))
          ∙ append_assoc (own_asks m.own (take (taken_count m) log)) (own_asks m.own (row ∷ [])) r.0
          ∙ ap (λ cs. own_asks m.own (take (taken_count m) log) ++ cs) (sym r.1)
          ∙ h.untaken_is)
          ∙ append_assoc (but_leaves m.sent) m.outgoing more);
      accounted = rw (n, edits_among-append r.0 more, known.2) (untaken_after_own log (suc (taken_count m)) m.pending bases');
      last = λ l. let wrong : None ≡ Some known.0 = ap outstanding (sym (h.last l).synchronized) ∙ known.1 in absurd (cc);
      asked = h.asked;
      sent_is = h.sent_is;
      no_leave = h.no_leave;
      bases = rw n bases';
    }
