-- From the end of a run to the agreement.
use Rattle.std.proofs.Common.{◌≡◌, ℕ, suc, ◌+◌, ◌<◌, ◌≤◌, Bool, true, false, not, ◌&&◌, ◌||◌, nat_eq, if◌then◌else◌, Option, None, Some, List, [], ◌∷◌, ◌++◌, length, take, drop, slice_get, refl, sym, ap, ◌∙◌, append_assoc, subst, take-append-drop, arith, append-nil}
use Rattle.std.proofs.lemmas.List.{length-take-le}
use Rattle.troop_entry.specs.declared.call.Call.TheVariants.{Join, Leave, Edit, Eval, Reset}
use Rattle.stage_state.specs.declared.act.Act.TheVariants.{Typed, Eval as EvalAt, Reset as ResetTo, Take, Next, Finish, Halt}
use Rattle.stage_state.specs.declared.act.Next.TheVariants.{Done}
use Rattle.ot_text.specs.Change.{Change}
use Rattle.ot_transform.specs.Chain.{through}
use Rattle.client_state.specs.Pending.{outstanding}
use Rattle.troop_entry.specs.declared.row.Row.{Row}
use Rattle.troop_entry.specs.declared.entry.Entry.{Entry}
use Rattle.troop_entry.specs.declared.call.Call.{Call}
use Rattle.stage_state.specs.declared.act.Act.{Act}
use Rattle.log_model.specs.Log.{ops, doc, entries, has_leave}
use Rattle.troop_entry.specs.Kinds.{is_leave}
use Rattle.troop_entry.specs.Entries.{entry_of}
use Rattle.log_model.specs.Answers.{served_op}
use Rattle.agreement.specs.Agreement.{is_edit_by, lane_waiting, waiting_calls, SeenRises, edits_among, op_of_row, IsServed, IsAccountedFor, is_own_join, is_leaving, LaneFits}
use Rattle.log_model.specs.Legal.{IsLegal}
use Rattle.stage_state.specs.Machine.{Machine, machine_from, taken_count, block_held, eval_asked, after_own_edit, after_other_entry, next_open, after_act, after_acts, CanAct, IsPlayed, IsSend}
use Rattle.troop_entry.specs.Told.{is_edit_of}
use Rattle.log_model.proofs.Lists.{slice_get-append, slice_get-last, slice_get-front, within_length, drop_next, nothing_left, split_at, length-one_more}
use Rattle.agreement.proofs.Agreed.{Agreed, call_lane, calls_by}
use Rattle.agreement.proofs.Dropped.{get_drop}
use Rattle.agreement.proofs.EntryOf.{entry_back, own_edit-entry_of}
use Rattle.agreement.proofs.Follows.{Follows, IsNextRow, IsUntaken, eval_edits, follow_asked, follow_send, follow_take, follow_typed, leave_if}
use Rattle.agreement.proofs.Leads.{Leads, act_leads, acts_lead, added_asks, added_by, but_leaves, but_leaves-append, eval_asks, queue, rises_led, take_queue, taken_next}
use Rattle.agreement.proofs.Ops.{ops-append}
use Rattle.agreement.proofs.OwnAsks.{OneRow, any_leave, any_leave-append, append-cancel, asks_of-asks, calls_by-both, edits_none, first_untaken, has_join-at, has_leave-calls, none_before, one_row, own_asks, own_asks-append, row_seen}
use Rattle.agreement.proofs.SeenRises.{edits_among-append, rises-append, rises_suffix, seen_within}
use Rattle.log_model.proofs.Lists.{take-take}
use Rattle.ot_transform.proofs.Through.{through-append}
use Rattle.stage_state.proofs.Machine.{taken_entries}

-- what the end of a run is to show
pub record Ends (log : List Row) (n : Machine) : Type 0 where
  pub entries_is : n.entries ≡ drop n.start (take (taken_count n) (entries log))
  pub within : taken_count n ≤ length log
  pub rest : List Call
  pub queue_is : own_asks n.own log ++ rest ≡ queue n

next_entry : (xs ys more : List Entry) (b t : ℕ) (e : Entry) → (ys ++ e ∷ []) ++ more ≡ drop b (take t xs) → slice_get xs (b + length ys) ≡ Some e
next_entry xs ys more b t e is =
    let below : length ys < length (ys ++ e ∷ []) = omega (arith, length-one_more ys e) in
    (slice_get-front xs (b + length ys) t e
    (sym (get_drop (take t xs) b (length ys) (b + length ys) refl)
    ∙ ap (λ zs. slice_get zs (length ys)) (sym is)
    ∙ slice_get-append (ys ++ e ∷ []) more (length ys) below
    ∙ slice_get-last ys e)).1

start_kept : (b : Bool) (e : Entry) (m : Machine) → (if b then after_own_edit e m else after_other_entry e m).start ≡ m.start
start_kept true e m = refl
start_kept false e m = refl

own_kept : (b : Bool) (e : Entry) (m : Machine) → (if b then after_own_edit e m else after_other_entry e m).own ≡ m.own
own_kept true e m = refl
own_kept false e m = refl

-- an entry that was taken is the log's next
row_of : (b : Bool) (log : List Row) (e : Entry) (m n : Machine) → IsLegal log → Leads (if b then after_own_edit e m else after_other_entry e m) n → Ends log n
    → (row : Row) × (e ≡ entry_of (taken_count m) row) × IsNextRow log m row
row_of b log e m n legal l end =
    let after : Machine = (if b then after_own_edit e m else after_other_entry e m) in
    let start : n.start ≡ m.start = l.start ∙ start_kept b e m in
    let own : n.own ≡ m.own = l.own ∙ own_kept b e m in
    let is : slice_get (entries log) (taken_count m) ≡ Some e =
    next_entry (entries log) m.entries l.more m.start (taken_count n) e
    (sym (l.entries ∙ ap (λ es. es ++ l.more) (taken_entries b e m)) ∙ end.entries_is ∙ ap (λ k. drop k (take (taken_count n) (entries log))) start) in
    let r = entry_back 0 (taken_count m) log e is in
    let asks : SeenRises (suc (taken_count m)) (taken_count n) (added_by b m ++ l.new) =
    rises-append (suc (taken_count m)) (suc (taken_count m)) (taken_count n) (added_by b m) l.new (added_asks b m) (rw (taken_next b e m) at l.seen_rises) in
    let t : ℕ = taken_count m in
    let d : List Row = drop (suc (taken_count m)) log in
    let parts : own_asks m.own log ≡ own_asks m.own (take (taken_count m) log) ++ (own_asks m.own (r.0 ∷ []) ++ own_asks m.own d) =
    ap (own_asks m.own) (sym (take-append-drop (taken_count m) log) ∙ ap (λ rows. take (taken_count m) log ++ rows) (drop_next log (taken_count m) r.0 r.1))
    ∙ own_asks-append m.own (take (taken_count m) log) (r.0 ∷ d)
    ∙ ap (λ cs. own_asks m.own (take (taken_count m) log) ++ cs) (own_asks-append m.own (r.0 ∷ []) d) in (
      r.0,
      r.2 ∙ ap (λ k. entry_of k r.0) (let z : 0 + taken_count m ≡ taken_count m = omega arith in z),
      record {
        here = r.1;
        rest = end.rest;
        first = λ untaken untaken_is.
            let whole : own_asks m.own (take (taken_count m) log) ++ (untaken ++ (added_by b m ++ l.new)) ≡ own_asks m.own (take (taken_count m) log) ++ (own_asks m.own (r.0 ∷ []) ++ (own_asks m.own d ++ end.rest)) =
            sym (append_assoc (own_asks m.own (take (taken_count m) log)) untaken (added_by b m ++ l.new))
            ∙ ap (λ cs. cs ++ (added_by b m ++ l.new)) untaken_is
            ∙ sym (append_assoc (queue m) (added_by b m) l.new)
            ∙ ap (λ cs. cs ++ l.new) (sym (take_queue b e m))
            ∙ sym l.queued
            ∙ sym end.queue_is
            ∙ ap (λ w. own_asks w log ++ end.rest) own
            ∙ ap (λ cs. cs ++ end.rest) parts
            ∙ append_assoc (own_asks m.own (take (taken_count m) log)) (own_asks m.own (r.0 ∷ []) ++ own_asks m.own d) end.rest
            ∙ ap (λ cs. own_asks m.own (take (taken_count m) log) ++ cs) (append_assoc (own_asks m.own (r.0 ∷ [])) (own_asks m.own d) end.rest) in
            first_untaken (nat_eq r.0.who m.own) (taken_count m) (taken_count n) r.0.call untaken (added_by b m ++ l.new) (own_asks m.own d ++ end.rest) (row_seen log (taken_count m) r.0 legal r.1) asks
            (append-cancel (own_asks m.own (take (taken_count m) log)) (untaken ++ (added_by b m ++ l.new)) (own_asks m.own (r.0 ∷ []) ++ (own_asks m.own d ++ end.rest)) whole);
      },
    )

follow_taken : (log : List Row) (e : Entry) (m n : Machine) → IsLegal log → Leads (after_act (Take e) m) n → Ends log n → Follows log m → Follows log (after_act (Take e) m)
follow_taken log e m n legal l end h =
    let r = row_of (is_edit_of m.own e) log e m n legal l end in
    let by : is_edit_by m.own r.0 ≡ is_edit_of m.own e = sym (own_edit-entry_of m.own (taken_count m) r.0) ∙ ap (is_edit_of m.own) (sym r.1) in
    let same = follow_take (is_edit_of m.own e) log m r.0 legal by r.2 h in
    subst (λ (x : Entry). Follows log (if is_edit_of m.own e then after_own_edit x m else after_other_entry x m)) (sym r.1) same

send_open : (b : Bool) (m : Machine) (calls : List Call) → IsSend (if b then Done else next_open m calls) → IsSend (next_open m calls)
send_open true m calls s = absurd s
send_open false m calls s = s

follow_act : (log : List Row) (a : Act) (m n : Machine) → IsLegal log → CanAct m a → Leads (after_act a m) n → Ends log n → Follows log m → Follows log (after_act a m)
follow_act log (Typed op) m n legal can l end h = follow_typed log m op legal can h
follow_act log (EvalAt place) m n legal can l end h =
    follow_asked log m (eval_asked (taken_count m) (block_held place m)) (eval_asks (taken_count m) (block_held place m)) (eval_edits (taken_count m) (block_held place m)) can.0 h
follow_act log (ResetTo text) m n legal can l end h = follow_asked log m (Reset (taken_count m) text ∷ []) (omega arith, omega arith) refl can h
follow_act log (Take e) m n legal can l end h = follow_taken log e m n legal l end h
follow_act log Next m n legal can l end h = follow_send log m m.outgoing refl (send_open (m.halted || m.gone) m m.outgoing can) h
follow_act log Finish m n legal can l end h = record {
  start_is = h.start_is;
  entries_is = h.entries_is;
  within = h.within;
  seen_rises = h.seen_rises;
  untaken = h.untaken;
  untaken_is = h.untaken_is;
  accounted = h.accounted;
  last = λ e. record { finishing = refl; synchronized = (h.last e).synchronized; nothing_to_go = (h.last e).nothing_to_go };
  asked = h.asked;
  sent_is = h.sent_is;
  no_leave = h.no_leave;
  bases = h.bases;
}
follow_act log Halt m n legal can l end h = record {
  start_is = h.start_is;
  entries_is = h.entries_is;
  within = h.within;
  seen_rises = h.seen_rises;
  untaken = h.untaken;
  untaken_is = h.untaken_is;
  accounted = h.accounted;
  last = λ e. record { finishing = (h.last e).finishing; synchronized = (h.last e).synchronized; nothing_to_go = (h.last e).nothing_to_go };
  asked = h.asked;
  sent_is = h.sent_is;
  no_leave = h.no_leave;
  bases = h.bases;
}

follow_acts : (log : List Row) (acts : List Act) (m : Machine) → IsLegal log → IsPlayed m acts → Ends log (after_acts acts m) → Follows log m → Follows log (after_acts acts m)
follow_acts log [] m legal played end h = h
follow_acts log (a ∷ acts) m legal played end h =
    let asks : SeenRises 0 (taken_count (after_act a m)) (queue (after_act a m)) = rises_led m (after_act a m) (act_leads a m h.seen_rises) h.seen_rises in
    follow_acts log acts (after_act a m) legal played.1 end (follow_act log a m (after_acts acts (after_act a m)) legal played.0 (acts_lead acts (after_act a m) asks) end h)

-- where the asks of the rows that aren't taken have the edit, it is served
place_served : (log : List Row) (own t seen : ℕ) (op u : Change) → IsLegal log → t ≤ length log → seen ≤ t → edits_among (own_asks own (drop t log)) ≡ (seen, op) ∷ [] → u ≡ through op (ops (drop seen (take t log)))
    → IsServed log own t u
place_served log own t seen op u legal within before is moved =
    let one : OneRow own t seen op (drop t log) = one_row own t seen op (drop t log) is in
    let at : slice_get log (t + one.k) ≡ Some one.row = sym (get_drop log t one.k (t + one.k) refl) ∙ one.is_row in
    let below : t + one.k < length log = within_length log (t + one.k) one.row at in
    let prefix : List Row = take (t + one.k) log in
    record {
      at = t + one.k;
      ahead = one.place;
      moved = ap op_of_row at
          ∙ ap (λ (r : Row). r.op) (legal (t + one.k) one.row at).same
          ∙ ap (served_op (take (t + one.k) log)) one.call_is
          ∙ ap (λ rows. Some (through op (ops rows))) (split_at seen t (take (t + one.k) log) before (omega (arith, length-take-le (t + one.k) log (omega arith))))
          ∙ ap (λ x. Some (through op x)) (ops-append (drop seen (take t (take (t + one.k) log))) (drop t (take (t + one.k) log)))
          ∙ ap Some (through-append op (ops (drop seen (take t (take (t + one.k) log)))) (ops (drop t (take (t + one.k) log))))
          ∙ ap (λ rows. Some (through (through op (ops (drop seen rows))) (ops (drop t (take (t + one.k) log))))) (take-take log t (t + one.k) (omega arith))
          ∙ ap (λ x. Some (through x (ops (drop t (take (t + one.k) log))))) (sym moved);
    }

accounted_of : (log : List Row) (own t : ℕ) (o : Option Change) (ds ws : List (ℕ × Change)) → IsLegal log → t ≤ length log → ((e : ℕ × Change) → ds ++ ws ≡ e ∷ [] → e.0 ≤ t) → edits_among (own_asks own (drop t log)) ≡ ds
    → IsUntaken log t o (ds ++ ws) → IsAccountedFor log own t o ws
accounted_of log own t None [] [] legal within before is h = edits_none own t (drop t log) is
accounted_of log own t None [] (w ∷ ws) legal within before is h = absurd h
accounted_of log own t None (d ∷ ds) ws legal within before is h = absurd h
accounted_of log own t (Some u) [] [] legal within before is h = absurd h
accounted_of log own t (Some u) [] (w ∷ []) legal within before is h = record { fits = h.fits; moved = h.moved; ahead = edits_none own t (drop t log) is }
accounted_of log own t (Some u) [] (w ∷ x ∷ ws) legal within before is h = absurd h
accounted_of log own t (Some u) (d ∷ []) [] legal within before is h = place_served log own t d.0 d.1 u legal within (before d refl) is h.moved
accounted_of log own t (Some u) (d ∷ []) (w ∷ ws) legal within before is h = absurd h
accounted_of log own t (Some u) (d ∷ f ∷ ds) ws legal within before is h = absurd h

last_of : {A : Type 0} (xs ys : List A) (x y : A) → xs ++ x ∷ [] ≡ ys ++ y ∷ [] → (xs ≡ ys) × (x ≡ y)
last_of [] [] x y e = (refl, cc)
last_of [] (z ∷ []) x y e = absurd (cc)
last_of [] (z ∷ w ∷ ys) x y e = absurd (cc)
last_of (z ∷ []) [] x y e = absurd (cc)
last_of (z ∷ w ∷ xs) [] x y e = absurd (cc)
last_of (z ∷ xs) (w ∷ ys) x y e =
    let head : z ≡ w = cc in
    let rest = last_of xs ys x y (cc) in
    (ap (λ r. r ∷ xs) head ∙ ap (λ r. w ∷ r) rest.0, rest.1)

-- what the rows and the lane say of the leave
pub record LeaveIs (calls : List Call) (lane : Option Call) (left : Bool) : Type 0 where
  pub rows : any_leave calls ≡ left && not (is_leaving lane)
  pub lane_fits : LaneFits lane left

leave_of : (calls asked : List Call) (lane : Option Call) (left : Bool) → any_leave asked ≡ false → calls ++ call_lane lane ≡ asked ++ leave_if left → LeaveIs calls lane left
leave_of calls asked None true none e = record {
  rows = ap any_leave (sym (append-nil calls) ∙ e) ∙ any_leave-append asked (Leave ∷ []) ∙ ap (λ b. b || true) none;
  lane_fits = tt;
}
leave_of calls asked None false none e = record {
  rows = ap any_leave (sym (append-nil calls) ∙ e ∙ append-nil asked) ∙ none;
  lane_fits = tt;
}
leave_of calls asked (Some call) true none e =
    let both = last_of calls asked call Leave e in
    record {
      rows = ap any_leave both.0 ∙ none ∙ sym (ap (λ c. true && not (is_leave c)) both.1);
      lane_fits = ap is_leave both.1;
    }
leave_of calls asked (Some call) false none e =
    let all : any_leave calls || (is_leave call || false) ≡ false = sym (any_leave-append calls (call ∷ [])) ∙ ap any_leave (e ∙ append-nil asked) ∙ none in
    record {
      rows = left_none (any_leave calls) (is_leave call || false) all;
      lane_fits = left_none (is_leave call) false (right_none (any_leave calls) (is_leave call || false) all);
    }
  where
    left_none : (a b : Bool) → a || b ≡ false → a ≡ false
    left_none true b e = absurd (cc)
    left_none false b e = refl

    right_none : (a b : Bool) → a || b ≡ false → b ≡ false
    right_none true b e = absurd (cc)
    right_none false b e = e

but_leaves-lane : (lane : Option Call) → but_leaves (call_lane lane) ≡ lane_waiting lane
but_leaves-lane None = refl
but_leaves-lane (Some (Join name lang)) = refl
but_leaves-lane (Some Leave) = refl
but_leaves-lane (Some (Edit s o)) = refl
but_leaves-lane (Some (Eval s t)) = refl
but_leaves-lane (Some (Reset s t)) = refl

-- the queue, by the log
queue_by : (log : List Row) (m : Machine) (lane : Option Call) → IsLegal log → is_own_join m.own (slice_get log m.joined) ≡ true → calls_by m.own (drop (suc m.joined) log) ++ call_lane lane ≡ m.sent → SeenRises 0 (taken_count m) (queue m)
    → own_asks m.own log ++ waiting_calls lane m ≡ queue m
queue_by log m lane legal joined is asks =
    let calls : List Call = calls_by m.own (drop (suc m.joined) log) in
    let sent : but_leaves m.sent ≡ but_leaves (calls_by m.own (drop (suc m.joined) log)) ++ lane_waiting lane =
    ap but_leaves (sym is) ∙ but_leaves-append calls (call_lane lane) ∙ ap (λ cs. but_leaves calls ++ cs) (but_leaves-lane lane) in
    let all : queue m ≡ but_leaves (calls_by m.own (drop (suc m.joined) log)) ++ waiting_calls lane m =
    ap (λ cs. cs ++ m.outgoing) sent ∙ append_assoc (but_leaves calls) (lane_waiting lane) m.outgoing in
    let own : own_asks m.own log ≡ but_leaves (calls_by m.own (drop (suc m.joined) log)) =
    ap (own_asks m.own) (sym (take-append-drop (suc m.joined) log))
    ∙ own_asks-append m.own (take (suc m.joined) log) (drop (suc m.joined) log)
    ∙ ap (λ cs. cs ++ own_asks m.own (drop (suc m.joined) log)) (none_before log m.joined m.own (suc m.joined) legal joined (omega arith)).0
    ∙ asks_of-asks 0 (taken_count m) calls (waiting_calls lane m) (rw all at asks) in
    ap (λ cs. cs ++ waiting_calls lane m) own ∙ sym all

agrees_of : (log : List Row) (m : Machine) (lane : Option Call) → IsLegal log → is_own_join m.own (slice_get log m.joined) ≡ true → calls_by m.own (drop (suc m.joined) log) ++ call_lane lane ≡ m.sent → Follows log m → Agreed log m lane
agrees_of log m lane legal joined is h =
    let t : ℕ = taken_count m in
    let all : own_asks m.own log ++ waiting_calls lane m ≡ queue m = queue_by log m lane legal joined is h.seen_rises in
    let parts : own_asks m.own log ≡ own_asks m.own (take (taken_count m) log) ++ own_asks m.own (drop (taken_count m) log) =
    ap (own_asks m.own) (sym (take-append-drop (taken_count m) log)) ∙ own_asks-append m.own (take (taken_count m) log) (drop (taken_count m) log) in
    let untaken : h.untaken ≡ own_asks m.own (drop (taken_count m) log) ++ waiting_calls lane m =
    append-cancel (own_asks m.own (take (taken_count m) log)) h.untaken (own_asks m.own (drop (taken_count m) log) ++ waiting_calls lane m)
    (h.untaken_is ∙ sym all ∙ ap (λ cs. cs ++ waiting_calls lane m) parts ∙ append_assoc (own_asks m.own (take (taken_count m) log)) (own_asks m.own (drop (taken_count m) log)) (waiting_calls lane m)) in
    let the_edits : edits_among h.untaken ≡ edits_among (own_asks m.own (drop (taken_count m) log)) ++ edits_among (waiting_calls lane m) =
    ap edits_among untaken ∙ edits_among-append (own_asks m.own (drop (taken_count m) log)) (waiting_calls lane m) in
    let tail : SeenRises 0 (taken_count m) h.untaken = rises_suffix 0 (taken_count m) (own_asks m.own (take (taken_count m) log)) h.untaken (rw (← h.untaken_is) at h.seen_rises) in
    let leave : LeaveIs (calls_by m.own (drop (suc m.joined) log)) lane m.leave_sent =
    leave_of (calls_by m.own (drop (suc m.joined) log)) h.asked lane m.leave_sent h.no_leave (is ∙ h.sent_is) in
    let left : has_leave log m.own ≡ m.leave_sent && not (is_leaving lane) =
    has_leave-calls m.own log
    ∙ ap (λ rows. any_leave (calls_by m.own rows)) (sym (take-append-drop (suc m.joined) log))
    ∙ ap any_leave (calls_by-both m.own (take (suc m.joined) log) (drop (suc m.joined) log))
    ∙ any_leave-append (calls_by m.own (take (suc m.joined) log)) (calls_by m.own (drop (suc m.joined) log))
    ∙ ap (λ b. b || any_leave (calls_by m.own (drop (suc m.joined) log))) (none_before log m.joined m.own (suc m.joined) legal joined (omega arith)).1
    ∙ leave.rows in
    record {
      start_is = h.start_is;
      taken_is = h.entries_is;
      within = h.within;
      sent_is = is;
      seen_rises = rises_suffix 0 (taken_count m) (own_asks m.own log) (waiting_calls lane m) (rw (← all) at h.seen_rises);
      accounted = accounted_of log m.own (taken_count m) (outstanding m.pending) (edits_among (own_asks m.own (drop (taken_count m) log))) (edits_among (waiting_calls lane m)) legal h.within
          (λ e g. seen_within 0 (taken_count m) h.untaken e [] tail (the_edits ∙ g)) refl (rw the_edits at h.accounted);
      has_joined = joined;
      member = ap (λ b. b && not (has_leave log m.own)) (has_join-at log m.joined m.own joined) ∙ ap not left;
      last = h.last;
      lane_fits = leave.lane_fits;
      bases = h.bases;
    }

-- A run whose takes are the log's entries, and whose sent calls, perhaps but the last, are the performer's rows, agrees
-- with the log: no interleaving is given.
pub run_agrees : (log : List Row) (own joined start : ℕ) (text : List (ℕ × ℕ)) (acts : List Act) (lane : Option Call)
    → IsLegal log → IsPlayed (machine_from own joined start text) acts → is_own_join own (slice_get log joined) ≡ true → start ≤ suc joined → text ≡ doc (take start log)
    → (after_acts acts (machine_from own joined start text)).entries ≡ drop start (take (taken_count (after_acts acts (machine_from own joined start text))) (entries log))
    → taken_count (after_acts acts (machine_from own joined start text)) ≤ length log
    → calls_by own (drop (suc joined) log) ++ call_lane lane ≡ (after_acts acts (machine_from own joined start text)).sent
    → Agreed log (after_acts acts (machine_from own joined start text)) lane
run_agrees log own joined start text acts lane legal played has_joined near text_is entries_is within sent =
    let first : Machine = machine_from own joined start text in
    let m : Machine = after_acts acts (machine_from own joined start text) in
    let n : start + 0 ≡ start = omega arith in
    let l : Leads (machine_from own joined start text) (after_acts acts (machine_from own joined start text)) = acts_lead acts (machine_from own joined start text) (omega arith) in
    let s : (after_acts acts (machine_from own joined start text)).start ≡ start = l.start in
    let start_within : start ≤ length log = at_most start m.start (length m.entries) (length log) (sym s) within in
    let begin : Follows log (machine_from own joined start text) = record {
      start_is = text_is;
      entries_is = rw n (sym (nothing_left start (entries log)));
      within = rw n start_within;
      seen_rises = omega arith;
      untaken = [];
      untaken_is = append-nil (own_asks own (take (start + 0) log)) ∙ (none_before log joined own (start + 0) legal has_joined (omega arith)).0;
      accounted = tt;
      last = λ e. absurd (cc);
      asked = [];
      sent_is = refl;
      no_leave = refl;
      bases = tt;
    } in
    let joined' : is_own_join m.own (slice_get log m.joined) ≡ true =
    ap (λ o. is_own_join o (slice_get log m.joined)) l.own ∙ ap (λ j. is_own_join own (slice_get log j)) l.joined ∙ has_joined in
    let sent' : calls_by m.own (drop (suc m.joined) log) ++ call_lane lane ≡ m.sent =
    ap (λ o. calls_by o (drop (suc m.joined) log) ++ call_lane lane) l.own ∙ ap (λ j. calls_by own (drop (suc j) log) ++ call_lane lane) l.joined ∙ sent in
    let end : Ends log (after_acts acts (machine_from own joined start text)) = record {
      entries_is = entries_is ∙ ap (λ k. drop k (take (taken_count m) (entries log))) (sym s);
      within = within;
      rest = waiting_calls lane m;
      queue_is = queue_by log m lane legal joined' sent' (rises_led first m l (omega arith));
    } in
    agrees_of log m lane legal joined' sent' (follow_acts log acts (machine_from own joined start text) legal played end begin)
  where
    at_most : (a b c d : ℕ) → a ≡ b → b + c ≤ d → a ≤ d
    at_most a b c d e h = omega arith
