-- What is known of a stage and a log, one step further.
use Rattle.std.proofs.Common.{◌≡◌, ℕ, suc, ◌+◌, ◌≤◌, Bool, true, false, if◌then◌else◌, Option, None, Some, List, [], ◌∷◌, ◌++◌, length, take, drop, slice_get, refl, sym, ap, ◌∙◌, subst, append-nil, append_assoc, arith}
use Rattle.std.specs.Prelude.{◌==◌}
use Rattle.std.proofs.lemmas.List.{take-append-le, drop-append-le}
use Rattle.troop_entry.specs.declared.row.Row.{Row}
use Rattle.troop_entry.specs.declared.entry.Entry.{Entry}
use Rattle.troop_entry.specs.declared.call.Call.{Call}
use Rattle.troop_entry.specs.declared.call.Call.TheVariants.{Join, Leave, Edit, Eval, Reset}
use Rattle.troop_entry.specs.declared.reply.Reply.TheVariants.{Placed}
use Rattle.stage_state.specs.declared.act.Act.{Act}
use Rattle.stage_state.specs.declared.act.Act.TheVariants.{Typed, Eval as EvalAt, Reset as ResetTo, Take, Next, Finish, Halt}
use Rattle.stage_state.specs.declared.act.Next.TheVariants.{Send}
use Rattle.log_model.specs.Log.{doc, entries}
use Rattle.troop_entry.specs.Kinds.{is_join}
use Rattle.log_model.specs.Legal.{IsLegal}
use Rattle.log_model.specs.Answers.{answer, author, served_op, row_made, is_accepted, log_after}
use Rattle.troop_entry.specs.Told.{is_edit_of}
use Rattle.log_model.proofs.DocTold.{front-entries}
use Rattle.stage_state.specs.Machine.{Machine, taken_count, after_own_edit, after_other_entry, next_of, counted_from, sent_pairs, after_sending, after_act, CanAct}
use Rattle.stage_state.specs.Staged.{Staged, IsStagePlayed, first_machine, acts_of, machine, with_act}
use Rattle.stage_state.proofs.Machine.{machine-with_act, machine-own, taken_entries, sent_entries, sent_grows}
use Rattle.stage_state.proofs.IsPlayed.{stage_placed}
use Rattle.agreement.specs.Agreement.{SeenRises, lane_waiting, lane_pairs, pairs_by, is_own_join, Agrees}
use Rattle.agreement.specs.Aligned.{IsAligned}
use Rattle.agreement.specs.Stages.{is_local}
use Rattle.log_model.proofs.Lists.{slice_get-append, within_length, drop_take_next, equal_true, true_equal}
use Rattle.agreement.proofs.Agrees.{runs_agree}
use Rattle.agreement.proofs.Answer.{lane_placed}
use Rattle.agreement.proofs.TakenCount.{taken_within}
use Rattle.agreement.proofs.Leads.{acts_lead, taken_next}
use Rattle.agreement.proofs.OwnAsks.{joined_row}

-- an aligned stage agrees with the log
pub aligned_agrees : (log : List Row) (s : Staged) (lane : Option (ℕ × Call)) → IsLegal log → IsStagePlayed s → IsAligned log s lane → Agrees log (machine s) lane
aligned_agrees log s lane legal played h = runs_agree log s.own s.joined s.start s.text (acts_of s.acts) lane legal played h.has_joined h.near h.start_is h.taken_is h.sent_is

-- ---- one row more

joined_within : (log : List Row) (s : Staged) (lane : Option (ℕ × Call)) → IsAligned log s lane → suc s.joined ≤ length log
joined_within log s lane h = let j = joined_row log s.joined s.own h.has_joined in within_length log s.joined j.0 j.1

-- the start is no later than what is taken
started : (s : Staged) → s.start ≤ taken_count (machine s)
started s =
    let l = acts_lead (acts_of s.acts) (first_machine s) (omega arith) in
    omega (arith, l.start)

-- and it has taken no more than the log has
aligned_within : (log : List Row) (s : Staged) (lane : Option (ℕ × Call)) → IsAligned log s lane → taken_count (machine s) ≤ length log
aligned_within log s lane h =
    let l = acts_lead (acts_of s.acts) (first_machine s) (omega arith) in
    taken_within log (machine s) (omega (arith, l.start, h.near, joined_within log s lane h))
    (h.taken_is ∙ ap (λ k. drop k (take (taken_count (machine s)) (entries log))) (sym l.start))

choice_append : (b : Bool) (p : ℕ × Call) (ps qs : List (ℕ × Call)) → (if b then p ∷ (ps ++ qs) else (ps ++ qs)) ≡ (if b then p ∷ ps else ps) ++ qs
choice_append true p ps qs = refl
choice_append false p ps qs = refl

pairs_by-one_more : (who : ℕ) (xs : List Row) (row : Row) → pairs_by who (xs ++ row ∷ []) ≡ pairs_by who xs ++ (if row.who == who then (row.num, row.call) ∷ [] else [])
pairs_by-one_more who [] row = refl
pairs_by-one_more who (x ∷ xs) row =
    ap (λ ps. if x.who == who then (x.num, x.call) ∷ ps else ps) (pairs_by-one_more who xs row)
    ∙ choice_append (x.who == who) (x.num, x.call) (pairs_by who xs) (if row.who == who then (row.num, row.call) ∷ [] else [])

-- a row more, that is of somebody else or the call in the lane
row_aligned : (log : List Row) (s : Staged) (row : Row) (lane later : Option (ℕ × Call)) → IsAligned log s lane
    → (if row.who == s.own then (row.num, row.call) ∷ [] else []) ++ lane_pairs later ≡ lane_pairs lane → IsAligned (log ++ row ∷ []) s later
row_aligned log s row lane later h same =
    let behind_join : suc s.joined ≤ length log = joined_within log s lane h in
    let before : List (ℕ × Call) = pairs_by s.own (drop (suc s.joined) log) in
    record {
      has_joined = ap (is_own_join s.own) (slice_get-append log (row ∷ []) s.joined behind_join) ∙ h.has_joined;
      near = h.near;
      start_is = h.start_is ∙ ap doc (sym (take-append-le s.start log (row ∷ []) (omega (arith, h.near, behind_join))));
      taken_is = h.taken_is ∙ ap (drop s.start) (sym (front-entries log row (taken_count (machine s)) (aligned_within log s lane h)));
      sent_is = ap (λ rows. pairs_by s.own rows ++ lane_pairs later) (drop-append-le (suc s.joined) log (row ∷ []) behind_join)
          ∙ ap (λ ps. ps ++ lane_pairs later) (pairs_by-one_more s.own (drop (suc s.joined) log) row)
          ∙ append_assoc before (if row.who == s.own then (row.num, row.call) ∷ [] else []) (lane_pairs later)
          ∙ ap (λ ps. before ++ ps) same
          ∙ h.sent_is;
    }

other_aligned : (log : List Row) (s : Staged) (row : Row) (lane : Option (ℕ × Call)) → IsAligned log s lane → (row.who == s.own) ≡ false → IsAligned (log ++ row ∷ []) s lane
other_aligned log s row lane h other = row_aligned log s row lane lane h (rw other refl)

-- whatever is asked by somebody else
pub after_aligned : (log : List Row) (s : Staged) (seat who num : ℕ) (call : Call) (lane : Option (ℕ × Call)) → IsAligned log s lane → (author log who call == s.own) ≡ false
    → IsAligned (log_after log seat who num call) s lane
after_aligned log s seat who num call lane h other = by_answer (is_accepted (answer log who num call))
  where
    by_answer : (b : Bool) → IsAligned (if b then log ++ row_made log seat who num call ∷ [] else log) s lane
    by_answer true = other_aligned log s (row_made log seat who num call) lane h other
    by_answer false = h

-- a call that is no join makes its maker's row under its number
made_as : (log : List Row) (seat who num : ℕ) (c : Call) → is_join c ≡ false → row_made log seat who num c ≡ record { who = who; num = num; seat = seat; call = c; op = served_op log c }
made_as log seat who num (Join name lang) e = absurd (cc)
made_as log seat who num Leave e = refl
made_as log seat who num (Edit seen op) e = refl
made_as log seat who num (Eval seen text) e = refl
made_as log seat who num (Reset seen text) e = refl

after_placed : (log : List Row) (seat who num n : ℕ) (c : Call) → answer log who num c ≡ Placed n who → log_after log seat who num c ≡ log ++ row_made log seat who num c ∷ []
after_placed log seat who num n c placed = rw placed refl

served_aligned : (log : List Row) (s : Staged) (seat num : ℕ) (call : Call) → is_join call ≡ false → IsAligned log s (Some (num, call)) → IsAligned (log ++ row_made log seat s.own num call ∷ []) s None
served_aligned log s seat num call plain h =
    rw (made_as log seat s.own num call plain)
    (row_aligned log s (record { who = s.own; num = num; seat = seat; call = call; op = served_op log call }) (Some (num, call)) None h
    (rw (equal_true s.own s.own refl) refl))

-- ---- one act more

quiet_aligned : (log : List Row) (s : Staged) (lane : Option (ℕ × Call)) (seat : ℕ) (a : Act) → IsAligned log s lane → (after_act a (machine s)).entries ≡ (machine s).entries → (after_act a (machine s)).sent ≡ (machine s).sent
    → (after_act a (machine s)).start ≡ (machine s).start → IsAligned log (with_act seat a s) lane
quiet_aligned log s lane seat a h e f g =
    let m : machine (with_act seat a s) ≡ after_act a (machine s) = machine-with_act seat a s in
    let es : (machine (with_act seat a s)).entries ≡ (machine s).entries = ap (λ (x : Machine). x.entries) m ∙ e in
    let t : taken_count (machine (with_act seat a s)) ≡ taken_count (machine s) = ap taken_count m ∙ taken_same (after_act a (machine s)) (machine s) g e in
    record {
      has_joined = h.has_joined;
      near = h.near;
      start_is = h.start_is;
      taken_is = es ∙ h.taken_is ∙ ap (λ k. drop s.start (take k (entries log))) (sym t);
      sent_is = h.sent_is ∙ sym (ap (counted_from 1) (ap (λ (x : Machine). x.sent) m ∙ f));
    }
  where
    taken_same : (x y : Machine) → x.start ≡ y.start → x.entries ≡ y.entries → taken_count x ≡ taken_count y
    taken_same x y e f = ap (λ k. k + length x.entries) e ∙ ap (λ es. y.start + length es) f

-- an act by which nothing is taken and nothing goes out
pub local_aligned : (log : List Row) (s : Staged) (lane : Option (ℕ × Call)) (seat : ℕ) (a : Act) → is_local a ≡ true → IsAligned log s lane → IsAligned log (with_act seat a s) lane
local_aligned log s lane seat (Typed op) local h = quiet_aligned log s lane seat (Typed op) h refl refl refl
local_aligned log s lane seat (EvalAt place) local h = quiet_aligned log s lane seat (EvalAt place) h refl refl refl
local_aligned log s lane seat (ResetTo text) local h = quiet_aligned log s lane seat (ResetTo text) h refl refl refl
local_aligned log s lane seat (Take e) local h = absurd (cc)
local_aligned log s lane seat Next local h = absurd (cc)
local_aligned log s lane seat Finish local h = quiet_aligned log s lane seat Finish h refl refl refl
local_aligned log s lane seat Halt local h = quiet_aligned log s lane seat Halt h refl refl refl

taken_sent : (b : Bool) (e : Entry) (m : Machine) → (if b then after_own_edit e m else after_other_entry e m).sent ≡ m.sent
taken_sent true e m = refl
taken_sent false e m = refl

-- the next entry is taken
pub take_aligned : (log : List Row) (s : Staged) (lane : Option (ℕ × Call)) (seat : ℕ) (e : Entry) → IsAligned log s lane → slice_get (entries log) (taken_count (machine s)) ≡ Some e → IsAligned log (with_act seat (Take e) s) lane
take_aligned log s lane seat e h is =
    let b : Bool = is_edit_of (machine s).own e in
    let m : machine (with_act seat (Take e) s) ≡ after_act (Take e) (machine s) = machine-with_act seat (Take e) s in
    let es : (machine (with_act seat (Take e) s)).entries ≡ (machine s).entries ++ e ∷ [] = ap (λ (x : Machine). x.entries) m ∙ taken_entries b e (machine s) in
    let t : taken_count (machine (with_act seat (Take e) s)) ≡ suc (taken_count (machine s)) = ap taken_count m ∙ taken_next b e (machine s) in
    record {
      has_joined = h.has_joined;
      near = h.near;
      start_is = h.start_is;
      taken_is = es ∙ ap (λ xs. xs ++ e ∷ []) h.taken_is ∙ sym (drop_take_next (entries log) s.start (taken_count (machine s)) e (started s) is) ∙ ap (λ k. drop s.start (take k (entries log))) (sym t);
      sent_is = h.sent_is ∙ sym (ap (counted_from 1) (ap (λ (x : Machine). x.sent) m ∙ taken_sent b e (machine s)));
    }

-- ---- a call that goes out

send_start : (calls : List Call) (m : Machine) → (after_sending calls m).start ≡ m.start
send_start [] m = refl
send_start (c ∷ calls) m = refl

-- from then on it is in the lane
pub next_aligned : (log : List Row) (s : Staged) (seat num : ℕ) (call : Call) → IsAligned log s None → next_of (machine s) ≡ Send num call → IsAligned log (with_act seat Next s) (Some (num, call))
next_aligned log s seat num call h sends =
    let m : machine (with_act seat Next s) ≡ after_act Next (machine s) = machine-with_act seat Next s in
    let es : (machine (with_act seat Next s)).entries ≡ (machine s).entries = ap (λ (x : Machine). x.entries) m ∙ sent_entries (machine s).outgoing (machine s) in
    let st : (machine (with_act seat Next s)).start ≡ (machine s).start = ap (λ (x : Machine). x.start) m ∙ send_start (machine s).outgoing (machine s) in
    let t : taken_count (machine (with_act seat Next s)) ≡ taken_count (machine s) = ap (λ k. k + length (machine (with_act seat Next s)).entries) st ∙ ap (λ xs. (machine s).start + length xs) es in
    record {
      has_joined = h.has_joined;
      near = h.near;
      start_is = h.start_is;
      taken_is = es ∙ h.taken_is ∙ ap (λ k. drop s.start (take k (entries log))) (sym t);
      sent_is = ap (λ ps. ps ++ (num, call) ∷ []) (sym (append-nil (pairs_by s.own (drop (suc s.joined) log))) ∙ h.sent_is)
          ∙ sym (ap sent_pairs m ∙ sent_grows (machine s) num call sends);
    }

-- what waits is no join
lane_no_join : (lo hi : ℕ) (call : Call) (cs : List Call) → SeenRises lo hi (lane_waiting (Some call) ++ cs) → is_join call ≡ false
lane_no_join lo hi (Join name lang) cs a = absurd a
lane_no_join lo hi Leave cs a = refl
lane_no_join lo hi (Edit seen op) cs a = refl
lane_no_join lo hi (Eval seen text) cs a = refl
lane_no_join lo hi (Reset seen text) cs a = refl

-- a call goes out, so it can
pub can_send : (m : Machine) (num : ℕ) (call : Call) → next_of m ≡ Send num call → CanAct m Next
can_send m num call e = rw e tt

-- a step that serves: the call is placed, and its row leaves the stage aligned
pub serve_aligned : (log : List Row) (s : Staged) (acts_seat seat num : ℕ) (call : Call) → IsLegal log → IsStagePlayed s → IsAligned log s None → next_of (machine s) ≡ Send num call
    → (answer log s.own num call ≡ Placed (length log) s.own) × (is_join call ≡ false) × IsAligned (log_after log seat s.own num call) (with_act acts_seat Next s) None
serve_aligned log s acts_seat seat num call legal played h sends =
    let next = next_aligned log s acts_seat num call h sends in
    let agrees = aligned_agrees log (with_act acts_seat Next s) (Some (num, call)) legal (stage_placed acts_seat Next s played (can_send (machine s) num call sends)) next in
    let placed : answer log s.own num call ≡ Placed (length log) s.own =
    subst (λ (o : ℕ). answer log o num call ≡ Placed (length log) o) (machine-own (with_act acts_seat Next s)) (lane_placed log (machine (with_act acts_seat Next s)) num call legal agrees) in
    let plain = lane_no_join 0 (taken_count (machine (with_act acts_seat Next s))) call (machine (with_act acts_seat Next s)).outgoing agrees.seen_rises in
    (placed, plain, rw (after_placed log seat s.own num (length log) call placed) (served_aligned log (with_act acts_seat Next s) seat num call plain next))

-- the call in the lane is served
pub lane_aligned : (log : List Row) (s : Staged) (seat num : ℕ) (call : Call) → IsLegal log → IsStagePlayed s → IsAligned log s (Some (num, call)) → IsAligned (log_after log seat s.own num call) s None
lane_aligned log s seat num call legal played h =
    let agrees = aligned_agrees log s (Some (num, call)) legal played h in
    let placed : answer log s.own num call ≡ Placed (length log) s.own =
    subst (λ (o : ℕ). answer log o num call ≡ Placed (length log) o) (machine-own s) (lane_placed log (machine s) num call legal agrees) in
    let plain = lane_no_join 0 (taken_count (machine s)) call (machine s).outgoing agrees.seen_rises in
    rw (after_placed log seat s.own num (length log) call placed) (served_aligned log s seat num call plain h)

-- numbers that differ
pub differ_false : (m n : ℕ) → (m ≡ n → ⊥) → (m == n) ≡ false
differ_false m n f = by_test (m == n) refl
  where
    by_test : (b : Bool) → (m == n) ≡ b → b ≡ false
    by_test true e = absurd (f (true_equal m n e))
    by_test false e = refl
