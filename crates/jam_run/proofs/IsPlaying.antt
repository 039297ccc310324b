-- A performer in a run, one act further.
use Rattle.std.proofs.Common.{◌≡◌, ℕ, zero, suc, ◌+◌, ◌-◌, ◌*◌, ◌≤◌, ◌||◌, min, Bool, true, false, if◌then◌else◌, List, [], ◌∷◌, ◌++◌, length, length-append, drop, map, refl, sym, ap, ◌∙◌, subst, append-nil, append_assoc, arith}
use Rattle.std.specs.Prelude.{replicate}
use Rattle.std.proofs.lemmas.List.{map-append}
use Rattle.std.proofs.Math.Seq.{drop-append_seam}
use Rattle.seat_lock.specs.Lists.{Begins, AllOf}
use Rattle.seat_lock.proofs.AllOf.{all_append}
use Rattle.seat_lock.proofs.Begins.{begins_then}
use Rattle.ot_text.specs.Change.{Change}
use Rattle.troop_entry.specs.declared.call.Call.{Call}
use Rattle.troop_entry.specs.declared.call.Call.TheVariants as call
use Rattle.troop_entry.specs.declared.entry.Entry.{Entry}
use Rattle.troop_entry.specs.declared.reply.Reply.TheVariants as reply
use Rattle.troop_entry.specs.declared.row.Row.{Row}
use Rattle.troop_entry.specs.Entries.{entry_of}
use Rattle.troop_entry.specs.Told.{is_edit_of}
use Rattle.log_model.specs.Answers.{answer, is_accepted, row_made}
use Rattle.log_model.specs.Log.{entries_from, entries}
use Rattle.stage_state.specs.declared.act.Act.{Act}
use Rattle.stage_state.specs.declared.act.Act.TheVariants as act
use Rattle.stage_state.specs.declared.act.Next.TheVariants as next
use Rattle.stage_state.specs.Machine.{Machine, taken_count, held_text, next_of, sent_pairs, after_own_edit, after_other_entry, after_act, CanAct, IsSend}
use Rattle.stage_state.specs.Staged.{Staged, new_stage, acts_of, first_machine, machine, with_act, IsStagePlayed}
use Rattle.stage_state.proofs.IsPlayed.{stage_placed}
use Rattle.stage_state.proofs.Machine.{acts_of-one_more, machine-with_act, acts_follow, taken_entries, sent_entries, sent_one_more, sent_grows}
use Rattle.troop_hall.specs.Seats.{DeskSeatValue, IsAnswered}
use Rattle.agreement.specs.Agreement.{is_edit}
use Rattle.draws.specs.Edits.{drawn_edit, number_after_edit}
use Rattle.replay_run.specs.Shown.{awaits}
use Rattle.jam_run.specs.Drawing.{first_number, steps_of, burst_steps, number_after_act, IsDrawn, number_after_acts, AreDrawn}
use Rattle.jam_run.specs.Taking.{TakesAll}
use Rattle.jam_run.specs.Playing.{row_pair, awaited, owed_by, IsPlaying, IsAtRest}
use Rattle.jam_run.proofs.AreDrawn.{number_after_acts-one_more, drawn_one_more, steps_one_more, AsksEdits, stage_asks, FirstGoes, first_goes}
use Rattle.jam_run.proofs.Owed.{typing_awaits, typing_owes, entry_owes, entry_awaits, sending_owes}

-- ---- lists

entries_grown : (n : ℕ) (xs ys : List Row) → (others : List Entry) × (entries_from n xs ++ others ≡ entries_from n (xs ++ ys))
entries_grown n [] ys = (entries_from n ys, refl)
entries_grown n (x ∷ xs) ys = let r = entries_grown (suc n) xs ys in (r.0, ap (λ es. entry_of n x ∷ es) r.1)

-- a log that goes on tells the same entries first
pub entries_begin : (xs ys : List Row) → Begins xs ys → Begins (entries xs) (entries ys)
entries_begin xs ys b = subst (λ (l : List Row). Begins (entries xs) (entries l)) b.1 (entries_grown 0 xs b.0)

-- ---- numbers, rows and the log

-- the same performer by other words for its numbers
pub by_numbers : (seed : ℕ) (steps : List Bool) (sent owed sent' owed' who : ℕ) (seen own : List Row) (s : Staged) (n : ℕ) → sent ≡ sent' → owed ≡ owed'
    → IsPlaying seed steps sent owed who seen own s n → IsPlaying seed steps sent' owed' who seen own s n
by_numbers seed steps sent owed sent' owed' who seen own s n e o h = record {
  own_is = h.own_is;
  joined_is = h.joined_is;
  start_is = h.start_is;
  text_is = h.text_is;
  played = h.played;
  drawn = h.drawn;
  number_is = h.number_is;
  steps_are = h.steps_are;
  sent_is = h.sent_is ∙ e;
  owed_is = h.owed_is ∙ o;
  placed = h.placed;
  mine = h.mine;
  took = h.took;
}

-- the seat has seen more since, and placed nothing
pub sees_more : (seed : ℕ) (steps : List Bool) (sent owed who : ℕ) (seen seen' own own' : List Row) (s : Staged) (n : ℕ) → Begins seen seen' → own' ≡ own
    → IsPlaying seed steps sent owed who seen own s n → IsPlaying seed steps sent owed who seen' own' s n
sees_more seed steps sent owed who seen seen' own own' s n more same h = record {
  own_is = h.own_is;
  joined_is = h.joined_is;
  start_is = h.start_is;
  text_is = h.text_is;
  played = h.played;
  drawn = h.drawn;
  number_is = h.number_is;
  steps_are = h.steps_are;
  sent_is = h.sent_is;
  owed_is = h.owed_is;
  placed = ap (map row_pair) same ∙ h.placed;
  mine = subst (AllOf (λ (r : Row). r.who ≡ who)) (sym same) h.mine;
  took = begins_then (machine s).entries (entries seen) (entries seen') h.took (entries_begin seen seen' more);
}

-- ---- one act

act_more : (seed : ℕ) (steps : List Bool) (sent owed who : ℕ) (seen own : List Row) (s : Staged) (n : ℕ) (a : Act) (steps' : List Bool) (sent' owed' : ℕ) (seen' own' : List Row)
    → IsPlaying seed steps sent owed who seen own s n → CanAct (machine s) a → IsDrawn n (machine s) a
    → steps_of (acts_of s.acts ++ a ∷ []) ≡ steps' → length (after_act a (machine s)).sent ≡ sent' → owed_by (after_act a (machine s)) ≡ owed'
    → map row_pair own' ≡ sent_pairs (after_act a (machine s)) → AllOf (λ (r : Row). r.who ≡ who) own' → Begins (after_act a (machine s)).entries (entries seen')
    → IsPlaying seed steps' sent' owed' who seen' own' (with_act 0 a s) (number_after_act n (machine s) a)
act_more seed steps sent owed who seen own s n a steps' sent' owed' seen' own' h can drawn steps_are sent_is owed_is placed mine took =
    let m : machine (with_act 0 a s) ≡ after_act a (machine s) = machine-with_act 0 a s in
    let acts : acts_of (with_act 0 a s).acts ≡ acts_of s.acts ++ a ∷ [] = acts_of-one_more s.acts 0 a in
    let here : IsDrawn (number_after_acts (first_number seed who) (first_machine s) (acts_of s.acts)) (machine s) a = subst (λ k. IsDrawn k (machine s) a) h.number_is drawn in
    record {
      own_is = h.own_is;
      joined_is = h.joined_is;
      start_is = h.start_is;
      text_is = h.text_is;
      played = stage_placed 0 a s h.played can;
      drawn = subst (AreDrawn (first_number seed who) (first_machine s)) (sym acts) (drawn_one_more (acts_of s.acts) a (first_number seed who) (first_machine s) h.drawn here);
      number_is = ap (λ k. number_after_act k (machine s) a) h.number_is
          ∙ sym (number_after_acts-one_more (acts_of s.acts) a (first_number seed who) (first_machine s))
          ∙ ap (number_after_acts (first_number seed who) (first_machine s)) (sym acts);
      steps_are = ap steps_of acts ∙ steps_are;
      sent_is = ap (λ (x : Machine). length x.sent) m ∙ sent_is;
      owed_is = ap owed_by m ∙ owed_is;
      placed = placed ∙ ap sent_pairs (sym m);
      mine = mine;
      took = subst (λ (x : Machine). Begins x.entries (entries seen')) (sym m) took;
    }

-- an edit, as it is drawn, where nothing that is awaited went out
pub edit_more : (seed : ℕ) (steps : List Bool) (sent k who : ℕ) (seen own : List Row) (s : Staged) (n : ℕ) (op : Change) → CanAct (machine s) (act.Typed op) → op ≡ drawn_edit (length (held_text (machine s))) n
    → IsPlaying seed steps sent k who seen own s n → awaited s ≡ k
    → IsPlaying seed (steps ++ true ∷ []) sent (min 2 (k + 1)) who seen own (with_act 0 (act.Typed op) s) (number_after_edit (length (held_text (machine s))) n)
    × (awaited (with_act 0 (act.Typed op) s) ≡ min 2 (k + 1))
edit_more seed steps sent k who seen own s n op can drawn h none =
    let m : machine (with_act 0 (act.Typed op) s) ≡ after_act (act.Typed op) (machine s) = machine-with_act 0 (act.Typed op) s in
    let as_many : min 2 (awaits (machine s).pending + 1) ≡ min 2 (k + 1) = ap (λ j. min 2 (j + 1)) none in (
      act_more seed steps sent k who seen own s n (act.Typed op) (steps ++ true ∷ []) sent (min 2 (k + 1)) seen own h can drawn
          (steps_one_more (acts_of s.acts) (act.Typed op) ∙ ap (λ l. l ++ true ∷ []) h.steps_are)
          h.sent_is
          (typing_owes (machine s).pending op (taken_count (machine s)) (machine s).outgoing (h.owed_is ∙ sym none) ∙ as_many)
          h.placed h.mine h.took,
      ap (λ (x : Machine). awaits x.pending) m ∙ typing_awaits (machine s).pending op ∙ as_many,
    )

sent_same : (b : Bool) (e : Entry) (m : Machine) → (if b then after_own_edit e m else after_other_entry e m).sent ≡ m.sent
sent_same true e m = refl
sent_same false e m = refl

-- an entry, the next one that the seat has seen
entry_more : (seed : ℕ) (steps : List Bool) (sent owed who : ℕ) (seen own : List Row) (s : Staged) (n : ℕ) (e : Entry) (es : List Entry) → CanAct (machine s) (act.Take e)
    → (machine s).entries ++ e ∷ es ≡ entries seen → IsPlaying seed steps sent owed who seen own s n → IsPlaying seed steps sent owed who seen own (with_act 0 (act.Take e) s) n
entry_more seed steps sent owed who seen own s n e es can is h =
    let m : Machine = machine s in
    let b : Bool = is_edit_of m.own e in
    let same : (after_act (act.Take e) m).sent ≡ m.sent = sent_same b e m in
    act_more seed steps sent owed who seen own s n (act.Take e) steps sent owed seen own h can tt
    (steps_one_more (acts_of s.acts) (act.Take e) ∙ append-nil (steps_of (acts_of s.acts)) ∙ h.steps_are)
    (ap length same ∙ h.sent_is)
    (entry_owes b e m ∙ h.owed_is)
    (h.placed ∙ ap (λ calls. sent_pairs (record m { sent = calls })) (sym same)) h.mine
    (subst (λ (l : List Entry). Begins l (entries seen)) (sym (taken_entries b e m)) (es, append_assoc m.entries (e ∷ []) es ∙ is))

-- what follows from taking entries
pub record TookAll (seed : ℕ) (steps : List Bool) (sent owed who : ℕ) (seen own : List Row) (s t : Staged) (n : ℕ) : Type 0 where
  pub playing : IsPlaying seed steps sent owed who seen own t n
  pub all : (machine t).entries ≡ entries seen
  pub fewer : awaited t ≤ awaited s

-- all entries that the seat has seen
pub takes_more : (es : List Entry) (seed : ℕ) (steps : List Bool) (sent owed who : ℕ) (seen own : List Row) (s t : Staged) (n : ℕ) → (machine s).entries ++ es ≡ entries seen → TakesAll es s t
    → IsPlaying seed steps sent owed who seen own s n → TookAll seed steps sent owed who seen own s t n
takes_more [] seed steps sent owed who seen own s t n is all h =
    subst (λ (x : Staged). TookAll seed steps sent owed who seen own s x n) (sym all) (record { playing = h; all = sym (append-nil (machine s).entries) ∙ is; fewer = omega arith })
takes_more (e ∷ es) seed steps sent owed who seen own s t n is all h =
    let m : machine (with_act 0 (act.Take e) s) ≡ after_act (act.Take e) (machine s) = machine-with_act 0 (act.Take e) s in
    let b : Bool = is_edit_of (machine s).own e in
    let on : (machine (with_act 0 (act.Take e) s)).entries ++ es ≡ entries seen =
    ap (λ (x : Machine). x.entries ++ es) m ∙ ap (λ l. l ++ es) (taken_entries b e (machine s)) ∙ append_assoc (machine s).entries (e ∷ []) es ∙ is in
    let r = takes_more es seed steps sent owed who seen own (with_act 0 (act.Take e) s) t n on all.1 (entry_more seed steps sent owed who seen own s n e es all.0 is h) in
    let one : awaited (with_act 0 (act.Take e) s) ≡ awaits (after_act (act.Take e) (machine s)).pending = ap (λ (x : Machine). awaits x.pending) m in
    record { playing = r.playing; all = r.all; fewer = omega (arith, r.fewer, one, entry_awaits b e (machine s)) }

-- its count of entries is that of the entries taken
pub taken_is : (s : Staged) → s.start ≡ 0 → taken_count (machine s) ≡ length (machine s).entries
taken_is s start = let same = (acts_follow (acts_of s.acts) (first_machine s)).start in omega (arith, same, start)

rest_is : (xs ys zs : List Entry) (k : ℕ) → k ≡ length xs → xs ++ ys ≡ zs → drop k zs ≡ ys
rest_is xs ys zs k few is = ap (λ j. drop j zs) few ∙ ap (drop (length xs)) (sym is) ∙ drop-append_seam xs ys

-- the entries that weren't taken yet
pub rest_more : (seed : ℕ) (steps : List Bool) (sent owed who : ℕ) (seen own : List Row) (s t : Staged) (n : ℕ) (es : List Entry) → es ≡ drop (taken_count (machine s)) (entries seen) → TakesAll es s t
    → IsPlaying seed steps sent owed who seen own s n → TookAll seed steps sent owed who seen own s t n
rest_more seed steps sent owed who seen own s t n es is all h =
    let left : es ≡ h.took.0 = is ∙ rest_is (machine s).entries h.took.0 (entries seen) (taken_count (machine s)) (taken_is s h.start_is) h.took.1 in
    takes_more es seed steps sent owed who seen own s t n (ap (λ l. (machine s).entries ++ l) left ∙ h.took.1) all h

-- no more is taken than the seat has seen
pub taken_within : (seed : ℕ) (steps : List Bool) (sent owed who : ℕ) (seen own : List Row) (s : Staged) (n : ℕ) → IsPlaying seed steps sent owed who seen own s n → taken_count (machine s) ≤ length (entries seen)
taken_within seed steps sent owed who seen own s n h =
    let all : length ((machine s).entries ++ h.took.0) ≡ length (entries seen) = ap length h.took.1 in
    omega (arith, taken_is s h.start_is, all, length-append (machine s).entries h.took.0)

-- ---- a call

-- the row of an edit has its number, its call and its maker
edit_row : (log : List Row) (seat who num : ℕ) (c : Call) → is_edit c ≡ true → (row_pair (row_made log seat who num c) ≡ (num, c)) × ((row_made log seat who num c).who ≡ who)
edit_row log seat who num (call.Join name lang) e = absurd (cc)
edit_row log seat who num call.Leave e = absurd (cc)
edit_row log seat who num (call.Edit seen op) e = (refl, refl)
edit_row log seat who num (call.Eval seen text) e = absurd (cc)
edit_row log seat who num (call.Reset seen text) e = absurd (cc)

-- the next call, which was placed
pub call_more : (seed : ℕ) (steps : List Bool) (sent owed who : ℕ) (u v : DeskSeatValue) (s : Staged) (n num at by : ℕ) (c : Call) → next_of (machine s) ≡ next.Send num c
    → IsAnswered (record { who = who; num = num; call = c }) u (reply.Placed at by) v → Begins u.seen v.seen
    → IsPlaying seed steps sent owed who u.seen u.own s n → IsPlaying seed (steps ++ false ∷ []) (sent + 1) (owed - 1) who v.seen v.own (with_act 0 act.Next s) n
call_more seed steps sent owed who u v s n num at by c sends answered later h =
    let m : Machine = machine s in
    let asks : AsksEdits m = stage_asks s (first_number seed who) h.played h.drawn in
    let goes : FirstGoes m.outgoing c = first_goes m.outgoing m (m.halted || m.gone) num c asks.outgoing_are asks.goes_on sends in
    let row : Row = row_made answered.log u.number who num c in
    let made = edit_row answered.log u.number who num c goes.edit in
    let accepted : is_accepted (answer answered.log who num c) ≡ true = ap is_accepted (sym answered.reply_is) in
    let own : v.own ≡ u.own ++ row ∷ [] = answered.own ∙ ap (λ b. u.own ++ (if b then row ∷ [] else [])) accepted in
    let can : CanAct m act.Next = subst IsSend (sym sends) tt in
    act_more seed steps sent owed who u.seen u.own s n act.Next (steps ++ false ∷ []) (sent + 1) (owed - 1) v.seen v.own h can tt
    (steps_one_more (acts_of s.acts) act.Next ∙ ap (λ l. l ++ false ∷ []) h.steps_are)
    (let one = sent_one_more m.outgoing m in let before = h.sent_is in omega (arith, one, before))
    (sending_owes m.outgoing goes.rest c m goes.is ∙ ap (λ k. k - 1) h.owed_is)
    (ap (map row_pair) own ∙ map-append row_pair u.own (row ∷ []) ∙ ap (λ ps. ps ++ row_pair row ∷ []) h.placed ∙ ap (λ p. sent_pairs m ++ p ∷ []) made.0 ∙ sym (sent_grows m num c sends))
    (subst (AllOf (λ (r : Row). r.who ≡ who)) (sym own) (all_append (λ (r : Row). r.who ≡ who) u.own (row ∷ []) h.mine (made.1, tt)))
    (subst (λ (l : List Entry). Begins l (entries v.seen)) (sym (sent_entries m.outgoing m)) (begins_then m.entries (entries u.seen) (entries v.seen) h.took (entries_begin u.seen v.seen later)))

-- ---- rest

-- before the first act
pub rests_first : (seed who joined : ℕ) (seen own : List Row) (s : Staged) → suc joined ≡ who → s ≡ new_stage who joined → IsStagePlayed s → own ≡ []
    → IsAtRest seed 0 who seen own s (first_number seed who)
rests_first seed who joined seen own s who_is is played none =
    subst (λ (x : Staged). IsAtRest seed 0 who seen own x (first_number seed who)) (sym is) (record {
      playing = record {
        own_is = refl;
        joined_is = who_is;
        start_is = refl;
        text_is = refl;
        played = tt;
        drawn = tt;
        number_is = refl;
        steps_are = refl;
        sent_is = refl;
        owed_is = refl;
        placed = ap (map row_pair) none;
        mine = subst (AllOf (λ (r : Row). r.who ≡ who)) (sym none) tt;
        took = (entries seen, refl);
      };
      none = refl;
    })

-- one edit more
edits_more : (n : ℕ) → replicate n true ++ true ∷ [] ≡ replicate (n + 1) true
edits_more n = let next : suc n ≡ n + 1 = omega arith in more n ∙ ap (λ k. replicate k true) next
  where
    more : (k : ℕ) → replicate k true ++ true ∷ [] ≡ replicate (suc k) true
    more zero = refl
    more (suc k) = ap (λ (l : List Bool). true ∷ l) (more k)

-- the steps of one burst more
burst_more : (bursts typed : ℕ) → typed ≡ 3 → ((burst_steps bursts ++ replicate typed true) ++ false ∷ []) ++ false ∷ [] ≡ burst_steps (bursts + 1)
burst_more bursts typed three =
    let one : suc bursts ≡ bursts + 1 = omega arith in
    let edits : replicate typed true ≡ true ∷ true ∷ true ∷ [] = ap (λ k. replicate k true) three in
    append_assoc (burst_steps bursts ++ replicate typed true) (false ∷ []) (false ∷ [])
    ∙ append_assoc (burst_steps bursts) (replicate typed true) (false ∷ false ∷ [])
    ∙ ap (λ (l : List Bool). burst_steps bursts ++ (l ++ false ∷ false ∷ [])) edits
    ∙ ap burst_steps one

-- behind one burst more: three edits were typed, and two calls sent
pub rests_next : (seed bursts who : ℕ) (seen own : List Row) (s : Staged) (n typed sent owed : ℕ) → typed ≡ 3 → sent ≡ 2 * bursts + 2 → owed ≡ 0 → awaited s ≡ 0
    → IsPlaying seed (((burst_steps bursts ++ replicate typed true) ++ false ∷ []) ++ false ∷ []) sent owed who seen own s n → IsAtRest seed (bursts + 1) who seen own s n
rests_next seed bursts who seen own s n typed sent owed t e o none h = record {
  playing = subst (λ (l : List Bool). IsPlaying seed l (2 * (bursts + 1)) 0 who seen own s n) (burst_more bursts typed t)
      (by_numbers seed (((burst_steps bursts ++ replicate typed true) ++ false ∷ []) ++ false ∷ []) sent owed (2 * (bursts + 1)) 0 who seen own s n (e ∙ omega arith) o h);
  none = none;
}

-- ---- by the words of the calls

-- an edit that was drawn and typed
pub edit_made : (seed : ℕ) (steps : List Bool) (sent k who : ℕ) (seen own : List Row) (s t : Staged) (n next_n size : ℕ) (op : Change) → size ≡ length (held_text (machine s)) → op ≡ drawn_edit size n → next_n ≡ number_after_edit size n
    → t ≡ with_act 0 (act.Typed op) s → CanAct (machine s) (act.Typed op) → IsPlaying seed steps sent k who seen own s n → awaited s ≡ k
    → IsPlaying seed (steps ++ true ∷ []) sent (min 2 (k + 1)) who seen own t next_n × (awaited t ≡ min 2 (k + 1))
edit_made seed steps sent k who seen own s t n next_n size op size_is op_is next_is t_is can h none =
    let made = edit_more seed steps sent k who seen own s n op can (op_is ∙ ap (λ j. drawn_edit j n) size_is) h none in
    let number : next_n ≡ number_after_edit (length (held_text (machine s))) n = next_is ∙ ap (λ j. number_after_edit j n) size_is in (
      subst (λ (x : Staged). IsPlaying seed (steps ++ true ∷ []) sent (min 2 (k + 1)) who seen own x next_n) (sym t_is)
          (subst (λ (j : ℕ). IsPlaying seed (steps ++ true ∷ []) sent (min 2 (k + 1)) who seen own (with_act 0 (act.Typed op) s) j) (sym number) made.0),
      ap awaited t_is ∙ made.1,
    )

-- a call that went out and was placed
pub call_made : (seed : ℕ) (steps : List Bool) (sent owed who : ℕ) (u v : DeskSeatValue) (s t : Staged) (n num at by : ℕ) (c : Call) → t ≡ with_act 0 act.Next s → next_of (machine s) ≡ next.Send num c
    → IsAnswered (record { who = who; num = num; call = c }) u (reply.Placed at by) v → Begins u.seen v.seen
    → IsPlaying seed steps sent owed who u.seen u.own s n → IsPlaying seed (steps ++ false ∷ []) (sent + 1) (owed - 1) who v.seen v.own t n
call_made seed steps sent owed who u v s t n num at by c t_is sends answered later h =
    subst (λ (x : Staged). IsPlaying seed (steps ++ false ∷ []) (sent + 1) (owed - 1) who v.seen v.own x n) (sym t_is) (call_more seed steps sent owed who u v s n num at by c sends answered later h)

-- the entries that came
pub entries_made : (seed : ℕ) (steps : List Bool) (sent owed who : ℕ) (u v : DeskSeatValue) (s t : Staged) (n start : ℕ) (es : List Entry) → start ≡ taken_count (machine s) → es ≡ drop start (entries v.seen)
    → TakesAll es s t → Begins u.seen v.seen → v.own ≡ u.own → IsPlaying seed steps sent owed who u.seen u.own s n → IsPlaying seed steps sent owed who v.seen v.own t n
entries_made seed steps sent owed who u v s t n start es start_is is all later same h =
    (rest_more seed steps sent owed who v.seen v.own s t n es (is ∙ ap (λ k. drop k (entries v.seen)) start_is) all (sees_more seed steps sent owed who u.seen v.seen u.own v.own s n later same h)).playing

-- no edit was typed yet
pub none_typed : (seed bursts who : ℕ) (seen own : List Row) (s : Staged) (n : ℕ) → IsPlaying seed (burst_steps bursts) (2 * bursts) 0 who seen own s n
    → IsPlaying seed (burst_steps bursts ++ replicate 0 true) (2 * bursts) 0 who seen own s n
none_typed seed bursts who seen own s n h = subst (λ (l : List Bool). IsPlaying seed l (2 * bursts) 0 who seen own s n) (sym (append-nil (burst_steps bursts))) h

-- so many edits were typed, and then one more
pub typed_next : (seed bursts typed who : ℕ) (seen own : List Row) (s : Staged) (n : ℕ)
    → IsPlaying seed ((burst_steps bursts ++ replicate typed true) ++ true ∷ []) (2 * bursts) (min 2 (min 2 typed + 1)) who seen own s n × (awaited s ≡ min 2 (min 2 typed + 1))
    → IsPlaying seed (burst_steps bursts ++ replicate (typed + 1) true) (2 * bursts) (min 2 (typed + 1)) who seen own s n × (awaited s ≡ min 2 (typed + 1))
typed_next seed bursts typed who seen own s n h =
    let as_many : min 2 (min 2 typed + 1) ≡ min 2 (typed + 1) = omega arith in
    let steps : (burst_steps bursts ++ replicate typed true) ++ true ∷ [] ≡ burst_steps bursts ++ replicate (typed + 1) true =
    append_assoc (burst_steps bursts) (replicate typed true) (true ∷ []) ∙ ap (λ (l : List Bool). burst_steps bursts ++ l) (edits_more typed) in (
      subst (λ (l : List Bool). IsPlaying seed l (2 * bursts) (min 2 (typed + 1)) who seen own s n) steps
          (by_numbers seed ((burst_steps bursts ++ replicate typed true) ++ true ∷ []) (2 * bursts) (min 2 (min 2 typed + 1)) (2 * bursts) (min 2 (typed + 1)) who seen own s n refl as_many h.0),
      h.1 ∙ as_many,
    )
