-- Acts whose edits are drawn, one act further; they ask for edits alone.
use Rattle.std.proofs.Common.{◌≡◌, ℕ, zero, suc, ◌+◌, ◌*◌, Bool, true, false, if◌then◌else◌, ◌||◌, not, cond, Option, None, Some, List, [], ◌∷◌, ◌++◌, refl, sym, ap, ◌∙◌, subst, arith}
use Rattle.std.specs.Prelude.{count_by}
use Rattle.std.proofs.lemmas.List.Sums.{sum_by-cons, sum_by-append}
use Rattle.seat_lock.specs.Lists.{AllOf}
use Rattle.seat_lock.proofs.AllOf.{all_append}
use Rattle.ot_text.specs.Change.{Change}
use Rattle.troop_entry.specs.declared.call.Call.{Call}
use Rattle.troop_entry.specs.declared.call.Call.TheVariants as call
use Rattle.troop_entry.specs.declared.entry.Entry.{Entry}
use Rattle.troop_entry.specs.Told.{is_edit_of}
use Rattle.client_state.specs.Pending.{is_awaiting, sent_at_edit, buffer}
use Rattle.stage_state.specs.declared.act.Act.{Act}
use Rattle.stage_state.specs.declared.act.Act.TheVariants as act
use Rattle.stage_state.specs.declared.act.Next.TheVariants as next
use Rattle.stage_state.specs.Machine.{Machine, taken_count, edit_asked, after_own_edit, after_other_entry, next_number, next_open, after_sending, after_act, after_acts, IsSend, CanAct, IsPlayed}
use Rattle.stage_state.specs.Staged.{Staged, acts_of, first_machine, machine, IsStagePlayed}
use Rattle.agreement.specs.Agreement.{is_edit}
use Rattle.jam_run.specs.Drawing.{is_typed, steps_of, burst_steps, number_after_act, IsDrawn, number_after_acts, AreDrawn}

-- ---- one act further

-- the number held behind one act more
pub number_after_acts-one_more : (acts : List Act) (a : Act) (number : ℕ) (m : Machine)
    → number_after_acts number m (acts ++ a ∷ []) ≡ number_after_act (number_after_acts number m acts) (after_acts acts m) a
number_after_acts-one_more [] a number m = refl
number_after_acts-one_more (b ∷ acts) a number m = number_after_acts-one_more acts a (number_after_act number m b) (after_act b m)

-- one act more that is drawn where the others have led
pub drawn_one_more : (acts : List Act) (a : Act) (number : ℕ) (m : Machine) → AreDrawn number m acts
    → IsDrawn (number_after_acts number m acts) (after_acts acts m) a → AreDrawn number m (acts ++ a ∷ [])
drawn_one_more [] a number m h here = (here, tt)
drawn_one_more (b ∷ acts) a number m h here = (h.0, drawn_one_more acts a (number_after_act number m b) (after_act b m) h.1 here)

-- one act more: a step, but for one that takes an entry
pub steps_one_more : (acts : List Act) (a : Act) → steps_of (acts ++ a ∷ []) ≡ steps_of acts ++ steps_of (a ∷ [])
steps_one_more [] a = refl
steps_one_more (act.Typed op ∷ acts) a = ap (λ (l : List Bool). true ∷ l) (steps_one_more acts a)
steps_one_more (act.Eval place ∷ acts) a = ap (λ (l : List Bool). false ∷ l) (steps_one_more acts a)
steps_one_more (act.Reset text ∷ acts) a = ap (λ (l : List Bool). false ∷ l) (steps_one_more acts a)
steps_one_more (act.Take e ∷ acts) a = steps_one_more acts a
steps_one_more (act.Next ∷ acts) a = ap (λ (l : List Bool). false ∷ l) (steps_one_more acts a)
steps_one_more (act.Finish ∷ acts) a = ap (λ (l : List Bool). false ∷ l) (steps_one_more acts a)
steps_one_more (act.Halt ∷ acts) a = ap (λ (l : List Bool). false ∷ l) (steps_one_more acts a)

-- how many of the steps are edits
abbrev edits_among : List Bool → ℕ
edits_among steps = count_by (λ (b : Bool). b) steps

-- as many as among the acts
edits_are : (acts : List Act) → count_by is_typed acts ≡ edits_among (steps_of acts)
edits_are [] = refl
edits_are (act.Typed op ∷ acts) =
    let of_acts : count_by is_typed (act.Typed op ∷ acts) ≡ 1 + count_by is_typed acts = sum_by-cons (λ (a : Act). cond (is_typed a) 1 0) (act.Typed op) acts in
    let of_steps : edits_among (true ∷ steps_of acts) ≡ 1 + edits_among (steps_of acts) = sum_by-cons (λ (b : Bool). cond b 1 0) true (steps_of acts) in
    of_acts ∙ ap (λ (k : ℕ). 1 + k) (edits_are acts) ∙ sym of_steps
edits_are (act.Eval place ∷ acts) = edits_are acts
edits_are (act.Reset text ∷ acts) = edits_are acts
edits_are (act.Take e ∷ acts) = edits_are acts
edits_are (act.Next ∷ acts) = edits_are acts
edits_are (act.Finish ∷ acts) = edits_are acts
edits_are (act.Halt ∷ acts) = edits_are acts

edits_of_bursts : (n : ℕ) → edits_among (burst_steps n) ≡ 3 * n
edits_of_bursts zero = refl
edits_of_bursts (suc n) =
    let r = edits_of_bursts n in
    omega (arith, r, sum_by-append (λ (b : Bool). cond b 1 0) (burst_steps n) (true ∷ true ∷ true ∷ false ∷ false ∷ []))

-- three edits for each burst
pub typed_of_bursts : (acts : List Act) (n : ℕ) → steps_of acts ≡ burst_steps n → count_by is_typed acts ≡ 3 * n
typed_of_bursts acts n e = edits_are acts ∙ ap edits_among e ∙ edits_of_bursts n

-- ---- edits alone

-- each of these calls is an edit
abbrev pub AreEdits : List Call → Type 0
AreEdits calls = AllOf (λ (c : Call). is_edit c ≡ true) calls

-- it asks for edits alone, and doesn't finish
pub record AsksEdits (m : Machine) : Type 0 where
  pub outgoing_are : AreEdits m.outgoing
  pub sent_are : AreEdits m.sent
  pub goes_on : m.finishing ≡ false

both_edits : (xs ys : List Call) → AreEdits xs → AreEdits ys → AreEdits (xs ++ ys)
both_edits xs ys h k = all_append (λ (c : Call). is_edit c ≡ true) xs ys h k

asked_edits : (seen : ℕ) (o : Option Change) → AreEdits (edit_asked seen o)
asked_edits seen None = tt
asked_edits seen (Some op) = (refl, tt)

entry_asks : (b : Bool) (e : Entry) (m : Machine) → AsksEdits m → AsksEdits (if b then after_own_edit e m else after_other_entry e m)
entry_asks true e m h = record {
  outgoing_are = both_edits m.outgoing (edit_asked (suc (taken_count m)) (buffer m.pending)) h.outgoing_are (asked_edits (suc (taken_count m)) (buffer m.pending));
  sent_are = h.sent_are;
  goes_on = h.goes_on;
}
entry_asks false e m h = record { outgoing_are = h.outgoing_are; sent_are = h.sent_are; goes_on = h.goes_on }

-- with no call to go out, nothing goes out before it finishes
nothing_goes : (closed finishing awaits left : Bool) (k : ℕ) → finishing ≡ false
    → IsSend (if closed then next.Done else (if not finishing || awaits then next.NotYet else (if left then next.Done else next.Send k call.Leave))) → ⊥
nothing_goes true finishing awaits left k e h = h
nothing_goes false true awaits left k e h = absurd (cc)
nothing_goes false false awaits left k e h = h

sending_asks : (calls : List Call) (m : Machine) → AreEdits calls → AreEdits m.sent → m.finishing ≡ false
    → IsSend (if m.halted || m.gone then next.Done else next_open m calls) → AsksEdits (after_sending calls m)
sending_asks [] m out sent e h = absurd (nothing_goes (m.halted || m.gone) m.finishing (is_awaiting m.pending) m.leave_sent (next_number m) e h)
sending_asks (c ∷ calls) m out sent e h = record { outgoing_are = out.1; sent_are = both_edits m.sent (c ∷ []) sent (out.0, tt); goes_on = e }

act_asks : (a : Act) (number : ℕ) (m : Machine) → CanAct m a → IsDrawn number m a → AsksEdits m → AsksEdits (after_act a m)
act_asks (act.Typed op) number m can drawn h = record {
  outgoing_are = both_edits m.outgoing (edit_asked (taken_count m) (sent_at_edit m.pending op)) h.outgoing_are (asked_edits (taken_count m) (sent_at_edit m.pending op));
  sent_are = h.sent_are;
  goes_on = h.goes_on;
}
act_asks (act.Eval place) number m can drawn h = absurd drawn
act_asks (act.Reset text) number m can drawn h = absurd drawn
act_asks (act.Take e) number m can drawn h = entry_asks (is_edit_of m.own e) e m h
act_asks act.Next number m can drawn h = sending_asks m.outgoing m h.outgoing_are h.sent_are h.goes_on can
act_asks act.Finish number m can drawn h = absurd drawn
act_asks act.Halt number m can drawn h = absurd drawn

acts_ask : (acts : List Act) (number : ℕ) (m : Machine) → IsPlayed m acts → AreDrawn number m acts → AsksEdits m → AsksEdits (after_acts acts m)
acts_ask [] number m played drawn h = h
acts_ask (a ∷ acts) number m played drawn h =
    acts_ask acts (number_after_act number m a) (after_act a m) played.1 drawn.1 (act_asks a number m played.0 drawn.0 h)

-- a stage with such acts asks for edits alone
pub stage_asks : (s : Staged) (number : ℕ) → IsStagePlayed s → AreDrawn number (first_machine s) (acts_of s.acts) → AsksEdits (machine s)
stage_asks s number played drawn =
    acts_ask (acts_of s.acts) number (first_machine s) played drawn (record { outgoing_are = tt; sent_are = tt; goes_on = refl })

-- ---- what goes out

-- a call that goes out, and those behind it
pub record FirstGoes (calls : List Call) (c : Call) : Type 0 where
  pub rest : List Call
  pub is : calls ≡ c ∷ rest
  pub edit : is_edit c ≡ true

-- what goes out of such a machine is the first of its calls, an edit
pub first_goes : (calls : List Call) (m : Machine) (closed : Bool) (num : ℕ) (c : Call) → AreEdits calls → m.finishing ≡ false
    → (if closed then next.Done else next_open m calls) ≡ next.Send num c → FirstGoes calls c
first_goes calls m true num c out e sends = absurd (cc)
first_goes [] m false num c out e sends =
    absurd (nothing_goes false m.finishing (is_awaiting m.pending) m.leave_sent (next_number m) e (subst IsSend (sym sends) tt))
first_goes (d ∷ calls) m false num c out e sends = let same : d ≡ c = cc in record { rest = calls; is = ap (λ x. x ∷ calls) same; edit = ap is_edit (sym same) ∙ out.0 }
