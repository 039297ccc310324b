-- A performer whose lines ended well: its leave was sent and taken, and no command found its stage closed.
use Rattle.std.proofs.Common.{◌≡◌, inl, inr, ℕ, Bool, true, false, not, ◌||◌, if◌then◌else◌, List, [], ◌∷◌, ◌++◌, None, Result, Ok, Err, refl, sym, ap, ◌∙◌, subst, append_assoc, append-nil}
use Rattle.seat_lock.specs.Lists.{AllOf, IsIn, Begins}
use Rattle.troop_entry.specs.declared.call.Call.{Call}
use Rattle.troop_entry.specs.declared.call.Call.TheVariants as call
use Rattle.troop_entry.specs.declared.entry.Entry.{Entry}
use Rattle.troop_entry.specs.Told.{is_edit_of}
use Rattle.client_state.specs.Pending.{is_awaiting}
use Rattle.stage_state.specs.declared.act.Act.{Act}
use Rattle.stage_state.specs.declared.act.Act.TheVariants as act
use Rattle.stage_state.specs.declared.played.Origin.{Origin}
use Rattle.stage_state.specs.declared.act.Next.TheVariants as next
use Rattle.stage_state.specs.Machine.{Machine, next_number, after_act, after_acts, after_own_edit, after_other_entry, after_sending, next_open, IsSend, CanAct, IsPlayed}
use Rattle.stage_state.specs.Origins.{machine_at, ArePlayed}
use Rattle.stage_state.specs.Staged.{acts_of}
use Rattle.activities.specs.declared.commands.Flow.{Flow}
use Rattle.activities.specs.declared.commands.Flow.TheVariants as flow
use Rattle.activities.specs.declared.errors.PerformError.{PerformError}
use Rattle.activities.specs.Down.{entry_takes}
use Rattle.activities.specs.Memory.{PlacedAct}
use Rattle.activities.specs.Up.{IsNextAct}
use Rattle.activities.proofs.MachineAt.{one_more}
use Rattle.performer.specs.Joined.{ask_in}
use Rattle.performer.specs.Ends.{error_of}
use Rattle.performer.specs.Performed.{Shares, IsAskRow}
use Rattle.performer.proofs.Picked.{owned}

-- ---- a leave that was sent stays so

entry_leave : (b : Bool) (e : Entry) (m : Machine) → (if b then after_own_edit e m else after_other_entry e m).leave_sent ≡ m.leave_sent
entry_leave true e m = refl
entry_leave false e m = refl

send_leave : (calls : List Call) (m : Machine) → m.leave_sent ≡ true → (after_sending calls m).leave_sent ≡ true
send_leave [] m h = refl
send_leave (c ∷ calls) m h = h

leave_stays : (a : Act) (m : Machine) → m.leave_sent ≡ true → (after_act a m).leave_sent ≡ true
leave_stays (act.Typed op) m h = h
leave_stays (act.Eval place) m h = h
leave_stays (act.Reset text) m h = h
leave_stays (act.Take e) m h = entry_leave (is_edit_of m.own e) e m ∙ h
leave_stays act.Next m h = send_leave m.outgoing m h
leave_stays act.Finish m h = h
leave_stays act.Halt m h = h

leave_further : (o : Origin) (rest acts : List PlacedAct) → (machine_at o acts).leave_sent ≡ true → (machine_at o (acts ++ rest)).leave_sent ≡ true
leave_further o [] acts h = ap (λ rows. (machine_at o rows).leave_sent) (append-nil acts) ∙ h
leave_further o (r ∷ rest) acts h =
    let next : (machine_at o (acts ++ r ∷ [])).leave_sent ≡ true = ap (λ m. m.leave_sent) (one_more o acts r.0 r.1) ∙ leave_stays r.1 (machine_at o acts) h in
    ap (λ rows. (machine_at o rows).leave_sent) (sym (append_assoc acts (r ∷ []) rest)) ∙ leave_further o rest (acts ++ r ∷ []) next

-- a leave that was sent at a front of the acts was sent at all of them
pub leave_later : (o : Origin) (acts later : List PlacedAct) → Begins acts later → (machine_at o acts).leave_sent ≡ true → (machine_at o later).leave_sent ≡ true
leave_later o acts later b h = ap (λ rows. (machine_at o rows).leave_sent) (sym b.1) ∙ leave_further o b.0 acts h

-- ---- no leave is sent without a finish

abbrev GoesOn : PlacedAct → Type 0
GoesOn r = r.1 ≡ act.Finish → ⊥

none_goes : (finishing awaiting sent : Bool) (n : ℕ) → finishing ≡ false → IsSend (if not finishing || awaiting then next.NotYet else (if sent then next.Done else next.Send n call.Leave)) → ⊥
none_goes true awaiting sent n unfinished can = cc
none_goes false awaiting sent n unfinished can = can

next_unsent : (closed : Bool) (calls : List Call) (m : Machine) → m.finishing ≡ false → IsSend (if closed then next.Done else next_open m calls) → m.leave_sent ≡ false
    → (after_sending calls m).leave_sent ≡ false
next_unsent true calls m unfinished can unsent = absurd can
next_unsent false [] m unfinished can unsent = absurd (none_goes m.finishing (is_awaiting m.pending) m.leave_sent (next_number m) unfinished can)
next_unsent false (c ∷ calls) m unfinished can unsent = unsent

act_unsent : (a : Act) (m : Machine) → m.finishing ≡ false → CanAct m a → (a ≡ act.Finish → ⊥) → m.leave_sent ≡ false → (after_act a m).leave_sent ≡ false
act_unsent (act.Typed op) m unfinished can goes unsent = unsent
act_unsent (act.Eval place) m unfinished can goes unsent = unsent
act_unsent (act.Reset text) m unfinished can goes unsent = unsent
act_unsent (act.Take e) m unfinished can goes unsent = entry_leave (is_edit_of m.own e) e m ∙ unsent
act_unsent act.Next m unfinished can goes unsent = next_unsent (m.halted || m.gone) m.outgoing m unfinished can unsent
act_unsent act.Finish m unfinished can goes unsent = absurd (goes refl)
act_unsent act.Halt m unfinished can goes unsent = unsent

entry_open : (b : Bool) (e : Entry) (m : Machine) → (if b then after_own_edit e m else after_other_entry e m).finishing ≡ m.finishing
entry_open true e m = refl
entry_open false e m = refl

send_open : (calls : List Call) (m : Machine) → (after_sending calls m).finishing ≡ m.finishing
send_open [] m = refl
send_open (c ∷ calls) m = refl

act_open : (a : Act) (m : Machine) → m.finishing ≡ false → (a ≡ act.Finish → ⊥) → (after_act a m).finishing ≡ false
act_open (act.Typed op) m unfinished goes = unfinished
act_open (act.Eval place) m unfinished goes = unfinished
act_open (act.Reset text) m unfinished goes = unfinished
act_open (act.Take e) m unfinished goes = entry_open (is_edit_of m.own e) e m ∙ unfinished
act_open act.Next m unfinished goes = send_open m.outgoing m ∙ unfinished
act_open act.Finish m unfinished goes = absurd (goes refl)
act_open act.Halt m unfinished goes = unfinished

acts_unsent : (acts : List PlacedAct) (m : Machine) → m.finishing ≡ false → m.leave_sent ≡ false → IsPlayed m (acts_of acts) → AllOf GoesOn acts
    → (after_acts (acts_of acts) m).leave_sent ≡ false
acts_unsent [] m unfinished unsent played goes = unsent
acts_unsent (r ∷ acts) m unfinished unsent played goes =
    acts_unsent acts (after_act r.1 m) (act_open r.1 m unfinished goes.0) (act_unsent r.1 m unfinished played.0 goes.0 unsent) played.1 goes.1

-- ---- what the seats did

all_of : (P Q : PlacedAct → Type 0) (xs : List PlacedAct) → ((x : PlacedAct) → P x → Q x) → AllOf P xs → AllOf Q xs
all_of P Q [] f h = tt
all_of P Q (x ∷ xs) f h = (f x h.0, all_of P Q xs f h.1)

ask_goes : (r : PlacedAct) → IsAskRow r → GoesOn r
ask_goes r h = λ is. let wrong : ask_in act.Finish ≡ act.Finish ∷ [] = subst (λ (a : Act). ask_in a ≡ a ∷ []) is h in cc

next_goes : (r : PlacedAct) → IsNextAct r → GoesOn r
next_goes r h = λ is. let wrong : act.Next ≡ act.Finish = sym h ∙ is in cc

takes_go : (n : ℕ) (es : List Entry) → AllOf GoesOn (entry_takes n es)
takes_go n [] = tt
takes_go n (e ∷ es) = ((λ is. cc), takes_go n es)

one_goes : (a b n : ℕ) (r : PlacedAct) → IsIn r.0 (a ∷ b ∷ n ∷ []) → (r.0 ≡ a → GoesOn r) → (r.0 ≡ b → GoesOn r) → (r.0 ≡ n → GoesOn r) → GoesOn r
one_goes a b n r (inl e) at_a at_b at_n = at_a (sym e)
one_goes a b n r (inr (inl e)) at_a at_b at_n = at_b (sym e)
one_goes a b n r (inr (inr (inl e))) at_a at_b at_n = at_n (sym e)
one_goes a b n r (inr (inr (inr e))) at_a at_b at_n = absurd e

three_go : (a b n : ℕ) (acts : List PlacedAct) → AllOf (λ (r : PlacedAct). IsIn r.0 (a ∷ b ∷ n ∷ [])) acts → AllOf (λ (r : PlacedAct). r.0 ≡ a → GoesOn r) acts
    → AllOf (λ (r : PlacedAct). r.0 ≡ b → GoesOn r) acts → AllOf (λ (r : PlacedAct). r.0 ≡ n → GoesOn r) acts → AllOf GoesOn acts
three_go a b n [] every at_a at_b at_n = tt
three_go a b n (r ∷ acts) every at_a at_b at_n = (one_goes a b n r every.0 at_a.0 at_b.0 at_n.0, three_go a b n acts every.1 at_a.1 at_b.1 at_n.1)

shared_go : (acts : List PlacedAct) (typing up down : ℕ) → Shares acts (Ok flow.Closed) None None typing up down → AllOf GoesOn acts
shared_go acts typing up down h =
    three_go typing up down acts h.every
    (owned GoesOn typing acts (subst (λ (l : List PlacedAct). AllOf GoesOn l) (sym h.asks.2) (all_of IsAskRow GoesOn h.asks.0 ask_goes h.asks.1)))
    (owned GoesOn up acts (subst (λ (l : List PlacedAct). AllOf GoesOn l) (sym h.nexts.2) (all_of IsNextAct GoesOn h.nexts.0 next_goes h.nexts.1)))
    (owned GoesOn down acts (subst (λ (l : List PlacedAct). AllOf GoesOn l) (sym h.entries.1) (takes_go down h.entries.0)))

-- where both lines ended well and the leave was sent, the commands were read to their end or to a leave
pub commands_ended : (o : Origin) (acts : List PlacedAct) (end : Result Flow PerformError) (typing up down : ℕ) → error_of end ≡ None → Shares acts end None None typing up down
    → ArePlayed o acts → (machine_at o acts).leave_sent ≡ true → end ≡ Ok flow.Ended
commands_ended o acts (Ok flow.On) typing up down well h played sent = absurd h.asks.2
commands_ended o acts (Ok flow.Ended) typing up down well h played sent = refl
commands_ended o acts (Ok flow.Closed) typing up down well h played sent =
    let unsent : (machine_at o acts).leave_sent ≡ false = acts_unsent acts (machine_at o []) refl refl played (shared_go acts typing up down h) in
    let wrong : true ≡ false = sym sent ∙ unsent in
    absurd (cc)
commands_ended o acts (Err e) typing up down well h played sent = absurd (cc)
