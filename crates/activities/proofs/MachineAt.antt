-- A stage's machine, act by act.
use Rattle.std.proofs.Common.{◌≡◌, ℕ, Bool, true, false, ◌==◌, ◌&&◌, ◌||◌, if◌then◌else◌, List, [], ◌∷◌, ◌++◌, refl, sym, ap, ◌∙◌, subst, append_assoc, append-nil}
use Rattle.seat_lock.specs.Lists.{Begins}
use Rattle.troop_entry.specs.declared.call.Call.{Call}
use Rattle.troop_entry.specs.declared.entry.Entry.{Entry}
use Rattle.troop_entry.specs.declared.entry.Deed.{Deed}
use Rattle.troop_entry.specs.declared.entry.Deed.TheVariants as deed
use Rattle.troop_entry.specs.Told.{is_edit_of, is_leave_of, tells_edit, tells_leave}
use Rattle.stage_state.specs.declared.act.Act.{Act}
use Rattle.stage_state.specs.declared.act.Act.TheVariants as act
use Rattle.stage_state.specs.declared.played.Origin.{Origin}
use Rattle.stage_state.specs.Machine.{Machine, after_act, after_entry_taken, after_own_edit, after_other_entry, after_sending}
use Rattle.stage_state.specs.Origins.{stage_from, machine_at}
use Rattle.stage_state.proofs.Machine.{machine-own, machine-joined, machine-with_act}
use Rattle.activities.specs.Memory.{PlacedAct}

pub own_at : (o : Origin) (acts : List PlacedAct) → (machine_at o acts).own ≡ o.own
own_at o acts = machine-own (stage_from o acts)

pub joined_at : (o : Origin) (acts : List PlacedAct) → (machine_at o acts).joined ≡ o.joined
joined_at o acts = machine-joined (stage_from o acts)

pub one_more : (o : Origin) (acts : List PlacedAct) (seat : ℕ) (a : Act) → machine_at o (acts ++ (seat, a) ∷ []) ≡ after_act a (machine_at o acts)
one_more o acts seat a = machine-with_act seat a (stage_from o acts)

no_edit : (d : Deed) (b : Bool) → (tells_leave d && b) ≡ true → (tells_edit d && b) ≡ false
no_edit (deed.Join name lang) b e = absurd (cc)
no_edit deed.Leave b e = refl
no_edit (deed.Edit op) b e = absurd (cc)
no_edit (deed.Eval text) b e = absurd (cc)
no_edit (deed.Reset op) b e = absurd (cc)

or_true : (a b : Bool) → b ≡ true → (a || b) ≡ true
or_true true b e = refl
or_true false b e = e

left_gone : (b : Bool) (m : Machine) (e : Entry) → b ≡ false → is_leave_of m.own e ≡ true → (if b then after_own_edit e m else after_other_entry e m).gone ≡ true
left_gone true m e none leave = absurd (cc)
left_gone false m e none leave = or_true m.gone (is_leave_of m.own e) leave

-- with its own leave the performer is gone
pub take_gone : (m : Machine) (e : Entry) → is_leave_of m.own e ≡ true → (after_entry_taken e m).gone ≡ true
take_gone m e leave = left_gone (is_edit_of m.own e) m e (no_edit e.deed (e.who == m.own) leave) leave

-- ---- what stays

entry_stays : (b : Bool) (e : Entry) (m : Machine) → m.gone ≡ true → (if b then after_own_edit e m else after_other_entry e m).gone ≡ true
entry_stays true e m h = h
entry_stays false e m h = ap (λ b. b || is_leave_of m.own e) h

send_stays : (calls : List Call) (m : Machine) → (after_sending calls m).gone ≡ m.gone
send_stays [] m = refl
send_stays (c ∷ calls) m = refl

-- who is gone stays so
pub gone_stays : (a : Act) (m : Machine) → m.gone ≡ true → (after_act a m).gone ≡ true
gone_stays (act.Typed op) m h = h
gone_stays (act.Eval place) m h = h
gone_stays (act.Reset text) m h = h
gone_stays (act.Take e) m h = entry_stays (is_edit_of m.own e) e m h
gone_stays act.Next m h = send_stays m.outgoing m ∙ h
gone_stays act.Finish m h = h
gone_stays act.Halt m h = h

gone_further : (o : Origin) (rest acts : List PlacedAct) → (machine_at o acts).gone ≡ true → (machine_at o (acts ++ rest)).gone ≡ true
gone_further o [] acts h = ap (λ rows. (machine_at o rows).gone) (append-nil acts) ∙ h
gone_further o (r ∷ rest) acts h =
    let next : (machine_at o (acts ++ r ∷ [])).gone ≡ true = ap (λ m. m.gone) (one_more o acts r.0 r.1) ∙ gone_stays r.1 (machine_at o acts) h in
    ap (λ rows. (machine_at o rows).gone) (sym (append_assoc acts (r ∷ []) rest)) ∙ gone_further o rest (acts ++ r ∷ []) next

pub gone_later : (o : Origin) (acts later : List PlacedAct) → Begins acts later → (machine_at o acts).gone ≡ true → (machine_at o later).gone ≡ true
gone_later o acts later b h = ap (λ rows. (machine_at o rows).gone) (sym b.1) ∙ gone_further o b.0 acts h
