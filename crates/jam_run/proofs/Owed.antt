-- How many calls a machine owes, one act further.
use Rattle.std.proofs.Common.{◌≡◌, ℕ, suc, ◌+◌, ◌-◌, ◌≤◌, min, Bool, true, false, if◌then◌else◌, Option, None, Some, List, [], ◌∷◌, ◌++◌, length, length-append, refl, ap, arith}
use Rattle.ot_text.specs.Change.{Change}
use Rattle.troop_entry.specs.declared.call.Call.{Call}
use Rattle.troop_entry.specs.declared.call.Call.TheVariants as call
use Rattle.troop_entry.specs.declared.entry.Entry.{Entry}
use Rattle.troop_entry.specs.Told.{op_told}
use Rattle.client_state.specs.declared.state.State.{State}
use Rattle.client_state.specs.declared.state.State.TheVariants.{Synchronized, Awaiting, WithBuffer}
use Rattle.client_state.specs.Pending.{outstanding, buffer, after_edit, sent_at_edit, after_own, after_told}
use Rattle.stage_state.specs.Machine.{Machine, taken_count, edit_asked, after_own_edit, after_other_entry, after_sending}
use Rattle.replay_run.specs.Shown.{awaits}
use Rattle.jam_run.specs.Playing.{owed_by}

-- who awaits nothing has nothing outstanding
pub none_outstanding : (p : State) → awaits p ≡ 0 → outstanding p ≡ None
none_outstanding Synchronized e = refl
none_outstanding (Awaiting u) e = absurd (omega (arith, e))
none_outstanding (WithBuffer u v) e = absurd (omega (arith, e))

-- a local edit is awaited too, or joins what is held back
pub typing_awaits : (p : State) (op : Change) → awaits (after_edit p op) ≡ min 2 (awaits p + 1)
typing_awaits Synchronized op = refl
typing_awaits (Awaiting u) op = refl
typing_awaits (WithBuffer u v) op = refl

-- where nothing that is awaited went out, it is owed so
pub typing_owes : (p : State) (op : Change) (seen : ℕ) (out : List Call) → length out + (awaits p - 1) ≡ awaits p
    → length (out ++ edit_asked seen (sent_at_edit p op)) + (awaits (after_edit p op) - 1) ≡ min 2 (awaits p + 1)
typing_owes Synchronized op seen out e = omega (arith, e, length-append out (call.Edit seen op ∷ []))
typing_owes (Awaiting u) op seen out e = omega (arith, e, length-append out [])
typing_owes (WithBuffer u v) op seen out e = omega (arith, e, length-append out [])

own_owes : (p : State) (seen : ℕ) (out : List Call) → length (out ++ edit_asked seen (buffer p)) + (awaits (after_own p) - 1) ≡ length out + (awaits p - 1)
own_owes Synchronized seen out = omega (arith, length-append out [])
own_owes (Awaiting u) seen out = omega (arith, length-append out [])
own_owes (WithBuffer u v) seen out = omega (arith, length-append out (call.Edit seen v ∷ []))

own_awaits : (p : State) → awaits (after_own p) ≤ awaits p
own_awaits Synchronized = omega arith
own_awaits (Awaiting u) = omega arith
own_awaits (WithBuffer u v) = omega arith

told_awaits : (p : State) (o : Option Change) → awaits (after_told p o) ≡ awaits p
told_awaits p None = refl
told_awaits Synchronized (Some op) = refl
told_awaits (Awaiting u) (Some op) = refl
told_awaits (WithBuffer u v) (Some op) = refl

-- an entry taken changes nothing of what is owed
pub entry_owes : (b : Bool) (e : Entry) (m : Machine) → owed_by (if b then after_own_edit e m else after_other_entry e m) ≡ owed_by m
entry_owes true e m = own_owes m.pending (suc (taken_count m)) m.outgoing
entry_owes false e m = ap (λ k. length m.outgoing + (k - 1)) (told_awaits m.pending (op_told e.deed))

-- and after it no more is awaited
pub entry_awaits : (b : Bool) (e : Entry) (m : Machine) → awaits (if b then after_own_edit e m else after_other_entry e m).pending ≤ awaits m.pending
entry_awaits true e m = own_awaits m.pending
entry_awaits false e m = let same = told_awaits m.pending (op_told e.deed) in omega (arith, same)

-- a call that goes out is owed no more
pub sending_owes : (calls rest : List Call) (c : Call) (m : Machine) → calls ≡ c ∷ rest
    → owed_by (after_sending calls m) ≡ (length calls + (awaits m.pending - 1)) - 1
sending_owes [] rest c m e = absurd (cc)
sending_owes (d ∷ calls) rest c m e = omega arith
