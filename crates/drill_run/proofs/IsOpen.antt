-- An open machine stays open through the acts of a drill.
use Rattle.std.proofs.Common.{◌≡◌, ℕ, suc, Bool, true, false, ◌||◌, not, if◌then◌else◌, Option, None, Some, List, [], ◌∷◌, ◌++◌, refl, sym, ap, ◌∙◌, subst}
use Rattle.std.specs.Prelude.{All}
use Rattle.std.proofs.lemmas.List.Elements.{All-nil, All-cons, All-head, All-tail, All-append}
use Rattle.ot_text.specs.Change.{Change}
use Rattle.troop_entry.specs.declared.call.Call.{Call}
use Rattle.troop_entry.specs.declared.call.Call.TheVariants as call
use Rattle.troop_entry.specs.declared.entry.Entry.{Entry}
use Rattle.troop_entry.specs.Told.{is_edit_of, is_leave_of}
use Rattle.client_state.specs.Pending.{buffer, is_awaiting, sent_at_edit}
use Rattle.stage_state.specs.declared.act.Act.{Act}
use Rattle.stage_state.specs.declared.act.Act.TheVariants as act
use Rattle.stage_state.specs.declared.act.Next.{Next}
use Rattle.stage_state.specs.declared.act.Next.TheVariants as next
use Rattle.stage_state.specs.Machine.{Machine, after_act, after_own_edit, after_other_entry, after_sending, block_held, edit_asked, eval_asked, next_of, next_open, next_number, taken_count}
use Rattle.stage_state.specs.Replies.{accepts}
use Rattle.stage_state.specs.Staged.{Staged, machine, with_act}
use Rattle.stage_state.proofs.Machine.{machine-own, machine-with_act}
use Rattle.world_core.specs.States.{PerformerState}
use Rattle.world_core.specs.Steps.{after_own_act}
use Rattle.drill_run.specs.OpenWorlds.{IsNoLeave, IsOpen}

-- the act neither finishes nor halts, and isn't the performer's own leave
abbrev pub Stays : ℕ → Act → Type 0
Stays own (act.Typed op) = Unit {0}
Stays own (act.Eval place) = Unit {0}
Stays own (act.Reset text) = Unit {0}
Stays own (act.Take e) = is_leave_of own e ≡ false
Stays own act.Next = Unit {0}
Stays own act.Finish = ⊥
Stays own act.Halt = ⊥

one_call : (c : Call) → IsNoLeave c → All IsNoLeave (c ∷ [])
one_call c is = All-cons IsNoLeave c [] is (All-nil IsNoLeave)

no_leave_edit : (seen : ℕ) (o : Option Change) → All IsNoLeave (edit_asked seen o)
no_leave_edit seen None = All-nil IsNoLeave
no_leave_edit seen (Some op) = one_call (call.Edit seen op) refl

no_leave_eval : (seen : ℕ) (o : Option (List ℕ)) → All IsNoLeave (eval_asked seen o)
no_leave_eval seen None = All-nil IsNoLeave
no_leave_eval seen (Some text) = one_call (call.Eval seen text) refl

asked : (m : Machine) (calls : List Call) → IsOpen m → All IsNoLeave calls → All IsNoLeave (m.outgoing ++ calls)
asked m calls h more = All-append IsNoLeave m.outgoing calls h.no_leaves more

open_sent : (calls : List Call) (m : Machine) → m.outgoing ≡ calls → IsOpen m → IsOpen (after_sending calls m)
open_sent [] m is h = record { not_finishing = h.not_finishing; not_halted = h.not_halted; not_gone = h.not_gone; no_leaves = h.no_leaves }
open_sent (c ∷ calls) m is h = record {
  not_finishing = h.not_finishing;
  not_halted = h.not_halted;
  not_gone = h.not_gone;
  no_leaves = All-tail IsNoLeave c calls (subst (All IsNoLeave) is h.no_leaves);
}

open_taken : (b : Bool) (e : Entry) (m : Machine) → is_leave_of m.own e ≡ false → IsOpen m → IsOpen (if b then after_own_edit e m else after_other_entry e m)
open_taken true e m stays h = record {
  not_finishing = h.not_finishing;
  not_halted = h.not_halted;
  not_gone = h.not_gone;
  no_leaves = asked m (edit_asked (suc (taken_count m)) (buffer m.pending)) h (no_leave_edit (suc (taken_count m)) (buffer m.pending));
}
open_taken false e m stays h = record {
  not_finishing = h.not_finishing;
  not_halted = h.not_halted;
  not_gone = ap (λ b. b || is_leave_of m.own e) h.not_gone ∙ stays;
  no_leaves = h.no_leaves;
}

open_act : (a : Act) (m : Machine) → Stays m.own a → IsOpen m → IsOpen (after_act a m)
open_act (act.Typed op) m stays h = record {
  not_finishing = h.not_finishing;
  not_halted = h.not_halted;
  not_gone = h.not_gone;
  no_leaves = asked m (edit_asked (taken_count m) (sent_at_edit m.pending op)) h (no_leave_edit (taken_count m) (sent_at_edit m.pending op));
}
open_act (act.Eval place) m stays h = record {
  not_finishing = h.not_finishing;
  not_halted = h.not_halted;
  not_gone = h.not_gone;
  no_leaves = asked m (eval_asked (taken_count m) (block_held place m)) h (no_leave_eval (taken_count m) (block_held place m));
}
open_act (act.Reset text) m stays h = record {
  not_finishing = h.not_finishing;
  not_halted = h.not_halted;
  not_gone = h.not_gone;
  no_leaves = asked m (call.Reset (taken_count m) text ∷ []) h (one_call (call.Reset (taken_count m) text) refl);
}
open_act (act.Take e) m stays h = open_taken (is_edit_of m.own e) e m stays h
open_act act.Next m stays h = open_sent m.outgoing m refl h
open_act act.Finish m stays h = absurd stays
open_act act.Halt m stays h = absurd stays

-- a stage with one act more
pub open_with_act : (seat : ℕ) (a : Act) (s : Staged) → Stays s.own a → IsOpen (machine s) → IsOpen (machine (with_act seat a s))
open_with_act seat a s stays h =
    subst IsOpen (sym (machine-with_act seat a s)) (open_act a (machine s) (subst (λ n. Stays n a) (sym (machine-own s)) stays) h)

-- a performer after an act of its own
pub open_own_act : (a : Act) (p : PerformerState) → Stays p.staged.own a → IsOpen (machine p.staged) → IsOpen (machine (after_own_act a p).staged)
open_own_act a p stays h = by_test (accepts (machine p.staged) a)
  where
    by_test : (b : Bool) → IsOpen (machine (if b then with_act 0 a p.staged else p.staged))
    by_test true = open_with_act 0 a p.staged stays h
    by_test false = h

-- what goes out next of an open machine is the first call that is to go out, or nothing yet
pub next_is_open : (m : Machine) → IsOpen m → next_of m ≡ next_open m m.outgoing
next_is_open m h = ap (λ b. if b || m.gone then next.Done else next_open m m.outgoing) h.not_halted ∙ ap (λ b. if b then next.Done else next_open m m.outgoing) h.not_gone

pub none_goes_out : (m : Machine) → IsOpen m → m.outgoing ≡ [] → next_of m ≡ next.NotYet
none_goes_out m h is = next_is_open m h ∙ ap (next_open m) is ∙ ap (λ b. if not b || is_awaiting m.pending then next.NotYet else (if m.leave_sent then next.Done else next.Send (next_number m) call.Leave)) h.not_finishing

pub first_goes_out : (m : Machine) (c : Call) (calls : List Call) → IsOpen m → m.outgoing ≡ c ∷ calls → next_of m ≡ next.Send (next_number m) c
first_goes_out m c calls h is = next_is_open m h ∙ ap (next_open m) is

-- and no leave goes out
pub no_leave_next : (m : Machine) (num : ℕ) (c : Call) → IsOpen m → next_of m ≡ next.Send num c → IsNoLeave c
no_leave_next m num c h sends = by_calls m.outgoing refl
  where
    by_calls : (calls : List Call) → m.outgoing ≡ calls → IsNoLeave c
    by_calls [] is = let no : next.NotYet ≡ next.Send num c = sym (none_goes_out m h is) ∙ sends in absurd (cc)
    by_calls (d ∷ calls) is =
        let same : next.Send (next_number m) d ≡ next.Send num c = sym (first_goes_out m d calls h is) ∙ sends in
        let one : d ≡ c = cc in
        subst IsNoLeave one (All-head IsNoLeave d calls (subst (All IsNoLeave) is h.no_leaves))
