-- An open world stays open through the steps of a drill.
use Rattle.std.proofs.Common.{◌≡◌, ◌≢◌, ℕ, zero, suc, ◌+◌, Bool, true, false, if◌then◌else◌, Option, None, Some, List, [], ◌∷◌, ◌++◌, map, slice_get, refl, sym, ap, ◌∙◌, subst}
use Rattle.std.specs.Prelude.{All, ◌&&◌, nat_eq}
use Rattle.std.proofs.lemmas.List.Elements.{All-push, All-head, All-tail}
use Rattle.troop_entry.specs.declared.block.Block.{Block}
use Rattle.troop_entry.specs.declared.call.Call.{Call}
use Rattle.troop_entry.specs.declared.call.Call.TheVariants as call
use Rattle.troop_entry.specs.declared.entry.Entry.{Entry}
use Rattle.troop_entry.specs.declared.row.Row.{Row}
use Rattle.troop_entry.specs.Entries.{deed_of, entry_of}
use Rattle.troop_entry.specs.Kinds.{is_leave}
use Rattle.troop_entry.specs.Told.{is_leave_of, tells_leave}
use Rattle.ot_text.specs.Change.{Change}
use Rattle.log_model.specs.Answers.{answer, is_accepted, log_after, row_made}
use Rattle.log_model.specs.Log.{entries}
use Rattle.stage_state.specs.declared.act.Act.{Act}
use Rattle.stage_state.specs.declared.act.Act.TheVariants as act
use Rattle.stage_state.specs.declared.act.Next.{Next}
use Rattle.stage_state.specs.declared.act.Next.TheVariants as next
use Rattle.stage_state.specs.Machine.{Machine, next_of, taken_count}
use Rattle.stage_state.specs.Replies.{accepts}
use Rattle.stage_state.specs.Staged.{Staged, machine, with_act}
use Rattle.agreement.proofs.EntryOf.{entry_back}
use Rattle.wire_json.specs.declared.steps.Step.{Step}
use Rattle.wire_json.specs.declared.steps.Step.TheVariants as step
use Rattle.world_core.specs.States.{PerformerState, WorldState, performer_with, with_performer}
use Rattle.world_core.specs.Steps.{after_alone, after_feed, after_next_call, after_next_entry, after_own_act, is_done, moved, next_call, next_entry, told_of, world_after}
use Rattle.world_core.proofs.NextEntry.{next_is}
use Rattle.drill_run.specs.OpenWorlds.{IsNoLeave, IsOpen, IsOpenWorld}
use Rattle.drill_run.specs.Script.{numbers_of}
use Rattle.drill_run.proofs.IsOpen.{Stays, open_own_act, open_with_act, no_leave_next}
use Rattle.drill_run.proofs.Performers.{KeepsOwn, all_changed, found_keeps, numbers_kept, own_of}

-- the step is one that drawn and draining steps are
abbrev pub IsDrillStep : Step → Type 0
IsDrillStep (step.Guest name lang) = ⊥
IsDrillStep (step.Call who num c) = ⊥
IsDrillStep (step.Join name lang boot) = ⊥
IsDrillStep (step.SnapJoin name lang boot) = ⊥
IsDrillStep (step.Edit who op) = Unit {0}
IsDrillStep (step.Eval who place) = Unit {0}
IsDrillStep (step.Reset who text) = Unit {0}
IsDrillStep (step.Serve who) = Unit {0}
IsDrillStep (step.Take who) = Unit {0}
IsDrillStep (step.Feed who bytes) = Unit {0}
IsDrillStep (step.Deaf who starts) = ⊥
IsDrillStep (step.Leave who) = ⊥
IsDrillStep (step.Again who) = ⊥
IsDrillStep step.Show = ⊥

-- a performer that is open
abbrev pub IsOpenPerformer : PerformerState → Type 0
IsOpenPerformer p = IsOpen (machine p.staged)

-- ---- what changes leave

pub own_act_keeps : (a : Act) → KeepsOwn (after_own_act a)
own_act_keeps a p = by_test (accepts (machine p.staged) a)
  where
    by_test : (b : Bool) → (if b then with_act 0 a p.staged else p.staged).own ≡ p.staged.own
    by_test true = refl
    by_test false = refl

-- a feed leaves the stage
pub feed_keeps : (blocks : List Block) (bytes : Option ℕ) (p : PerformerState) → (after_feed blocks bytes p).staged ≡ p.staged
feed_keeps [] bytes p = refl
feed_keeps (block ∷ blocks) bytes p = refl

next_entry_keeps : (o : Option Entry) (p : PerformerState) → own_of (after_next_entry o p) ≡ own_of p
next_entry_keeps None p = refl
next_entry_keeps (Some e) p = refl

-- an entry leaves a performer's number
pub take_keeps : (log : List Row) → KeepsOwn (λ p. after_next_entry (next_entry log (machine p.staged)) p)
take_keeps log p = next_entry_keeps (next_entry log (machine p.staged)) p

-- ---- no leave is taken, and none is served

tells_no_leave : (c : Call) (op : Option Change) → tells_leave (deed_of c op) ≡ is_leave c
tells_no_leave (call.Join name lang) op = refl
tells_no_leave call.Leave op = refl
tells_no_leave (call.Edit seen o) op = refl
tells_no_leave (call.Eval seen text) op = refl
tells_no_leave (call.Reset seen text) op = refl

entry_stays : (own at : ℕ) (row : Row) → IsNoLeave row.call → is_leave_of own (entry_of at row) ≡ false
entry_stays own at row is = ap (λ b. b && nat_eq row.who own) (tells_no_leave row.call row.op ∙ is)

row_at : (log : List Row) (i : ℕ) (row : Row) → All (λ (r : Row). IsNoLeave r.call) log → slice_get log i ≡ Some row → IsNoLeave row.call
row_at [] i row all is = absurd (cc)
row_at (r ∷ log) zero row all is =
    let same : r ≡ row = cc in
    subst (λ (x : Row). IsNoLeave x.call) same (All-head (λ (x : Row). IsNoLeave x.call) r log all)
row_at (r ∷ log) (suc i) row all is = row_at log i row (All-tail (λ (x : Row). IsNoLeave x.call) r log all) is

-- the entry that comes next is no leave
pub next_stays : (log : List Row) (m : Machine) (own : ℕ) (e : Entry) → All (λ (r : Row). IsNoLeave r.call) log → next_entry log m ≡ Some e → is_leave_of own e ≡ false
next_stays log m own e all is =
    let back = entry_back 0 (taken_count m) log e (next_is log m e is).1 in
    ap (is_leave_of own) back.2 ∙ entry_stays own (0 + taken_count m) back.0 (row_at log (taken_count m) back.0 all back.1)

open_next_entry : (log : List Row) (p : PerformerState) (o : Option Entry) → All (λ (r : Row). IsNoLeave r.call) log → next_entry log (machine p.staged) ≡ o → IsOpenPerformer p → IsOpenPerformer (after_next_entry o p)
open_next_entry log p None all is h = h
open_next_entry log p (Some e) all is h = open_with_act 0 (act.Take e) p.staged (next_stays log (machine p.staged) p.staged.own e all is) h

row_put : (log : List Row) (who num : ℕ) (c : Call) → IsNoLeave c → All (λ (r : Row). IsNoLeave r.call) log → All (λ (r : Row). IsNoLeave r.call) (log_after log 0 who num c)
row_put log who num c is all = by_test (is_accepted (answer log who num c))
  where
    by_test : (b : Bool) → All (λ (r : Row). IsNoLeave r.call) (if b then log ++ row_made log 0 who num c ∷ [] else log)
    by_test true = All-push (λ (r : Row). IsNoLeave r.call) log (row_made log 0 who num c) all is
    by_test false = all

call_stays : (o : Option PerformerState) (num : ℕ) (c : Call) → ((p : PerformerState) → o ≡ Some p → IsOpenPerformer p) → next_call o ≡ next.Send num c → IsNoLeave c
call_stays None num c each is = absurd (cc)
call_stays (Some p) num c each is = no_leave_next (machine p.staged) num c (each p refl) is

-- ---- the steps

changed : (w : WorldState) (who : ℕ) (f : PerformerState → PerformerState) → KeepsOwn f → ((p : PerformerState) → IsOpenPerformer p → IsOpenPerformer (f p)) → IsOpenWorld w
    → IsOpenWorld (record w { performers = with_performer who f w.performers })
changed w who f keeps opens h = record {
  numbers_are = numbers_kept who f w.performers keeps ∙ h.numbers_are;
  open_are = all_changed IsOpenPerformer who f w.performers opens h.open_are;
  rows_stay = h.rows_stay;
}

acted : (w : WorldState) (who : ℕ) (a : Act) → ((own : ℕ) → Stays own a) → IsOpenWorld w → IsOpenWorld (record w { performers = with_performer who (after_own_act a) w.performers })
acted w who a stays h = changed w who (after_own_act a) (own_act_keeps a) (λ p is. open_own_act a p (stays p.staged.own) is) h

served : (w : WorldState) (who : ℕ) (n : Next) → next_call (performer_with who w.performers) ≡ n → IsOpenWorld w → IsOpenWorld (after_next_call who n w)
served w who (next.Send num c) is h =
    let stays = call_stays (performer_with who w.performers) num c (λ p found. found_keeps IsOpenPerformer who w.performers p h.open_are found) is in
    let acts = acted w who act.Next (λ own. tt) h in
    record { numbers_are = acts.numbers_are; open_are = acts.open_are; rows_stay = row_put w.log who num c stays h.rows_stay }
served w who next.NotYet is h = h
served w who next.Done is h = h

moved_open : (s : Step) (w : WorldState) → IsDrillStep s → IsOpenWorld w → IsOpenWorld (moved s w)
moved_open (step.Guest name lang) w d h = absurd d
moved_open (step.Call who num c) w d h = absurd d
moved_open (step.Join name lang boot) w d h = absurd d
moved_open (step.SnapJoin name lang boot) w d h = absurd d
moved_open (step.Edit who op) w d h = acted w who (act.Typed op) (λ own. tt) h
moved_open (step.Eval who place) w d h = acted w who (act.Eval place) (λ own. tt) h
moved_open (step.Reset who text) w d h = acted w who (act.Reset text) (λ own. tt) h
moved_open (step.Serve who) w d h = served w who (next_call (performer_with who w.performers)) refl h
moved_open (step.Take who) w d h =
    changed w who (λ p. after_next_entry (next_entry w.log (machine p.staged)) p) (take_keeps w.log) (λ p is. open_next_entry w.log p (next_entry w.log (machine p.staged)) h.rows_stay refl is) h
moved_open (step.Feed who bytes) w d h =
    changed w who (after_alone (step.Feed who bytes)) (λ p. ap (λ (s : Staged). s.own) (feed_keeps p.waiting bytes p)) (λ p is. subst (λ (s : Staged). IsOpen (machine s)) (sym (feed_keeps p.waiting bytes p)) is) h
moved_open (step.Deaf who starts) w d h = absurd d
moved_open (step.Leave who) w d h = absurd d
moved_open (step.Again who) w d h = absurd d
moved_open step.Show w d h = absurd d

-- the world after such a step
pub world_open : (s : Step) (w : WorldState) → IsDrillStep s → IsOpenWorld w → IsOpenWorld (world_after s w)
world_open s w d h = by_test (is_done (told_of s w))
  where
    by_test : (b : Bool) → IsOpenWorld (if b then moved s w else w)
    by_test true = moved_open s w d h
    by_test false = h

-- the performer of a number is open
pub open_found : (who : ℕ) (w : WorldState) (p : PerformerState) → IsOpenWorld w → performer_with who w.performers ≡ Some p → IsOpen (machine p.staged)
open_found who w p h found = found_keeps IsOpenPerformer who w.performers p h.open_are found
