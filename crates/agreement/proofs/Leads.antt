-- What acts add to a machine.
use Rattle.std.proofs.Common.{◌≡◌, ℕ, suc, Bool, true, false, if◌then◌else◌, Option, None, Some, List, [], ◌∷◌, ◌++◌, refl, sym, ap, ◌∙◌, append_assoc, arith, append-nil}
use Rattle.troop_entry.specs.declared.call.Call.TheVariants.{Join, Leave, Edit, Eval, Reset}
use Rattle.stage_state.specs.declared.act.Act.TheVariants.{Typed, Eval as EvalAt, Reset as ResetTo, Take, Next, Finish, Halt}
use Rattle.ot_text.specs.Change.{Change}
use Rattle.client_state.specs.Pending.{buffer, sent_at_edit}
use Rattle.troop_entry.specs.declared.entry.Entry.{Entry}
use Rattle.troop_entry.specs.declared.call.Call.{Call}
use Rattle.stage_state.specs.declared.act.Act.{Act}
use Rattle.stage_state.specs.Machine.{Machine, taken_count, edit_asked, eval_asked, block_held, after_asking, after_typing, after_own_edit, after_other_entry, after_sending, after_act, after_acts}
use Rattle.troop_entry.specs.Told.{is_edit_of}
use Rattle.agreement.specs.Agreement.{SeenRises}
use Rattle.log_model.proofs.Lists.{length-one_more}
use Rattle.agreement.proofs.SeenRises.{rises-append, rises_suffix, rises_wider}

-- all but the leaves
abbrev pub but_leaves : List Call → List Call
but_leaves [] = []
but_leaves (Join name lang ∷ cs) = Join name lang ∷ but_leaves cs
but_leaves (Leave ∷ cs) = but_leaves cs
but_leaves (Edit seen op ∷ cs) = Edit seen op ∷ but_leaves cs
but_leaves (Eval seen text ∷ cs) = Eval seen text ∷ but_leaves cs
but_leaves (Reset seen text ∷ cs) = Reset seen text ∷ but_leaves cs

-- the same of two lists of calls
pub but_leaves-append : (cs ds : List Call) → but_leaves (cs ++ ds) ≡ but_leaves cs ++ but_leaves ds
but_leaves-append [] ds = refl
but_leaves-append (Join name lang ∷ cs) ds = ap (λ r. Join name lang ∷ r) (but_leaves-append cs ds)
but_leaves-append (Leave ∷ cs) ds = but_leaves-append cs ds
but_leaves-append (Edit seen op ∷ cs) ds = ap (λ r. Edit seen op ∷ r) (but_leaves-append cs ds)
but_leaves-append (Eval seen text ∷ cs) ds = ap (λ r. Eval seen text ∷ r) (but_leaves-append cs ds)
but_leaves-append (Reset seen text ∷ cs) ds = ap (λ r. Reset seen text ∷ r) (but_leaves-append cs ds)

-- every ask, sent or to go out, in order
abbrev pub queue : Machine → List Call
queue m = but_leaves m.sent ++ m.outgoing

-- the second machine comes of the first by acts
pub record Leads (m n : Machine) : Type 0 where
  pub own : n.own ≡ m.own
  pub joined : n.joined ≡ m.joined
  pub start : n.start ≡ m.start
  pub text : n.text ≡ m.text
  pub more : List Entry
  pub entries : n.entries ≡ m.entries ++ more
  pub new : List Call
  pub queued : queue n ≡ queue m ++ new
  pub seen_rises : SeenRises (taken_count m) (taken_count n) new

-- an edit that is asked has seen what was taken
pub edit_asks : (t : ℕ) (o : Option Change) → SeenRises t t (edit_asked t o)
edit_asks t None = omega arith
edit_asks t (Some op) = (omega arith, omega arith)

-- and so has an evaluation
pub eval_asks : (t : ℕ) (o : Option (List ℕ)) → SeenRises t t (eval_asked t o)
eval_asks t None = omega arith
eval_asks t (Some text) = (omega arith, omega arith)

-- the calls join those that are to go out, and nothing is taken
asks_lead : (m : Machine) (cs : List Call) → SeenRises (taken_count m) (taken_count m) cs → Leads m (after_asking cs m)
asks_lead m cs a = record {
  own = refl;
  joined = refl;
  start = refl;
  text = refl;
  more = [];
  entries = sym (append-nil m.entries);
  new = cs;
  queued = sym (append_assoc (but_leaves m.sent) m.outgoing cs);
  seen_rises = a;
}

type_leads : (m : Machine) (op : Change) → Leads m (after_typing op m)
type_leads m op = record {
  own = refl;
  joined = refl;
  start = refl;
  text = refl;
  more = [];
  entries = sym (append-nil m.entries);
  new = edit_asked (taken_count m) (sent_at_edit m.pending op);
  queued = sym (append_assoc (but_leaves m.sent) m.outgoing (edit_asked (taken_count m) (sent_at_edit m.pending op)));
  seen_rises = edit_asks (taken_count m) (sent_at_edit m.pending op);
}

-- what a taken entry adds has seen that entry
abbrev pub added_by : Bool → Machine → List Call
added_by true m = edit_asked (suc (taken_count m)) (buffer m.pending)
added_by false m = []

-- an entry that is taken is counted
pub taken_next : (b : Bool) (e : Entry) (m : Machine) → taken_count (if b then after_own_edit e m else after_other_entry e m) ≡ suc (taken_count m)
taken_next true e m = omega (arith, length-one_more m.entries e)
taken_next false e m = omega (arith, length-one_more m.entries e)

-- those calls have seen it
pub added_asks : (b : Bool) (m : Machine) → SeenRises (suc (taken_count m)) (suc (taken_count m)) (added_by b m)
added_asks true m = edit_asks (suc (taken_count m)) (buffer m.pending)
added_asks false m = omega arith

-- they join the queue
pub take_queue : (b : Bool) (e : Entry) (m : Machine) → queue (if b then after_own_edit e m else after_other_entry e m) ≡ queue m ++ added_by b m
take_queue true e m = sym (append_assoc (but_leaves m.sent) m.outgoing (edit_asked (suc (taken_count m)) (buffer m.pending)))
take_queue false e m = sym (append-nil (queue m))

take_leads : (b : Bool) (e : Entry) (m : Machine) → Leads m (if b then after_own_edit e m else after_other_entry e m)
take_leads true e m = record {
  own = refl;
  joined = refl;
  start = refl;
  text = refl;
  more = e ∷ [];
  entries = refl;
  new = added_by true m;
  queued = take_queue true e m;
  seen_rises = rises_wider (suc (taken_count m)) (suc (taken_count m)) (taken_count m) _ (added_by true m) (omega arith) (omega (arith, taken_next true e m)) (added_asks true m);
}
take_leads false e m = record {
  own = refl;
  joined = refl;
  start = refl;
  text = refl;
  more = e ∷ [];
  entries = refl;
  new = [];
  queued = take_queue false e m;
  seen_rises = omega (arith, taken_next false e m);
}

one_but_leave : (call : Call) (lo hi : ℕ) (cs : List Call) → SeenRises lo hi (call ∷ cs) → but_leaves (call ∷ []) ≡ call ∷ []
one_but_leave (Join name lang) lo hi cs a = absurd a
one_but_leave Leave lo hi cs a = absurd a
one_but_leave (Edit s o) lo hi cs a = refl
one_but_leave (Eval s t) lo hi cs a = refl
one_but_leave (Reset s t) lo hi cs a = refl

send_queue : (m : Machine) (calls : List Call) → m.outgoing ≡ calls → SeenRises 0 (taken_count m) (queue m) → queue (after_sending calls m) ≡ queue m
send_queue m [] is a = ap (λ cs. cs ++ m.outgoing) (but_leaves-append m.sent (Leave ∷ []) ∙ append-nil (but_leaves m.sent))
send_queue m (call ∷ calls) is a =
    let rest : SeenRises 0 (taken_count m) (call ∷ calls) = rw is at (rises_suffix 0 (taken_count m) (but_leaves m.sent) m.outgoing a) in
    ap (λ cs. cs ++ calls) (but_leaves-append m.sent (call ∷ []) ∙ ap (λ cs. but_leaves m.sent ++ cs) (one_but_leave call 0 (taken_count m) calls rest))
    ∙ append_assoc (but_leaves m.sent) (call ∷ []) calls
    ∙ ap (λ cs. but_leaves m.sent ++ cs) (sym is)

send_leads : (m : Machine) (calls : List Call) → m.outgoing ≡ calls → SeenRises 0 (taken_count m) (queue m) → Leads m (after_sending calls m)
send_leads m [] is a = record {
  own = refl;
  joined = refl;
  start = refl;
  text = refl;
  more = [];
  entries = sym (append-nil m.entries);
  new = [];
  queued = send_queue m [] is a ∙ sym (append-nil (queue m));
  seen_rises = omega arith;
}
send_leads m (call ∷ calls) is a = record {
  own = refl;
  joined = refl;
  start = refl;
  text = refl;
  more = [];
  entries = sym (append-nil m.entries);
  new = [];
  queued = send_queue m (call ∷ calls) is a ∙ sym (append-nil (queue m));
  seen_rises = omega arith;
}

-- one act
pub act_leads : (a : Act) (m : Machine) → SeenRises 0 (taken_count m) (queue m) → Leads m (after_act a m)
act_leads (Typed op) m asks = type_leads m op
act_leads (EvalAt place) m asks = asks_lead m (eval_asked (taken_count m) (block_held place m)) (eval_asks (taken_count m) (block_held place m))
act_leads (ResetTo text) m asks = asks_lead m (Reset (taken_count m) text ∷ []) (omega arith, omega arith)
act_leads (Take e) m asks = take_leads (is_edit_of m.own e) e m
act_leads Next m asks = send_leads m m.outgoing refl asks
act_leads Finish m asks = record {
  own = refl;
  joined = refl;
  start = refl;
  text = refl;
  more = [];
  entries = sym (append-nil m.entries);
  new = [];
  queued = sym (append-nil (queue m));
  seen_rises = omega arith;
}
act_leads Halt m asks = record {
  own = refl;
  joined = refl;
  start = refl;
  text = refl;
  more = [];
  entries = sym (append-nil m.entries);
  new = [];
  queued = sym (append-nil (queue m));
  seen_rises = omega arith;
}

-- the asks stay in order
pub rises_led : (m n : Machine) → Leads m n → SeenRises 0 (taken_count m) (queue m) → SeenRises 0 (taken_count n) (queue n)
rises_led m n l a = rw l.queued (rises-append 0 (taken_count m) (taken_count n) (queue m) l.new a l.seen_rises)

leads_on : (m n k : Machine) → Leads m n → Leads n k → Leads m k
leads_on m n k l r = record {
  own = r.own ∙ l.own;
  joined = r.joined ∙ l.joined;
  start = r.start ∙ l.start;
  text = r.text ∙ l.text;
  more = l.more ++ r.more;
  entries = r.entries ∙ ap (λ es. es ++ r.more) l.entries ∙ append_assoc m.entries l.more r.more;
  new = l.new ++ r.new;
  queued = r.queued ∙ ap (λ cs. cs ++ r.new) l.queued ∙ append_assoc (queue m) l.new r.new;
  seen_rises = rises-append (taken_count m) (taken_count n) (taken_count k) l.new r.new l.seen_rises r.seen_rises;
}

nothing_leads : (m : Machine) → Leads m m
nothing_leads m = record {
  own = refl;
  joined = refl;
  start = refl;
  text = refl;
  more = [];
  entries = sym (append-nil m.entries);
  new = [];
  queued = sym (append-nil (queue m));
  seen_rises = omega arith;
}

-- all acts
pub acts_lead : (acts : List Act) (m : Machine) → SeenRises 0 (taken_count m) (queue m) → Leads m (after_acts acts m)
acts_lead [] m asks = nothing_leads m
acts_lead (a ∷ acts) m asks =
    let one : Leads m (after_act a m) = act_leads a m asks in
    leads_on m (after_act a m) (after_acts acts (after_act a m)) one (acts_lead acts (after_act a m) (rises_led m (after_act a m) one asks))
