-- What is kept is where the acts have led.
use Rattle.std.proofs.Common.{◌≡◌, ◌+◌, Bool, true, false, ◌&&◌, ◌||◌, if◌then◌else◌, List, [], ◌∷◌, ◌++◌, refl, sym, ap, ◌∙◌, arith, append-nil, add-one, length-append}
use Rattle.std.specs.Prelude.{◌==◌}
use Rattle.ot_text.specs.Change.{Change}
use Rattle.troop_entry.specs.declared.call.Call.{Call}
use Rattle.troop_entry.specs.declared.entry.Entry.{Entry}
use Rattle.troop_entry.specs.declared.entry.Deed.{Deed}
use Rattle.troop_entry.specs.declared.entry.Deed.TheVariants as deed
use Rattle.troop_entry.specs.Told.{tells_edit, tells_leave, is_edit_of, is_leave_of}
use Rattle.client_state.specs.Pending.{after_edit, sent_at_edit, sent_at_entry}
use Rattle.client_state.specs.Standing.{Standing, pending_on}
use Rattle.client_state.specs.Steps.{client_after_edit, client_after_entry}
use Rattle.client_state.specs.Causes.{CanEdit, CanTake}
use Rattle.client_state.proofs.StandsOn.{edited_stands, entered_stands}
use Rattle.stage_state.specs.Machine.{Machine, document, held_text, standing, is_closed, edit_asked, after_asking, after_typing, after_own_edit, after_other_entry, after_entry_taken}
use Rattle.stage_state.specs.StageInvariant.{KeptValue, Keeps}
use Rattle.stage_state.proofs.Machine.{doc_told-one_more}

-- the client holds what the machine says
pub held_is : (k : KeptValue) (m : Machine) → Keeps k m → k.client.held ≡ held_text m
held_is k m h = h.stands.holds ∙ ap (λ own. pending_on own k.client.state (document m)) h.own ∙ ap (λ s. pending_on m.own s (document m)) h.state

-- and is what the machine says of it
pub client_is : (k : KeptValue) (m : Machine) → Keeps k m → k.client ≡ standing m
client_is k m h =
    let c : Standing = k.client in
    ap (λ own. record { own = own; state = c.state; held = c.held; taken = c.taken }) h.own
    ∙ ap (λ state. record { own = m.own; state = state; held = c.held; taken = c.taken }) h.state
    ∙ ap (λ text. record { own = m.own; state = m.pending; held = text; taken = c.taken }) (held_is k m h)
    ∙ ap (λ count. record { own = m.own; state = m.pending; held = held_text m; taken = count }) h.taken_is

-- whether a stage asks no more is its machine's
pub closed_is : (k : KeptValue) (m : Machine) → Keeps k m → (k.finishing || (k.halted || k.gone)) ≡ is_closed m
closed_is k m h =
    ap (λ f. f || (k.halted || k.gone)) h.finishing_is
    ∙ ap (λ b. m.finishing || (b || k.gone)) h.halted_is
    ∙ ap (λ b. m.finishing || (m.halted || b)) h.gone_is

-- ---- acts

-- what is kept is the machine's, with calls that join those to go out
pub keeps_asked : (k : KeptValue) (m : Machine) (calls : List Call) → Keeps k m → Keeps (record k { outgoing = k.outgoing ++ calls }) (after_asking calls m)
keeps_asked k m calls h = record {
  own = h.own;
  state = h.state;
  taken_is = h.taken_is;
  stands = h.stands;
  outgoing_is = ap (λ before. before ++ calls) h.outgoing_is;
  finishing_is = h.finishing_is;
  halted_is = h.halted_is;
  leave_is = h.leave_is;
  gone_is = h.gone_is;
  sent_is = h.sent_is;
}

-- what is kept is the machine's, behind a local edit
pub keeps_typed : (k : KeptValue) (m : Machine) (op : Change) → CanEdit k.client op → Keeps k m
    → Keeps (record k { client = client_after_edit op k.client; outgoing = k.outgoing ++ edit_asked k.client.taken (sent_at_edit k.client.state op) }) (after_typing op m)
keeps_typed k m op can h = record {
  own = h.own;
  state = ap (λ s. after_edit s op) h.state;
  taken_is = h.taken_is;
  stands = edited_stands k.client op (document m) h.stands can;
  outgoing_is = rw (h.outgoing_is, h.taken_is, h.state) refl;
  finishing_is = h.finishing_is;
  halted_is = h.halted_is;
  leave_is = h.leave_is;
  gone_is = h.gone_is;
  sent_is = h.sent_is;
}

-- an edit is no leave
no_leave : (d : Deed) (b : Bool) → (tells_edit d && b) ≡ true → (tells_leave d && b) ≡ false
no_leave (deed.Join name lang) b e = refl
no_leave deed.Leave b e = absurd (cc)
no_leave (deed.Edit op) b e = refl
no_leave (deed.Eval text) b e = refl
no_leave (deed.Reset op) b e = refl

-- what is kept behind an entry
abbrev pub kept_entered : Entry → KeptValue → KeptValue
kept_entered e k = record k {
  client = client_after_entry e k.client;
  outgoing = k.outgoing ++ edit_asked (k.client.taken + 1) (sent_at_entry k.client.own k.client.state e);
  gone = is_leave_of k.client.own e;
}

taken_by : (b : Bool) (k : KeptValue) (m : Machine) (e : Entry) → is_edit_of m.own e ≡ b → CanTake k.client e → k.gone ≡ false → Keeps k m
    → Keeps (kept_entered e k) (if b then after_own_edit e m else after_other_entry e m)
taken_by true k m e by can stays h = record {
  own = h.own;
  state = rw (h.own, by, h.state) refl;
  taken_is = omega (arith, h.taken_is, length-append m.entries (e ∷ []));
  stands = rw doc_told-one_more (entered_stands k.client e (document m) h.stands can);
  outgoing_is = rw (h.outgoing_is, h.own, by, h.state, h.taken_is, add-one) refl;
  finishing_is = h.finishing_is;
  halted_is = h.halted_is;
  leave_is = h.leave_is;
  gone_is = ap (λ who. is_leave_of who e) h.own ∙ no_leave e.deed (e.who == m.own) by ∙ sym stays ∙ h.gone_is;
  sent_is = h.sent_is;
}
taken_by false k m e by can stays h = record {
  own = h.own;
  state = rw (h.own, by, h.state) refl;
  taken_is = omega (arith, h.taken_is, length-append m.entries (e ∷ []));
  stands = rw doc_told-one_more (entered_stands k.client e (document m) h.stands can);
  outgoing_is = rw (h.own, by) (append-nil k.outgoing ∙ h.outgoing_is);
  finishing_is = h.finishing_is;
  halted_is = h.halted_is;
  leave_is = h.leave_is;
  gone_is = rw (sym h.gone_is ∙ stays) (ap (λ who. is_leave_of who e) h.own);
  sent_is = h.sent_is;
}

-- what is kept is the machine's, behind an entry
pub keeps_taken : (k : KeptValue) (m : Machine) (e : Entry) → CanTake k.client e → k.gone ≡ false → Keeps k m → Keeps (kept_entered e k) (after_entry_taken e m)
keeps_taken k m e can stays h = taken_by (is_edit_of m.own e) k m e refl can stays h

-- what is kept is the machine's, behind `finish`
pub keeps_finished : (k : KeptValue) (m : Machine) → Keeps k m → Keeps (record k { finishing = true }) (record m { finishing = true })
keeps_finished k m h = record {
  own = h.own;
  state = h.state;
  taken_is = h.taken_is;
  stands = h.stands;
  outgoing_is = h.outgoing_is;
  finishing_is = refl;
  halted_is = h.halted_is;
  leave_is = h.leave_is;
  gone_is = h.gone_is;
  sent_is = h.sent_is;
}

-- what is kept is the machine's, behind `halt`
pub keeps_halted : (k : KeptValue) (m : Machine) → Keeps k m → Keeps (record k { halted = true }) (record m { halted = true })
keeps_halted k m h = record {
  own = h.own;
  state = h.state;
  taken_is = h.taken_is;
  stands = h.stands;
  outgoing_is = h.outgoing_is;
  finishing_is = h.finishing_is;
  halted_is = refl;
  leave_is = h.leave_is;
  gone_is = h.gone_is;
  sent_is = h.sent_is;
}
