-- The next entry of the log is taken.
use Rattle.std.proofs.Common.{◌≡◌, ℕ, ◌+◌, Bool, true, false, Option, Some, List, take, slice_get, refl, sym, ap, ◌∙◌, arith}
use Rattle.troop_entry.specs.declared.row.Row.{Row}
use Rattle.troop_entry.specs.declared.entry.Entry.{Entry}
use Rattle.troop_entry.specs.declared.call.Call.{Call}
use Rattle.troop_entry.specs.Entries.{entry_of}
use Rattle.log_model.specs.Log.{doc, entries}
use Rattle.log_model.specs.Legal.{IsLegal}
use Rattle.troop_entry.specs.Told.{is_edit_of}
use Rattle.log_model.proofs.DocTold.{told_op}
use Rattle.log_model.proofs.IsLegal.{row_fits}
use Rattle.client_state.specs.Pending.{outstanding}
use Rattle.client_state.specs.Causes.{EntryFits}
use Rattle.stage_state.specs.declared.act.Act.TheVariants.{Take}
use Rattle.stage_state.specs.Machine.{Machine, taken_count, standing, CanAct}
use Rattle.agreement.specs.Agreement.{Agrees, is_edit_by, waiting_calls, edits_among, lane_call}
use Rattle.agreement.proofs.Agreed.{Agreed}
use Rattle.agreement.proofs.Agrees.{agreed}
use Rattle.agreement.proofs.Document.{document_is}
use Rattle.agreement.proofs.EntryOf.{entry_back, own_edit-entry_of}
use Rattle.agreement.proofs.IsAccountedFor.{IsConfirmed, accounted_own}
use Rattle.agreement.proofs.Pending.{other_fits}

fits_by : (b : Bool) (log : List Row) (m : Machine) (lane : Option Call) (row : Row) → IsLegal log → slice_get log (taken_count m) ≡ Some row → is_edit_by m.own row ≡ b
    → Agreed log m lane → EntryFits b (standing m) (entry_of (taken_count m) row)
fits_by true log m lane row legal e is h =
    let known : IsConfirmed log m.own (taken_count m) (outstanding m.pending) row.op (edits_among (waiting_calls lane m)) =
    accounted_own log row m.own (taken_count m) (outstanding m.pending) (edits_among (waiting_calls lane m)) e is h.accounted in
    told_op log (taken_count m) row legal e ∙ known.made_is ∙ sym known.outstanding_is
fits_by false log m lane row legal e is h =
    rw (told_op log (taken_count m) row legal e, document_is log m lane legal h)
    (other_fits m.own m.pending row.op (doc (take (taken_count m) log)) h.bases (row_fits log (taken_count m) row legal e))

-- the next entry is refused by none of the three tests
next_fits : (log : List Row) (m : Machine) (lane : Option Call) (row : Row) → IsLegal log → slice_get log (taken_count m) ≡ Some row → Agreed log m lane
    → EntryFits (is_edit_of m.own (entry_of (taken_count m) row)) (standing m) (entry_of (taken_count m) row)
next_fits log m lane row legal e h =
    fits_by (is_edit_of m.own (entry_of (taken_count m) row)) log m lane row legal e (sym (own_edit-entry_of m.own (taken_count m) row)) h

-- so the next entry is taken, unless the performer is gone
pub takes_next : (log : List Row) (m : Machine) (lane : Option (ℕ × Call)) (e : Entry) → IsLegal log → Agrees log m lane → m.gone ≡ false → slice_get (entries log) (taken_count m) ≡ Some e → CanAct m (Take e)
takes_next log m lane e legal h here is =
    let r = entry_back 0 (taken_count m) log e is in
    let same : e ≡ entry_of (taken_count m) r.0 = r.2 ∙ ap (λ k. entry_of k r.0) (let z : 0 + taken_count m ≡ taken_count m = omega arith in z) in
    rw same (here, record { place = refl; fits = next_fits log m (lane_call lane) r.0 legal r.1 (agreed log m lane h) })
