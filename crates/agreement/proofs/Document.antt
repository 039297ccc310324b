-- The document of what was taken, and who holds the document of the log.
use Rattle.std.proofs.Common.{◌≡◌, ℕ, Option, None, List, length, take, ap, ◌∙◌, arith}
use Rattle.std.proofs.lemmas.List.{take_all}
use Rattle.troop_entry.specs.declared.row.Row.{Row}
use Rattle.troop_entry.specs.declared.call.Call.{Call}
use Rattle.log_model.specs.Log.{doc}
use Rattle.log_model.specs.Legal.{IsLegal}
use Rattle.log_model.specs.Told.{doc_told}
use Rattle.log_model.proofs.DocTold.{told_between}
use Rattle.client_state.specs.Pending.{outstanding}
use Rattle.stage_state.specs.Machine.{Machine, taken_count, held_text}
use Rattle.stage_state.proofs.Machine.{nothing_pending}
use Rattle.agreement.specs.Agreement.{Agrees, lane_call}
use Rattle.agreement.proofs.Agreed.{Agreed}
use Rattle.agreement.proofs.Agrees.{agreed}

-- the document of what was taken
pub document_is : (log : List Row) (m : Machine) (lane : Option Call) → IsLegal log → Agreed log m lane → doc_told m.text m.entries ≡ doc (take (taken_count m) log)
document_is log m lane legal h =
    ap (λ d. doc_told d m.entries) h.start_is
    ∙ ap (doc_told (doc (take m.start log))) h.taken_is
    ∙ told_between log m.start (taken_count m) legal (omega arith)

-- whoever has taken all and awaits nothing holds the document
pub holds_all : (log : List Row) (m : Machine) (lane : Option (ℕ × Call)) → IsLegal log → Agrees log m lane → taken_count m ≡ length log → outstanding m.pending ≡ None → held_text m ≡ doc log
holds_all log m lane legal h all none =
    nothing_pending m.own m.pending (doc_told m.text m.entries) none
    ∙ document_is log m (lane_call lane) legal (agreed log m lane h)
    ∙ ap doc (take_all (taken_count m) log (omega (arith, all)))
