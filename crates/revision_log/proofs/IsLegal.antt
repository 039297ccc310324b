-- Legal logs that grow.
use Rattle.std.proofs.Common.{◌≡◌, ℕ, Bool, true, false, if◌then◌else◌, List, [], ◌∷◌, ◌++◌, length, refl, subst}
use Rattle.std.proofs.Math.Seq.{take-append_seam}
use Rattle.troop_entry.specs.declared.call.Call.{Call}
use Rattle.troop_entry.specs.declared.row.Row.{Row}
use Rattle.log_model.specs.Answers.{answer, is_accepted, row_made}
use Rattle.log_model.specs.Legal.{IsLegal}
use Rattle.log_model.proofs.IsLegal.{legal_front, legal_after}

-- what a legal log begins with is legal
pub legal_begins : (log more : List Row) → IsLegal (log ++ more) → IsLegal log
legal_begins log more legal = subst IsLegal (take-append_seam log more) (legal_front (log ++ more) (length log) legal)

accepted_log : (accepted : Bool) (log : List Row) (row : Row) → accepted ≡ true → (if accepted then log ++ row ∷ [] else log) ≡ log ++ row ∷ []
accepted_log true log row e = refl
accepted_log false log row e = absurd (cc)

-- a legal log stays legal with the row that an accepted call makes
pub legal_accepted : (log : List Row) (seat who num : ℕ) (c : Call) → IsLegal log → is_accepted (answer log who num c) ≡ true → IsLegal (log ++ row_made log seat who num c ∷ [])
legal_accepted log seat who num c legal accepted =
    subst IsLegal (accepted_log (is_accepted (answer log who num c)) log (row_made log seat who num c) accepted) (legal_after log seat who num c legal)
