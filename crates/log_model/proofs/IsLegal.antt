-- Legal logs, and what one more row makes of them.
use Rattle.std.proofs.Common.{◌≡◌, ℕ, zero, suc, ◌≤◌, ◌<◌, Bool, true, false, if◌then◌else◌, Some, List, [], ◌∷◌, ◌++◌, length, take, drop, slice_get, refl, sym, subst, arith, ⊎_elim}
use Rattle.std.proofs.lemmas.List.{take-append-le, take_at, take_all, length-take-le}
use Rattle.std.proofs.lemmas.Option.{slice_get_within}
use Rattle.troop_entry.specs.declared.call.Call.{Call}
use Rattle.troop_entry.specs.declared.row.Row.{Row}
use Rattle.ot_text.specs.Change.{Change, base}
use Rattle.ot_transform.specs.Chain.{through, IsChain, chain_end}
use Rattle.log_model.specs.Log.{ops, doc}
use Rattle.log_model.specs.Answers.{answer, row_made, is_accepted, log_after}
use Rattle.log_model.specs.Legal.{IsRowMade, IsLegal, OpFits, HasSeenAtMost}
use Rattle.log_model.proofs.Lists.{at_end, take_next, slice_get-front, slice_get-within, take-take}
use Rattle.log_model.proofs.DocFrom.{run-one_more, run_between, end_between, moved_between}
use Rattle.log_model.proofs.Answer.{made_placed, made_is_new, placed_seen, placed_fits}

-- one more row that its call makes
pub legal_append : (log : List Row) (row : Row) → IsLegal log → IsRowMade log row → IsLegal (log ++ row ∷ [])
legal_append log row legal is_made i other e =
    ⊎_elim
    (λ l. rw (take-append-le i log (row ∷ []) (omega (arith, l.1))) (legal i other l.0))
    (λ r. rw (r.1, take_at log (row ∷ []) i (sym r.0)) is_made)
    (at_end log row i other e)

-- a front of a legal log is legal
pub legal_front : (log : List Row) (n : ℕ) → IsLegal log → IsLegal (take n log)
legal_front log n legal i row e =
    let at = slice_get-front log i n row e in rw (take-take log i n (omega (arith, at.0))) (legal i row at.1)

appended : (placed : Bool) (log : List Row) (row : Row) → IsLegal log → (placed ≡ true → IsRowMade log row) → IsLegal (if placed then log ++ row ∷ [] else log)
appended true log row legal is_made = legal_append log row legal (is_made refl)
appended false log row legal is_made = legal

-- a legal log is legal after any call
pub legal_after : (log : List Row) (seat who num : ℕ) (c : Call) → IsLegal log → IsLegal (log_after log seat who num c)
legal_after log seat who num c legal = appended (is_accepted (answer log who num c)) log (row_made log seat who num c) legal (made_placed log seat who num c)

-- the row's operation fits the document in front of it
pub made_fits : (log : List Row) (row : Row) → IsChain 0 (ops log) → IsRowMade log row → OpFits row.op (length (doc log))
made_fits log row run is_made =
    subst (λ r. OpFits r.op (length (doc log))) (sym is_made.same) (placed_fits log row.who row.call run (made_is_new log row is_made).1)

front_runs : (n : ℕ) (log : List Row) → IsLegal log → n ≤ length log → IsChain 0 (ops (take n log))
front_runs zero log legal within = tt
front_runs (suc n) log legal within =
    let here = slice_get-within log n (omega arith) in
    let before : IsChain 0 (ops (take n log)) = front_runs n log legal (omega arith) in
    rw (take_next log n here.0 here.1) (run-one_more (take n log) here.0 before (made_fits (take n log) here.0 before (legal n here.0 here.1)))

-- the operations of a legal log are a chain on the empty text
pub legal_runs : (log : List Row) → IsLegal log → IsChain 0 (ops log)
legal_runs log legal = subst (λ rows. IsChain 0 (ops rows)) (take_all (length log) log (omega arith)) (front_runs (length log) log legal (omega arith))

-- in a legal log the operations between two revisions are a chain from the first one's document
pub runs_between : (log : List Row) (start end : ℕ) → IsLegal log → start ≤ end → IsChain (length (doc (take start log))) (ops (drop start (take end log)))
runs_between log start end legal before = run_between log start end before (legal_runs (take end log) (legal_front log end legal))

-- in a legal log they lead to the second one's document
pub leads_between : (log : List Row) (start end : ℕ) → IsLegal log → start ≤ end
    → chain_end (length (doc (take start log))) (ops (drop start (take end log))) ≡ length (doc (take end log))
leads_between log start end legal before = end_between log start end before (legal_runs (take end log) (legal_front log end legal))

-- in a legal log an operation on the first one's document, moved through them, fits the second one's
pub moves_between : (log : List Row) (start end : ℕ) (op : Change) → IsLegal log → start ≤ end → base op ≡ length (doc (take start log))
    → base (through op (ops (drop start (take end log)))) ≡ length (doc (take end log))
moves_between log start end op legal before e = moved_between log start end op before (legal_runs (take end log) (legal_front log end legal)) e

-- a row's operation fits the document in front of it
pub row_fits : (log : List Row) (i : ℕ) (row : Row) → IsLegal log → slice_get log i ≡ Some row → OpFits row.op (length (doc (take i log)))
row_fits log i row legal e =
    let within : i < length log = slice_get_within log i row e in
    made_fits (take i log) row (front_runs i log legal (omega arith)) (legal i row e)

-- a row stands behind all that its maker had seen
pub row_seen : (log : List Row) (i : ℕ) (row : Row) → IsLegal log → slice_get log i ≡ Some row → HasSeenAtMost i row.call
row_seen log i row legal e =
    let within : i < length log = slice_get_within log i row e in
    subst (λ n. HasSeenAtMost n row.call) (length-take-le i log (omega arith)) (placed_seen (take i log) row.who row.call (made_is_new (take i log) row (legal i row e)).1)
