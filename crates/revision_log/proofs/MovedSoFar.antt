-- An operation moved through those of rows, row by row.
use Rattle.std.proofs.Common.{◌≡◌, ℕ, ◌+◌, ◌<◌, Option, None, Some, List, ◌∷◌, length, get_or, take, drop, sym, ap, subst, ◌∙◌}
use Rattle.std.proofs.lemmas.List.{drop_more}
use Rattle.ot_text.specs.Change.{Change, base}
use Rattle.ot_transform.specs.Transform.{left}
use Rattle.ot_transform.specs.Chain.{through, IsChain}
use Rattle.ot_transform.proofs.Merge.{base-left}
use Rattle.troop_entry.specs.declared.row.Row.{Row}
use Rattle.log_model.specs.Log.{with_op, ops, doc}
use Rattle.log_model.specs.Legal.{IsLegal}
use Rattle.log_model.proofs.DocFrom.{run_behind}
use Rattle.log_model.proofs.IsLegal.{legal_runs}

-- moved so far through the operations of the first i rows
pub record IsMovedSoFar (rows : List Row) (i : ℕ) (moved op : Change) : Type 0 where
  pub whole : through moved (ops (drop i rows)) ≡ through op (ops rows)
  pub run : IsChain (base moved) (ops (drop i rows))

ops_split : (rows : List Row) (i : ℕ) (row : Row) (o : Option Change) → i < length rows → row ≡ get_or rows i row → row.op ≡ o → ops (drop i rows) ≡ with_op o (ops (drop (i + 1) rows))
ops_split rows i row o within is op_is =
    ap ops (drop_more rows i row within ∙ ap (λ r. r ∷ drop (i + 1) rows) (sym is)) ∙ ap (λ p. with_op p (ops (drop (i + 1) rows))) op_is

-- the operation of the next row fits what was moved so far
pub next_base : (rows : List Row) (i : ℕ) (row : Row) (moved op other : Change) → i < length rows → row ≡ get_or rows i row → row.op ≡ Some other → IsMovedSoFar rows i moved op → base moved ≡ base other
next_base rows i row moved op other within is some s =
    let run : IsChain (base moved) (other ∷ ops (drop (i + 1) rows)) = subst (IsChain (base moved)) (ops_split rows i row (Some other) within is some) s.run in sym run.0

-- one row with an operation further
pub moved_on : (rows : List Row) (i : ℕ) (row : Row) (moved op other : Change) → i < length rows → row ≡ get_or rows i row → row.op ≡ Some other → IsMovedSoFar rows i moved op → IsMovedSoFar rows (i + 1) (left moved other) op
moved_on rows i row moved op other within is some s =
    let e : ops (drop i rows) ≡ other ∷ ops (drop (i + 1) rows) = ops_split rows i row (Some other) within is some in
    let run : IsChain (base moved) (other ∷ ops (drop (i + 1) rows)) = subst (IsChain (base moved)) e s.run in
    record {
      whole = ap (through moved) (sym e) ∙ s.whole;
      run = subst (λ n. IsChain n (ops (drop (i + 1) rows))) (sym (base-left moved other (sym run.0))) run.1;
    }

-- one row without an operation further
pub stays_on : (rows : List Row) (i : ℕ) (row : Row) (moved op : Change) → i < length rows → row ≡ get_or rows i row → row.op ≡ None → IsMovedSoFar rows i moved op → IsMovedSoFar rows (i + 1) moved op
stays_on rows i row moved op within is none s =
    let e : ops (drop i rows) ≡ ops (drop (i + 1) rows) = ops_split rows i row None within is none in
    record { whole = ap (through moved) (sym e) ∙ s.whole; run = subst (IsChain (base moved)) e s.run }

-- the operations of the rows behind a revision are a chain on its document
pub runs_behind : (n : ℕ) (log : List Row) → IsLegal log → IsChain (length (doc (take n log))) (ops (drop n log))
runs_behind n log legal = run_behind n log (legal_runs log legal)
