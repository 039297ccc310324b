-- Documents of logs, and the chain that the operations of their rows are.
use Rattle.std.proofs.Common.{◌≡◌, ℕ, suc, ◌≤◌, Option, None, Some, List, [], ◌∷◌, ◌++◌, length, take, drop, slice_get, refl, sym, ap, subst, ◌∙◌, take-append-drop}
use Rattle.ot_text.specs.Change.{Change, base}
use Rattle.ot_text.specs.Marked.{Marked, char_by}
use Rattle.ot_text.proofs.EffectOf.{length-effect}
use Rattle.ot_transform.specs.Chain.{through, IsChain, chain_end}
use Rattle.ot_transform.proofs.Through.{base-through, IsChain-append}
use Rattle.troop_entry.specs.declared.row.Row.{Row}
use Rattle.log_model.specs.Log.{with_op, ops, doc_after, doc_from, doc}
use Rattle.log_model.specs.Legal.{OpFits}
use Rattle.log_model.proofs.Lists.{take_next, take-take}

-- the document behind rows in two parts
pub doc_from-append : (m : Marked) (xs ys : List Row) → doc_from m (xs ++ ys) ≡ doc_from (doc_from m xs) ys
doc_from-append m [] ys = refl
doc_from-append m (row ∷ xs) ys = doc_from-append (doc_after row.who row.op m) xs ys

-- the document behind one row more
pub doc-one_more : (log : List Row) (row : Row) → doc (log ++ row ∷ []) ≡ doc_after row.who row.op (doc log)
doc-one_more log row = doc_from-append [] log (row ∷ [])

-- the document, one row further
pub doc_next : (log : List Row) (i : ℕ) (row : Row) → slice_get log i ≡ Some row → doc (take (suc i) log) ≡ doc_after row.who row.op (doc (take i log))
doc_next log i row e = ap doc (take_next log i row e) ∙ doc-one_more (take i log) row

doc-split : (n : ℕ) (rows : List Row) → doc_from (doc (take n rows)) (drop n rows) ≡ doc rows
doc-split n rows = sym (doc_from-append [] (take n rows) (drop n rows)) ∙ ap doc (take-append-drop n rows)

-- ---- the chain of the rows' operations

with_op-append : (o : Option Change) (bs cs : List Change) → with_op o (bs ++ cs) ≡ with_op o bs ++ cs
with_op-append None bs cs = refl
with_op-append (Some c) bs cs = refl

ops-append : (xs ys : List Row) → ops (xs ++ ys) ≡ ops xs ++ ops ys
ops-append [] ys = refl
ops-append (row ∷ xs) ys = ap (with_op row.op) (ops-append xs ys) ∙ with_op-append row.op (ops xs) (ops ys)

-- an operation in front of a chain fits, and the chain goes on from the text that it makes
fits_first : (who : ℕ) (o : Option Change) (m : Marked) (cs : List Change) → IsChain (length m) (with_op o cs) → OpFits o (length m) × IsChain (length (doc_after who o m)) cs
fits_first who None m cs run = (tt, run)
fits_first who (Some c) m cs run = (run.0, subst (λ n. IsChain n cs) (sym (length-effect (char_by who) c m (sym run.0))) run.1)

ends_behind : (who : ℕ) (o : Option Change) (m : Marked) (cs : List Change) → OpFits o (length m) → chain_end (length m) (with_op o cs) ≡ chain_end (length (doc_after who o m)) cs
ends_behind who None m cs fits = refl
ends_behind who (Some c) m cs fits = ap (λ n. chain_end n cs) (sym (length-effect (char_by who) c m (sym fits)))

-- a chain leads to the document behind its rows
ends_at : (m : Marked) (rows : List Row) → IsChain (length m) (ops rows) → chain_end (length m) (ops rows) ≡ length (doc_from m rows)
ends_at m [] run = refl
ends_at m (row ∷ rows) run =
    let first = fits_first row.who row.op m (ops rows) run in
    ends_behind row.who row.op m (ops rows) first.0 ∙ ends_at (doc_after row.who row.op m) rows first.1

lone : (o : Option Change) (n : ℕ) → OpFits o n → IsChain n (with_op o [])
lone None n fits = tt
lone (Some c) n fits = (fits, tt)

-- a chain goes on with a row whose operation fits the document behind it
pub run-one_more : (rows : List Row) (row : Row) → IsChain 0 (ops rows) → OpFits row.op (length (doc rows)) → IsChain 0 (ops (rows ++ row ∷ []))
run-one_more rows row run fits =
    let behind : IsChain (chain_end 0 (ops rows)) (ops (row ∷ [])) = subst (λ n. IsChain n (ops (row ∷ []))) (sym (ends_at [] rows run)) (lone row.op (length (doc rows)) fits) in
    subst (IsChain 0) (sym (ops-append rows (row ∷ []))) ((IsChain-append 0 (ops rows) (ops (row ∷ []))).1 (run, behind))

-- the chain from a revision on
pub run_behind : (n : ℕ) (rows : List Row) → IsChain 0 (ops rows) → IsChain (length (doc (take n rows))) (ops (drop n rows))
run_behind n rows run =
    let parts = (IsChain-append 0 (ops (take n rows)) (ops (drop n rows))).0
    (subst (IsChain 0) (sym (ap ops (take-append-drop n rows)) ∙ ops-append (take n rows) (drop n rows)) run) in
    subst (λ k. IsChain k (ops (drop n rows))) (ends_at [] (take n rows) parts.0) parts.1

-- the operations of the rows behind a revision lead from its document's length to the document's
pub end_behind : (n : ℕ) (rows : List Row) → IsChain 0 (ops rows) → chain_end (length (doc (take n rows))) (ops (drop n rows)) ≡ length (doc rows)
end_behind n rows run = ends_at (doc (take n rows)) (drop n rows) (run_behind n rows run) ∙ ap length (doc-split n rows)

-- an operation that fits a revision, moved through the rows since, fits the document
pub moved_fits : (n : ℕ) (rows : List Row) (op : Change) → IsChain 0 (ops rows) → base op ≡ length (doc (take n rows)) → base (through op (ops (drop n rows))) ≡ length (doc rows)
moved_fits n rows op run e =
    base-through op (ops (drop n rows)) (subst (λ k. IsChain k (ops (drop n rows))) (sym e) (run_behind n rows run))
    ∙ ap (λ k. chain_end k (ops (drop n rows))) e ∙ end_behind n rows run

-- ---- from one revision to another

-- the operations of the rows between two revisions are a chain from the first one's document
pub run_between : (rows : List Row) (start end : ℕ) → start ≤ end → IsChain 0 (ops (take end rows)) → IsChain (length (doc (take start rows))) (ops (drop start (take end rows)))
run_between rows start end before run =
    subst (λ front. IsChain (length (doc front)) (ops (drop start (take end rows)))) (take-take rows start end before) (run_behind start (take end rows) run)

-- they lead to the second one's document
pub end_between : (rows : List Row) (start end : ℕ) → start ≤ end → IsChain 0 (ops (take end rows))
    → chain_end (length (doc (take start rows))) (ops (drop start (take end rows))) ≡ length (doc (take end rows))
end_between rows start end before run =
    ap (λ front. chain_end (length (doc front)) (ops (drop start (take end rows)))) (sym (take-take rows start end before)) ∙ end_behind start (take end rows) run

-- an operation on the first one's document, moved through them, fits the second one's
pub moved_between : (rows : List Row) (start end : ℕ) (op : Change) → start ≤ end → IsChain 0 (ops (take end rows)) → base op ≡ length (doc (take start rows))
    → base (through op (ops (drop start (take end rows)))) ≡ length (doc (take end rows))
moved_between rows start end op before run e =
    moved_fits start (take end rows) op run (e ∙ ap (λ front. length (doc front)) (sym (take-take rows start end before)))
