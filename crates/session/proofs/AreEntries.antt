-- The document that the entries of a legal log make.
use Rattle.std.proofs.Common.{◌≡◌, ℕ, suc, ◌+◌, ◌<◌, List, [], ◌∷◌, ◌++◌, length, take, get_or, refl, sym, ap, ◌∙◌, subst, arith, Some, slice_get}
use Rattle.std.proofs.lemmas.Option.{slice_get_read}
use Rattle.ot_text.specs.Marked.{Marked}
use Rattle.troop_entry.specs.declared.entry.Entry.{Entry}
use Rattle.troop_entry.specs.declared.row.Row.{Row}
use Rattle.troop_entry.specs.Entries.{entry_of}
use Rattle.troop_entry.specs.Told.{op_told}
use Rattle.log_model.specs.Log.{doc, doc_after, entries}
use Rattle.log_model.specs.Legal.{IsLegal, OpFits}
use Rattle.log_model.specs.Told.{doc_told}
use Rattle.log_model.proofs.Lists.{slice_get-within, take_next}
use Rattle.log_model.proofs.IsLegal.{legal_front, row_fits}
use Rattle.log_model.proofs.DocTold.{told_op, told_doc, take-entries, entry_at}
use Rattle.troop_hall.proofs.Entries.{length-entries}
use Rattle.session.specs.Shown.{AreEntries}

-- one entry more
doc_told-one_more : (m : Marked) (es : List Entry) (e : Entry) → doc_told m (es ++ e ∷ []) ≡ doc_after e.who (op_told e.deed) (doc_told m es)
doc_told-one_more m [] e = refl
doc_told-one_more m (x ∷ es) e = doc_told-one_more (doc_after x.who (op_told x.deed) m) es e

-- the entries of a front of a legal log
pub entries_front : (n : ℕ) (log : List Row) (es : List Entry) → IsLegal log → es ≡ take n (entries log) → AreEntries es
entries_front n log es legal is = (take n log, legal_front log n legal, is ∙ sym (take-entries log n))

-- the document that they make
pub doc_of_front : (n : ℕ) (log : List Row) → IsLegal log → doc_told [] (take n (entries log)) ≡ doc (take n log)
doc_of_front n log legal = ap (doc_told []) (sym (take-entries log n)) ∙ told_doc (take n log) (legal_front log n legal)

module _ (es : List Entry) (are : AreEntries es) (i : ℕ) (e : Entry) (within : i < length es) (is : e ≡ get_or es i e) where
  at_index : slice_get es i ≡ Some e
  at_index = slice_get_read es (length es) i e refl within is

  -- an entry's operation fits the document that those in front of it make
  pub entry_fits : OpFits (op_told e.deed) (length (doc_told [] (take i es)))
  entry_fits =
      let log = are.0 in
      let legal = are.1 in
      let count = length-entries log in
      let same : length es ≡ length (entries log) = ap length are.2 in
      let row = slice_get-within log i (omega (arith, within, count, same)) in
      let told : Some e ≡ Some (entry_of i row.0) = sym at_index ∙ (ap (λ l. slice_get l i) are.2 ∙ entry_at 0 i i log row.0 (let k : i ≡ 0 + i = omega arith in k) row.1) in
      let entry : e ≡ entry_of i row.0 = cc in
      let op : op_told e.deed ≡ row.0.op = ap (λ (x : Entry). op_told x.deed) entry ∙ told_op log i row.0 legal row.1 in
      let made : doc_told [] (take i es) ≡ doc (take i log) = ap (λ l. doc_told [] (take i l)) are.2 ∙ doc_of_front i log legal in
      subst (λ (x : Marked). OpFits (op_told e.deed) (length x)) (sym made) (subst (λ o. OpFits o (length (doc (take i log)))) (sym op) (row_fits log i row.0 legal row.1))

  -- the document with it
  pub doc_next : (n : ℕ) → n ≡ suc i → doc_told [] (take n es) ≡ doc_after e.who (op_told e.deed) (doc_told [] (take i es))
  doc_next n next = ap (λ k. doc_told [] (take k es)) next ∙ (ap (doc_told []) (take_next es i e at_index) ∙ doc_told-one_more [] (take i es) e)
