-- Operations of rows behind one another.
use Rattle.std.proofs.Common.{◌≡◌, Option, None, Some, List, [], ◌∷◌, ◌++◌, refl, ap, ◌∙◌}
use Rattle.ot_text.specs.Change.{Change}
use Rattle.troop_entry.specs.declared.row.Row.{Row}
use Rattle.log_model.specs.Log.{with_op, ops}

with_op-append : (o : Option Change) (bs cs : List Change) → with_op o (bs ++ cs) ≡ with_op o bs ++ cs
with_op-append None bs cs = refl
with_op-append (Some b) bs cs = refl

-- the operations of rows behind others
pub ops-append : (xs ys : List Row) → ops (xs ++ ys) ≡ ops xs ++ ops ys
ops-append [] ys = refl
ops-append (row ∷ xs) ys = ap (with_op row.op) (ops-append xs ys) ∙ with_op-append row.op (ops xs) (ops ys)
