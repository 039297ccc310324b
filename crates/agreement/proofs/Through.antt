-- An operation moved through one row more.
use Rattle.std.proofs.Common.{◌≡◌, ℕ, suc, ◌≤◌, Option, None, Some, List, [], ◌∷◌, take, drop, slice_get, refl, ap, ◌∙◌}
use Rattle.ot_text.specs.Change.{Change}
use Rattle.ot_transform.specs.Transform.{left}
use Rattle.ot_transform.specs.Chain.{through}
use Rattle.troop_entry.specs.declared.row.Row.{Row}
use Rattle.log_model.specs.Log.{with_op, ops}
use Rattle.log_model.proofs.Lists.{drop_take_next}
use Rattle.agreement.proofs.Ops.{ops-append}
use Rattle.ot_transform.proofs.Through.{through-append}

-- an operation, behind that of one row more
abbrev pub behind : Option Change → Option Change → Option Change
behind None o = None
behind (Some u) None = Some u
behind (Some u) (Some b) = Some (left u b)

-- the same of an operation that is there
abbrev pub behind_one : Change → Option Change → Change
behind_one u None = u
behind_one u (Some b) = left u b

-- it stays there
pub behind-some : (u : Change) (o : Option Change) → behind (Some u) o ≡ Some (behind_one u o)
behind-some u None = refl
behind-some u (Some b) = refl

through-with_op : (u : Change) (o : Option Change) (bs : List Change) → through u (with_op o bs) ≡ through (behind_one u o) bs
through-with_op u None bs = refl
through-with_op u (Some b) bs = refl

-- through what was taken, one row more
pub through_next : (log : List Row) (seen t : ℕ) (op : Change) (row : Row) → seen ≤ t → slice_get log t ≡ Some row
    → through op (ops (drop seen (take (suc t) log))) ≡ behind_one (through op (ops (drop seen (take t log)))) row.op
through_next log seen t op row before e =
    let r : List Row = drop seen (take t log) in
    ap (λ rows. through op (ops rows)) (drop_take_next log seen t row before e)
    ∙ ap (through op) (ops-append r (row ∷ []))
    ∙ through-append op (ops r) (ops (row ∷ []))
    ∙ through-with_op (through op (ops r)) row.op []
