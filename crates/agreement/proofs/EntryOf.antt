-- Entries of rows, and whether they tell edits.
use Rattle.std.proofs.Common.{◌≡◌, ℕ, ◌&&◌, nat_eq, Option, Some, List, [], ◌∷◌, refl, ap, ◌∙◌, ◌+◌, zero, suc, slice_get, sym, arith}
use Rattle.ot_text.specs.Change.{Change}
use Rattle.troop_entry.specs.declared.row.Row.{Row}
use Rattle.troop_entry.specs.declared.entry.Entry.{Entry}
use Rattle.troop_entry.specs.declared.call.Call.{Call}
use Rattle.troop_entry.specs.declared.call.Call.TheVariants.{Join, Leave, Edit, Eval, Reset}
use Rattle.troop_entry.specs.Entries.{entry_of, deed_of}
use Rattle.log_model.specs.Log.{entries_from}
use Rattle.troop_entry.specs.Told.{tells_edit, is_edit_of}
use Rattle.agreement.specs.Agreement.{is_edit, is_edit_by}

tells_edit-deed_of : (call : Call) (op : Option Change) → tells_edit (deed_of call op) ≡ is_edit call
tells_edit-deed_of (Join name lang) op = refl
tells_edit-deed_of Leave op = refl
tells_edit-deed_of (Edit seen o) op = refl
tells_edit-deed_of (Eval seen text) op = refl
tells_edit-deed_of (Reset seen text) op = refl

-- the entry of a row is a performer's edit where the row is
pub own_edit-entry_of : (own t : ℕ) (row : Row) → is_edit_of own (entry_of t row) ≡ is_edit_by own row
own_edit-entry_of own t row = ap (λ b. b && nat_eq row.who own) (tells_edit-deed_of row.call row.op)

-- an entry of rows is that of its row
pub entry_back : (n i : ℕ) (rows : List Row) (e : Entry) → slice_get (entries_from n rows) i ≡ Some e → (row : Row) × (slice_get rows i ≡ Some row) × (e ≡ entry_of (n + i) row)
entry_back n i [] e is = absurd (cc)
entry_back n zero (row ∷ rows) e is = let same : entry_of n row ≡ e = cc in let here : n + 0 ≡ n = omega arith in (row, refl, rw here (sym same))
entry_back n (suc i) (row ∷ rows) e is =
    let r = entry_back (suc n) i rows e is in
    let here : suc n + i ≡ n + suc i = omega arith in
    (r.0, r.1, r.2 ∙ ap (λ k. entry_of k r.0) here)
