-- The size of the table, and a seat that stays the same.
use Rattle.std.specs.Prelude.{◌≡◌}
use Rattle.atomic_table.specs.Seated.{TableId}
use Rattle.atomic_table.specs.declared.shared.Seat.{Seat}

-- the table has four words and one slot
abbrev pub IsSized : TableId → Type 0
IsSized z = (z.words ≡ 4) × (z.slots ≡ 1)

-- both are the same seat at the same table
abbrev pub IsSameSeat : {S V : Type 0} → Seat S V → Seat S V → Type 0
IsSameSeat p q = (q.table_id ≡ p.table_id) × (q.id ≡ p.id)
