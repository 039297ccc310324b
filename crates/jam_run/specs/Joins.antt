-- The joins of a run.
use Rattle.std.specs.Prelude.{ℕ, zero, suc, List, [], ◌∷◌, ◌++◌, codes, decimal, None}
use Rattle.troop_entry.specs.declared.call.Lang.TheVariants.{Lines}
use Rattle.troop_entry.specs.declared.call.Call.TheVariants.{Join}
use Rattle.troop_entry.specs.declared.row.Row.{Row}

-- the name of the performer of this number: p1, p2 and so on
abbrev pub player_name : ℕ → List ℕ
player_name number = codes "p" ++ decimal number

-- the row at this position: the next performer's join, through the first seat
abbrev pub join_row : ℕ → Row
join_row at = record { who = suc at; num = 0; seat = 0; call = Join (player_name (suc at)) Lines; op = None }

-- the joins of so many performers, in order
abbrev pub join_rows : ℕ → List Row
join_rows zero = []
join_rows (suc n) = join_rows n ++ join_row n ∷ []
