-- What an entry tells: its operation, its block, and whose edit or leave it is.
use Rattle.std.specs.Prelude.{ℕ, Bool, true, false, ◌&&◌, ◌==◌, nat_lt, Option, None, Some, if◌then◌else◌}
use Rattle.ot_text.specs.Change.{Change}
use Rattle.troop_entry.specs.declared.block.Block.{Block}
use Rattle.troop_entry.specs.declared.entry.Deed.{Deed}
use Rattle.troop_entry.specs.declared.entry.Deed.TheVariants as deed
use Rattle.troop_entry.specs.declared.entry.Entry.{Entry}

-- the operation of a deed, if it has one
abbrev pub op_told : Deed → Option Change
op_told (deed.Join name lang) = None
op_told deed.Leave = None
op_told (deed.Edit op) = Some op
op_told (deed.Eval text) = None
op_told (deed.Reset op) = Some op

-- whether the deed is an edit
abbrev pub tells_edit : Deed → Bool
tells_edit (deed.Join name lang) = false
tells_edit deed.Leave = false
tells_edit (deed.Edit op) = true
tells_edit (deed.Eval text) = false
tells_edit (deed.Reset op) = false

-- whether the deed is a leave
abbrev pub tells_leave : Deed → Bool
tells_leave (deed.Join name lang) = false
tells_leave deed.Leave = true
tells_leave (deed.Edit op) = false
tells_leave (deed.Eval text) = false
tells_leave (deed.Reset op) = false

-- whether the entry is an edit by this performer
abbrev pub is_edit_of : ℕ → Entry → Bool
is_edit_of who e = tells_edit e.deed && (e.who == who)

-- whether the entry is a leave of this performer
abbrev pub is_leave_of : ℕ → Entry → Bool
is_leave_of who e = tells_leave e.deed && (e.who == who)

-- the block that a deed at this position is for a performer with this position of joining: an evaluation behind the join is one
abbrev pub block_of_deed : ℕ → ℕ → Deed → Option Block
block_of_deed joined at (deed.Join name lang) = None
block_of_deed joined at deed.Leave = None
block_of_deed joined at (deed.Edit op) = None
block_of_deed joined at (deed.Eval text) = if nat_lt joined at then Some (record { place = at; text = text }) else None
block_of_deed joined at (deed.Reset op) = None

-- the block that an entry is for a performer who joined at this position
abbrev pub block_told : ℕ → Entry → Option Block
block_told joined e = block_of_deed joined e.at e.deed
