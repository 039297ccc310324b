-- What the acts of all seats say together.
use Rattle.std.specs.Prelude.{◌≡◌, ◌⊎◌, ℕ, Bool, List, [], ◌∷◌, ◌++◌, ◌==◌}
use Rattle.seat_lock.specs.Lists.{AllOf, IsIn, rows_of}
use Rattle.troop_entry.specs.declared.entry.Entry.{Entry}
use Rattle.stage_state.specs.declared.act.Act.{Act}
use Rattle.stage_state.specs.declared.act.Act.TheVariants as act
use Rattle.activities.specs.Memory.{PlacedAct, SeatMemory}

-- what the acts give, in order
abbrev pub picked : {X : Type 0} → (Act → List X) → List PlacedAct → List X
picked pick [] = []
picked pick (r ∷ rows) = pick r.1 ++ picked pick rows

-- the entry that an act takes
abbrev pub entry_in : Act → List Entry
entry_in (act.Typed op) = []
entry_in (act.Eval place) = []
entry_in (act.Reset text) = []
entry_in (act.Take e) = e ∷ []
entry_in act.Next = []
entry_in act.Finish = []
entry_in act.Halt = []

-- whether something goes out by it, as a list
abbrev pub next_in : Act → List Act
next_in (act.Typed op) = []
next_in (act.Eval place) = []
next_in (act.Reset text) = []
next_in (act.Take e) = []
next_in act.Next = act.Next ∷ []
next_in act.Finish = []
next_in act.Halt = []

-- the act, if the performer asks something by it
abbrev pub ask_in : Act → List Act
ask_in (act.Typed op) = act.Typed op ∷ []
ask_in (act.Eval place) = act.Eval place ∷ []
ask_in (act.Reset text) = act.Reset text ∷ []
ask_in (act.Take e) = []
ask_in act.Next = []
ask_in act.Finish = []
ask_in act.Halt = []

-- the acts of this seat
abbrev pub acts_by : ℕ → List PlacedAct → List PlacedAct
acts_by n acts = rows_of (λ (r : PlacedAct). r.0) n acts

-- the acts, with the seat's own marked
abbrev pub marked_by : ℕ → List PlacedAct → SeatMemory
marked_by n [] = []
marked_by n (r ∷ acts) = (r.0 == n, r) ∷ marked_by n acts
