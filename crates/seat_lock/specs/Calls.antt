-- What a call of a hall does to its seat at the table.
use Rattle.std.specs.Prelude.{◌≡◌, ℕ, Bool, true, List, [], ◌∷◌, ◌++◌, Option, MatchBool}
use Rattle.atomic_table.specs.Table.{Me}
use Rattle.seat_lock.specs.declared.board.View.{View}
use Rattle.seat_lock.specs.declared.board.Phase.TheVariants.{Idle}
use Rattle.seat_lock.specs.Lists.{Begins}

-- a seat between two calls
abbrev pub IsResting : {S R F : Type 0} → Me (Option S) (View R F) → Type 0
IsResting m = (m.0.live ≡ true) × (m.0.others ≡ []) × (m.0.phase ≡ Idle) × (m.1 ≡ [])

-- the view of a resting seat that has seen these rows, and placed these
abbrev pub told_view : {R F : Type 0} → View R F → List R → List R → View R F
told_view v seen own = record v { card = record v.card { seen = seen; own = own }; phase = Idle }

-- `CallsTo` of views
abbrev pub CallsView : {Ask Reply R F : Type 0} → (F → List R → Ask → Reply) → (F → List R → Ask → Bool) → (F → List R → ℕ → Ask → R)
    → F → ℕ → Ask → View R F → Reply → View R F → Type 0
CallsView answer accepts row_made f number ask v reply w = (log : List _) × Begins v.card.seen log × (reply ≡ answer f log ask)
    × MatchBool (accepts f log ask) (w ≡ told_view v (log ++ row_made f log number ask ∷ []) (v.card.own ++ row_made f log number ask ∷ [])) (w ≡ told_view v log v.card.own)
