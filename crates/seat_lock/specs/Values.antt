-- What clauses see of a hall and of a seat.
use Rattle.std.specs.Prelude.{◌≡◌, ℕ, List, [], ◌∷◌, ◌++◌, ◌%◌, ◌^◌, map, Bool, Option, Some, MatchBool}
use Rattle.atomic_table.specs.Seated.{TableId}
use Rattle.atomic_table.specs.declared.shared.Seat.{Seat}
use Rattle.seat_lock.specs.declared.board.View.{View}
use Rattle.seat_lock.specs.declared.board.Card.{Card}
use Rattle.seat_lock.specs.Lists.{Begins, AllOf, IsIn, rows_of}

-- a hall: which table it is, and the state that it was made of
pub record HallValue (S : Type 0) : Type 0 where
  pub table : TableId
  pub first : S

-- a seat: its hall's table; its number, which rows carry; its index, how many numbers were drawn before its own; the rows that it has
-- seen, those that were placed through it, and the indexes of the seats that were made through it; and of the state that its hall
-- was made of, the part that no play changes, and the rows
pub record SeatValue (R F : Type 0) : Type 0 where
  pub table : TableId
  pub number : ℕ
  pub index : ℕ
  pub seen : List R
  pub own : List R
  pub made : List ℕ
  pub fixed : Option F
  pub start : List R

-- the value of a seat with this view and number
abbrev pub seat_value : {R F : Type 0} → TableId → ℕ → View R F → SeatValue R F
seat_value table number v = record { table = table; number = number; index = v.card.index; seen = v.card.seen; own = v.card.own; made = v.card.made; fixed = v.fixed; start = v.start }

-- what the table knows of the seat
abbrev pub card_of : {R F : Type 0} → SeatValue R F → Card R
card_of s = record { index = s.index; seen = s.seen; own = s.own; made = s.made }

-- the seat is one of the hall
abbrev pub IsSeatOf : {S R F : Type 0} → (S → List R) → (S → F) → HallValue S → SeatValue R F → Type 0
IsSeatOf rows fixed h s = (s.table ≡ h.table) × (s.fixed ≡ Some (fixed h.first)) × (s.start ≡ rows h.first) × (s.number ≡ s.index % 2 ^ 64)

-- the same seat, which has seen these rows, and placed these
abbrev pub with_rows : {R F : Type 0} → SeatValue R F → List R → List R → SeatValue R F
with_rows s seen own = record s { seen = seen; own = own }

-- the reply is that of one thread at some rows, which begin with what the seat had seen; where the ask is accepted there, the row that it
-- makes is added to them, and to the seat's own; nothing else of the seat changes
abbrev pub CallsTo : {Ask Reply R F : Type 0} → (F → List R → Ask → Reply) → (F → List R → Ask → Bool) → (F → List R → ℕ → Ask → R)
    → F → Ask → SeatValue R F → Reply → SeatValue R F → Type 0
CallsTo answer accepts row_made f ask s reply t = (log : List _) × Begins s.seen log × (reply ≡ answer f log ask)
    × MatchBool (accepts f log ask) (t ≡ with_rows s (log ++ row_made f log s.number ask ∷ []) (s.own ++ row_made f log s.number ask ∷ [])) (t ≡ with_rows s log s.own)

-- the rows with a seat's number are its own, in order, and each row behind the first ones has the number of one of these seats
pub record AccountFor {R F : Type 0} (number : R → ℕ) (start log : List R) (seats : List (SeatValue R F)) : Type 0 where
  pub behind : List R
  pub own : AllOf (λ (s : SeatValue R F). rows_of number s.number log ≡ s.own) seats
  pub splits : start ++ behind ≡ log
  pub every : AllOf (λ r. IsIn (number r) (map (λ (s : SeatValue R F). s.number) seats)) behind

-- the seat is this one at the table
abbrev pub IsInnerOf : {S R F : Type 0} → SeatValue R F → Seat (Option S) (View R F) → Type 0
IsInnerOf s inner = s ≡ seat_value inner.table_id s.number inner.me.0
