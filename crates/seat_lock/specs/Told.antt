-- What each step of the lock tells its seat.
use Rattle.std.specs.Prelude.{◌≡◌, ◌≢◌, ℕ, ◌%◌, ◌^◌, ◌<◌, true, false, List, [], ◌∷◌, ◌++◌, length, drop, Option, Some, None}
use Rattle.atomic_table.specs.Table.{Me, Step, rest}
use Rattle.seat_lock.specs.declared.board.Card.{Card}
use Rattle.seat_lock.specs.declared.board.View.{View}
use Rattle.seat_lock.specs.declared.board.Phase.{Phase}
use Rattle.seat_lock.specs.declared.board.Phase.TheVariants.{Idle, Giving, Waiting, Playing}
use Rattle.seat_lock.specs.Lists.{Begins}

-- ---- views

-- the index that is to be given to the next seat
abbrev pub index_to_give : Phase → ℕ
index_to_give (Giving k) = k
index_to_give _ = 0

-- a new seat, of this index, which has seen these rows
abbrev pub new_view : {R F : Type 0} → ℕ → List R → Option F → List R → View R F
new_view k seen f start = record { live = true; card = record { index = k; seen = seen; own = []; made = [] }; others = []; phase = Idle; fixed = f; start = start }

-- what remains of a seat that was joined into another
abbrev pub spent_view : {R F : Type 0} → View R F
spent_view = record { live = false; card = record { index = 0; seen = []; own = []; made = [] }; others = []; phase = Idle; fixed = None; start = [] }

-- the seat in another phase
abbrev pub in_phase : {R F : Type 0} → View R F → Phase → View R F
in_phase v phase = record v { phase = phase }

-- the seat that has seen these rows
abbrev pub having_seen : {R F : Type 0} → View R F → List R → View R F
having_seen v log = record v { card = record v.card { seen = log } }

-- the seat with the turn, by this ticket, which has seen these rows
abbrev pub having_turn : {R F : Type 0} → View R F → ℕ → List R → View R F
having_turn v t log = record v { card = record v.card { seen = log }; phase = Playing t }

-- the seat with this index to give
abbrev pub having_index : {R F : Type 0} → View R F → ℕ → View R F
having_index v k = record v { card = record v.card { made = v.card.made ++ k ∷ [] }; phase = Giving k }

-- the seat that has placed the rows behind those that it had seen
abbrev pub having_gained : {R F : Type 0} → View R F → List R → View R F
having_gained v log = record v { card = record v.card { seen = log; own = v.card.own ++ drop (length v.card.seen) log } }

-- the seat that is given the index, which has seen as much
abbrev pub given_view : {R F : Type 0} → View R F → View R F
given_view v = new_view (index_to_give v.phase) v.card.seen v.fixed v.start

-- the seat with the cards of those that were joined into it
abbrev pub with_others : {R F : Type 0} → View R F → List (Card R) → View R F
with_others v cards = record v { others = cards }

-- the seat with all that another knew
abbrev pub joined_view : {R F : Type 0} → View R F → View R F → View R F
joined_view v u = record v { others = v.others ++ u.card ∷ u.others }

-- ---- the state in a seat's hands

-- the rows of the state, if there is one
abbrev pub option_rows : {S R : Type 0} → (S → List R) → Option S → List R
option_rows rows None = []
option_rows rows (Some y) = rows y

-- the rows of the state that a seat has taken
abbrev pub slot_rows : {S R : Type 0} → (S → List R) → List (ℕ × Option S) → List R
slot_rows rows [] = []
slot_rows rows (x ∷ xs) = option_rows rows x.1

-- the rows are legal beside this fixed part, if it is known
abbrev pub IsLegalBy : {F R : Type 0} → (F → List R → Type 0) → Option F → List R → Type 0
IsLegalBy legal None log = ⊥
IsLegalBy legal (Some f) log = legal f log

-- ---- steps

-- where the word is the one that was expected, the seat has that ticket
abbrev pub DrawsTicket : {S R F : Type 0} → Step (Option S) → Me (Option S) (View R F) → ℕ → Me (Option S) (View R F) → Type 0
DrawsTicket step m r m' = (m'.1 ≡ m.1) × (r ≡ step.first → m'.0 ≡ in_phase m.0 (Waiting r)) × (r ≢ step.first → m'.0 ≡ m.0)

-- the old value of the word is the new index modulo 2 ^ 64
abbrev pub DrawsNumber : {S R F : Type 0} → Step (Option S) → Me (Option S) (View R F) → ℕ → Me (Option S) (View R F) → Type 0
DrawsNumber step m r m' = (m'.1 ≡ m.1) × ((k : ℕ) × (r ≡ k % 2 ^ 64) × (m.0.card.index < k) × (m'.0 ≡ having_index m.0 k))

-- the state is at home again, and the seat has no ticket
abbrev pub PassesTurn : {S R F : Type 0} → Step (Option S) → Me (Option S) (View R F) → ℕ → Me (Option S) (View R F) → Type 0
PassesTurn step m r m' = (m'.1 ≡ rest m.1) × (m'.0 ≡ in_phase m.0 Idle)

-- where the word is its ticket, the seat has the turn and the state, whose rows are the history
abbrev pub TakesTurn : {S R F : Type 0} → (S → List R) → (S → F) → (F → List R → Type 0) → Step (Option S) → Me (Option S) (View R F) → ℕ → Me (Option S) (View R F) → Type 0
TakesTurn rows fixed legal step m r m' = (t : ℕ) → m.0.phase ≡ Waiting t
    → (r ≡ t → (y : _) × (m'.1 ≡ (0, Some y) ∷ m.1) × Begins m.0.card.seen (rows y) × (m'.0 ≡ having_turn m.0 t (rows y)) × (m.0.fixed ≡ Some (fixed y)) × legal (fixed y) (rows y))
    × (r ≢ t → m' ≡ m)

-- the history is that of the state in the seat's hands
abbrev pub Publishes : {S R F : Type 0} → (S → List R) → Step (Option S) → Me (Option S) (View R F) → ℕ → Me (Option S) (View R F) → Type 0
Publishes rows step m r m' = (m'.1 ≡ m.1) × (m'.0 ≡ having_gained m.0 (slot_rows rows m.1))

-- the seat has seen as many rows as the word says, and they are legal
abbrev pub LooksAtCount : {S R F : Type 0} → (F → List R → Type 0) → Step (Option S) → Me (Option S) (View R F) → ℕ → Me (Option S) (View R F) → Type 0
LooksAtCount legal step m r m' = (m'.1 ≡ m.1) × ((log : List _) × (r ≡ length log) × Begins m.0.card.seen log × IsLegalBy legal m.0.fixed log × (m'.0 ≡ having_seen m.0 log))
