-- What the seats that are handed in know together of the last history.
use Rattle.std.specs.Prelude.{◌≡◌, ℕ, ◌^◌, ◌<◌, ◌≤◌, List, [], ◌∷◌, ◌++◌, length, Option}
use Rattle.atomic_table.specs.Table.{Me, Step}
use Rattle.seat_lock.specs.declared.board.Card.{Card}
use Rattle.seat_lock.specs.declared.board.View.{View}
use Rattle.seat_lock.specs.declared.board.Phase.TheVariants.{Playing}
use Rattle.seat_lock.specs.Lists.{Begins, AllOf, IsIn, rows_of}
use Rattle.seat_lock.specs.Turns.{AreDistinct}

-- the indexes of these seats
abbrev pub card_indexes : {R : Type 0} → List (Card R) → List ℕ
card_indexes [] = []
card_indexes (c ∷ cs) = c.index ∷ card_indexes cs

-- these are all the seats: 0, and each index that was made through one of them, is that of one of them
pub record AreAllSeats {R : Type 0} (cs : List (Card R)) : Type 0 where
  pub first : IsIn 0 (card_indexes cs)
  pub made : AllOf (λ (c : Card R). (k : ℕ) → IsIn k c.made → IsIn k (card_indexes cs)) cs

-- What these seats know of the last history, where so many indexes were drawn: it begins with each one's list; no two have one index;
-- each other index was made through a lower one, and `maker` says through which. Below 2 ^ 64 seats the rows with a seat's number are
-- its own, and each row behind the first ones has a seat's number.
pub record IsSettled {R : Type 0} (number : R → ℕ) (start log : List R) (cs : List (Card R)) : Type 0 where
  pub seats : ℕ
  pub behind : List R
  pub begins : AllOf (λ (c : Card R). Begins c.seen log) cs
  pub below : AllOf (λ (c : Card R). c.index < seats) cs
  pub distinct : AreDistinct cs
  pub own : seats < 2 ^ 64 → AllOf (λ (c : Card R). rows_of number c.index log ≡ c.own) cs
  pub splits : start ++ behind ≡ log
  pub late : seats < 2 ^ 64 → AllOf (λ r. number r < seats) behind
  pub maker : ℕ → ℕ
  pub makers : (k : ℕ) → 0 < k → k < seats → maker k < k
  pub made : AllOf (λ (c : Card R). (k : ℕ) → IsIn k c.made → (0 < k) × (k < seats) × (maker k ≡ c.index)) cs
  pub all : AreAllSeats cs → (k : ℕ) → k < seats → IsIn k (card_indexes cs)
  pub few : AreAllSeats cs → seats ≤ length cs

-- the seat with the turn is told what it and those that were joined into it know
abbrev pub Reveals : {S R F : Type 0} → (R → ℕ) → Step (Option S) → Me (Option S) (View R F) → ℕ → Me (Option S) (View R F) → Type 0
Reveals number step m r m' = (m' ≡ m) × ((t : ℕ) → m.0.phase ≡ Playing t → IsSettled number m.0.start m.0.card.seen (m.0.card ∷ m.0.others))
