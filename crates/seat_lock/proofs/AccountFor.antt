-- What closed seats know of the last history.
use Rattle.std.proofs.Common.{◌≡◌, ℕ, ◌%◌, ◌^◌, ◌<◌, List, [], ◌∷◌, map, length, sym, refl, ap, ◌∙◌, subst, arith, suc}
use Rattle.seat_lock.specs.declared.board.Card.{Card}
use Rattle.seat_lock.specs.Lists.{AllOf, IsIn, rows_of}
use Rattle.seat_lock.specs.Settled.{card_indexes, AreAllSeats, IsSettled}
use Rattle.seat_lock.specs.Values.{SeatValue, card_of, AccountFor}
use Rattle.seat_lock.proofs.AllOf.{all_map}
use Rattle.seat_lock.proofs.Updated.{small_mod}

module _ {R F : Type 0} where
  same_numbers : (n : ℕ) (seats : List (SeatValue R F)) → n < 2 ^ 64 → AllOf (λ (c : Card R). c.index < n) (map card_of seats) → AllOf (λ (s : SeatValue R F). s.number ≡ s.index % 2 ^ 64) seats
      → card_indexes (map card_of seats) ≡ map (λ (s : SeatValue R F). s.number) seats
  same_numbers n [] few below of = refl
  same_numbers n (s ∷ ss) few below of = λ i. sym (of.0 ∙ small_mod s.index (let l = below.0 in omega arith)) i ∷ same_numbers n ss few below.1 of.1 i

  own_rows : (number : R → ℕ) (log : List R) (n : ℕ) (seats : List (SeatValue R F)) → n < 2 ^ 64 → AllOf (λ (c : Card R). c.index < n) (map card_of seats) → AllOf (λ (s : SeatValue R F). s.number ≡ s.index % 2 ^ 64) seats
      → AllOf (λ (c : Card R). rows_of number c.index log ≡ c.own) (map card_of seats) → AllOf (λ (s : SeatValue R F). rows_of number s.number log ≡ s.own) seats
  own_rows number log n [] few below of own = tt
  own_rows number log n (s ∷ ss) few below of own = (ap (λ k. rows_of number k log) (of.0 ∙ small_mod s.index (let l = below.0 in omega arith)) ∙ own.0, own_rows number log n ss few below.1 of.1 own.1)

  length-cards : (seats : List (SeatValue R F)) → length (map card_of seats) ≡ length seats
  length-cards [] = refl
  length-cards (s ∷ ss) = ap suc (length-cards ss)

  -- settled seats that are all the seats account for the rows
  pub whole : (number : R → ℕ) (start log : List R) (seats : List (SeatValue R F)) → length seats < 2 ^ 64 → AllOf (λ (s : SeatValue R F). s.number ≡ s.index % 2 ^ 64) seats
      → IsSettled number start log (map card_of seats) → AreAllSeats (map card_of seats) → AccountFor number start log seats
  whole number start log seats fits of s closed = let l = length-cards seats in let m = s.few closed in let few : s.seats < 2 ^ 64 = omega arith in record {
    behind = s.behind;
    own = own_rows number log s.seats seats few s.below of (s.own few);
    splits = s.splits;
    every = subst (λ ks. AllOf (λ r. IsIn (number r) ks) s.behind) (same_numbers s.seats seats few s.below of) (all_map (λ r. number r < s.seats) (λ r. IsIn (number r) (card_indexes (map card_of seats))) (λ r below. s.all closed (number r) below) s.behind (s.late few));
  }
