-- The rule of the lock.
-- Word 0 is the length of the history, word 1 how many tickets were drawn, word 2 whose turn it is, and word 3 how many seats have
-- a number, modulo 2 ^ 64. The slot has the state, whose rows are the history, unless the seat with the turn has it out.
use Rattle.std.specs.Prelude.{◌≡◌, ◌≢◌, ℕ, ◌-◌, ◌%◌, ◌^◌, ◌<◌, ◌≤◌, Bool, true, false, List, [], ◌∷◌, ◌++◌, length, Option, Some}
use mathlib.Core.Option.{some}
use mathlib.Core.Option as maybe
use lib.ListN.{get_elem?}
use Rattle.atomic_table.specs.Table.{State}
use Rattle.seat_lock.specs.declared.board.Card.{Card}
use Rattle.seat_lock.specs.declared.board.View.{View}
use Rattle.seat_lock.specs.declared.board.Phase.{Phase}
use Rattle.seat_lock.specs.declared.board.Phase.TheVariants.{Idle, Giving, Waiting, Playing}
use Rattle.seat_lock.specs.Lists.{Begins, AllOf, IsIn, rows_of}

-- no two of these seats have one index
abbrev pub AreDistinct : {R : Type 0} → List (Card R) → Type 0
AreDistinct [] = Unit {0}
AreDistinct (c ∷ cs) = AllOf (λ d. d.index ≢ c.index) cs × AreDistinct cs

-- the history; how many seats have an index; which seat at the table keeps each, and through which each other one was made
pub record Book (R : Type 0) : Type 0 where
  pub log : List R
  pub seats : ℕ
  pub keeper : ℕ → ℕ
  pub maker : ℕ → ℕ

-- how many tickets were drawn, whose turn it is, whether the state is out, and which seat at the table has each ticket
pub record Tickets : Type 0 where
  pub drawn : ℕ
  pub turn : ℕ
  pub busy : Bool
  pub waiter : ℕ → ℕ

-- what this seat at the table knows of a seat that it keeps is so: its list begins the history, it alone keeps the index, the rows
-- with its number are its own, and the indexes made through it are those that it made
pub record IsCardOf {R : Type 0} (number : R → ℕ) (b : Book R) (seat : ℕ) (c : Card R) : Type 0 where
  pub begins : Begins c.seen b.log
  pub below : c.index < b.seats
  pub kept : b.keeper c.index ≡ seat
  pub own : b.seats < 2 ^ 64 → rows_of number c.index b.log ≡ c.own
  pub made : (k : ℕ) → 0 < k → k < b.seats → b.maker k ≡ c.index → IsIn k c.made
  pub sound : (k : ℕ) → IsIn k c.made → (0 < k) × (k < b.seats) × (b.maker k ≡ c.index)

-- the index that this seat at the table has to give is nobody's yet
pub record IsGiftOf {R : Type 0} (number : R → ℕ) (b : Book R) (seat : ℕ) (c : Card R) (k : ℕ) : Type 0 where
  pub below : k < b.seats
  pub kept : b.keeper k ≡ seat
  pub other : k ≢ c.index
  pub unused : b.seats < 2 ^ 64 → rows_of number k b.log ≡ []
  pub childless : (m : ℕ) → 0 < m → m < b.seats → b.maker m ≢ k

-- the phase is so: a ticket is this seat's, and is served where the state is at home at its turn; with the turn the state is out, and
-- nobody else adds to the history
abbrev pub IsPhaseOf : {R : Type 0} → (R → ℕ) → Book R → ℕ → Tickets → Card R → Phase → Type 0
IsPhaseOf number b seat q c Idle = Unit {0}
IsPhaseOf number b seat q c (Giving k) = IsGiftOf number b seat c k
IsPhaseOf number b seat q c (Waiting t) = (q.turn ≤ t) × (t < q.drawn) × (q.waiter t ≡ seat) × (t ≡ q.turn → q.busy ≡ false)
IsPhaseOf number b seat q c (Playing t) = (t ≡ q.turn) × (t < q.drawn) × (q.waiter t ≡ seat) × (q.busy ≡ true) × (c.seen ≡ b.log)

-- all that a seat at the table knows is so
pub record Knows {R F : Type 0} (number : R → ℕ) (b : Book R) (seat : ℕ) (q : Tickets) (f : F) (start : List R) (v : View R F) : Type 0 where
  pub card : IsCardOf number b seat v.card
  pub others : AllOf (IsCardOf number b seat) v.others
  pub phase : IsPhaseOf number b seat q v.card v.phase
  pub apart : AreDistinct (v.card ∷ v.others)
  pub fixed : v.fixed ≡ Some f
  pub start_is : v.start ≡ start

-- the rule, for a hall that was made of this state
pub record KeepsTurns {S R F : Type 0} (rows : S → List R) (fixed : S → F) (number : R → ℕ) (legal : F → List R → Type 0) (start : S) (s : State (Option S) (View R F)) : Type 0 where
  pub b : Book R
  pub q : Tickets
  pub home : maybe.Option (Option S)
  pub behind : List R
  pub words : s.words ≡ length b.log ∷ q.drawn ∷ q.turn ∷ b.seats % 2 ^ 64 ∷ []
  pub homes : s.homes ≡ home ∷ []
  pub ordered : q.turn ≤ q.drawn
  pub small : q.drawn < 2 ^ 64
  pub taken : q.busy ≡ true → q.turn < q.drawn
  pub rested : q.busy ≡ false → (y : S) × (home ≡ some (Some y)) × (rows y ≡ b.log) × (fixed y ≡ fixed start)
  pub lawful : legal (fixed start) b.log
  pub splits : rows start ++ behind ≡ b.log
  pub early : AllOf (λ r. number r ≡ 2 ^ 64 - 1) (rows start)
  pub late : b.seats < 2 ^ 64 → AllOf (λ r. number r < b.seats) behind
  pub makers : (k : ℕ) → 0 < k → k < b.seats → b.maker k < k
  pub each_seat : (j : ℕ) (v : View R F) → get_elem? s.views j ≡ some v → v.live ≡ true → Knows number b j q (fixed start) (rows start) v
