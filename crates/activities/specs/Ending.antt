-- How an activity ends at the stage.
use Rattle.std.specs.Prelude.{◌≡◌, ℕ, Bool, true, false, ◌∷◌, List, [], ◌++◌, Option, None, Some, Result, Ok, Err}
use Rattle.seat_lock.specs.Lists.{Begins}
use Rattle.seat_lock.specs.Values.{SeatValue}
use Rattle.block_queue.specs.declared.item.Item.{Item}
use Rattle.block_queue.specs.declared.item.Item.TheVariants as item
use Rattle.stage_state.specs.declared.act.Act.TheVariants as act
use Rattle.stage_state.specs.declared.played.Origin.{Origin}
use Rattle.stage_state.specs.Origins.{machine_at}
use Rattle.activities.specs.declared.errors.PerformError.{PerformError}
use Rattle.activities.specs.declared.commands.Flow.{Flow}
use Rattle.activities.specs.declared.commands.Flow.TheVariants as flow
use Rattle.activities.specs.Commands.{RanCommands}
use Rattle.activities.specs.Down.{TookDown}
use Rattle.activities.specs.Memory.{PlacedAct, SeatMemory, placed_row, Remembers}
use Rattle.activities.specs.Up.{SentUp, sent_in}

-- where there is an error the stage is halted then: by this seat, unless it was halted before
abbrev pub Halts : Origin → Option PerformError → SeatValue PlacedAct Origin → SeatValue PlacedAct Origin → Type 0
Halts o None s t = t.own ≡ s.own
Halts o (Some e) s t = (b : Bool) × (t.own ≡ s.own ++ placed_row b s.number act.Halt) × ((machine_at o t.seen).halted ≡ true)

-- what the seat remembers then: it sent nothing more
abbrev pub HaltsMemory : Origin → SeatMemory → SeatValue PlacedAct Origin → Type 0
HaltsMemory o k t = (at : SeatMemory) × Remembers at t × (sent_in (machine_at o []) at ≡ sent_in (machine_at o []) k)

-- the down line, up to its halt, with the end behind the blocks that it pushed; `u` is the seat in between
pub record DownDone (o : Origin) (end : Option PerformError) (told remaining : Option (List ℕ)) (s t : SeatValue PlacedAct Origin) (before now : List Item) : Type 0 where
  pub u : SeatValue PlacedAct Origin
  pub items : List Item
  pub took : TookDown o end told remaining s u before items
  pub pushed : now ≡ items ++ item.End ∷ []
  pub number : u.number ≡ s.number
  pub later : Begins u.seen t.seen
  pub halts : Halts o end u t

-- the up line, up to its halt; `u` is the seat in between, and `k` what it remembers at the end
pub record UpDone (o : Origin) (end : Option PerformError) (told remaining before now : Option (List ℕ)) (s t : SeatValue PlacedAct Origin) : Type 0 where
  pub u : SeatValue PlacedAct Origin
  pub sent : SentUp o end told remaining before now s u
  pub k : SeatMemory
  pub remembers : Remembers k t
  pub same : sent_in (machine_at o []) k ≡ sent_in (machine_at o []) sent.k
  pub number : u.number ≡ s.number
  pub later : Begins u.seen t.seen
  pub halts : Halts o end u t

-- whether a command found the stage closed
abbrev pub found_closed : Result Flow PerformError → Bool
found_closed (Ok flow.On) = false
found_closed (Ok flow.Ended) = false
found_closed (Ok flow.Closed) = true
found_closed (Err e) = false

-- the stage is finished then: by this seat, unless it was finished before
abbrev pub IsFinished : Origin → SeatValue PlacedAct Origin → SeatValue PlacedAct Origin → Type 0
IsFinished o s t = (b : Bool) × (t.own ≡ s.own ++ placed_row b s.number act.Finish) × ((machine_at o t.seen).finishing ≡ true)

-- commands that have ended finish the stage, but where one found it closed
abbrev pub FinishesStage : Origin → Result Flow PerformError → SeatValue PlacedAct Origin → SeatValue PlacedAct Origin → Type 0
FinishesStage o (Ok flow.On) s t = ⊥
FinishesStage o (Ok flow.Ended) s t = IsFinished o s t
FinishesStage o (Ok flow.Closed) s t = t.own ≡ s.own
FinishesStage o (Err e) s t = IsFinished o s t

-- what the seat remembers then: all that it did before, and acts behind it
abbrev pub FinishesMemory : SeatMemory → SeatValue PlacedAct Origin → Type 0
FinishesMemory k t = (at : SeatMemory) × Begins k at × Remembers at t

-- the commands, up to the finish; `u` is the seat in between, and `k` what it remembers at the end
pub record CommandsDone (o : Origin) (name : List ℕ) (who : ℕ) (end : Result Flow PerformError) (told remaining before now : Option (List ℕ)) (s t : SeatValue PlacedAct Origin) : Type 0 where
  pub u : SeatValue PlacedAct Origin
  pub ran : RanCommands o name who end told remaining before now s u
  pub k : SeatMemory
  pub behind : Begins ran.k k
  pub remembers : Remembers k t
  pub number : u.number ≡ s.number
  pub later : Begins u.seen t.seen
  pub finishes : FinishesStage o end u t

-- the commands don't go on
abbrev pub IsEnd : Result Flow PerformError → Type 0
IsEnd (Ok flow.On) = ⊥
IsEnd (Ok flow.Ended) = Unit {0}
IsEnd (Ok flow.Closed) = Unit {0}
IsEnd (Err e) = Unit {0}
