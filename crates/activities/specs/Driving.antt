-- What the driver's activity does with the blocks that come through the queue.
use Rattle.std.specs.Prelude.{◌≡◌, ℕ, ◌+◌, ◌-◌, ◌^◌, ◌<◌, ◌≤◌, Bool, true, false, List, [], ◌∷◌, ◌++◌, length, Option, Some, IfSome}
use Rattle.seat_lock.specs.Lists.{Begins}
use Rattle.troop_entry.specs.declared.block.Block.{Block}
use Rattle.troop_entry.specs.declared.call.Lang.{Lang}
use Rattle.troop_entry.specs.declared.note.Note.{Note}
use Rattle.block_queue.specs.declared.item.Item.{Item}
use Rattle.block_queue.specs.declared.item.Item.TheVariants as item
use Rattle.child_driver.specs.Drivers.{DriverValue, driver_lives, earlier_count, pipe_count}
use Rattle.child_driver.specs.Lives.{IsTold, IsRising, faulty_count}

-- these blocks, as items of the queue
abbrev pub block_items : List Block → List Item
block_items [] = []
block_items (b ∷ blocks) = item.Block b ∷ block_items blocks

-- a driver as its journal and its lives tell it: its language and boot text, the notes, how many children came before its lives and the bytes of these, where they are told,
-- its pipe count, and whether a standing life was closed
pub record ToldDriver : Type 0 where
  pub lang : Lang
  pub boot : List ℕ
  pub notes : List Note
  pub earlier : Option ℕ
  pub lives : Option (List (List ℕ))
  pub pipes : ℕ
  pub closed : Bool

-- what a driver tells, over any hatch
abbrev pub told_driver : {H C : Type 0} → (H → Option (List (List ℕ))) → (H → ℕ) → (C → Option (List ℕ)) → (C → ℕ) → DriverValue H C → ToldDriver
told_driver buried faults taken child_faults d = record {
  lang = d.lang;
  boot = d.boot;
  notes = d.notes;
  earlier = earlier_count buried taken d;
  lives = driver_lives buried taken d;
  pipes = pipe_count faults child_faults d;
  closed = d.closed;
}

-- the blocks led to the driver's lives and notes
abbrev pub IsToldOf : ToldDriver → List Block → Type 0
IsToldOf d blocks = IsTold d.lang d.boot blocks d.lives d.notes

-- the faults that the notes tell rose by at most what the pipe count rose, where that is below its last value, and so far it didn't fall
pub record IsBounded (before now : ToldDriver) : Type 0 where
  pub later : now.pipes < 2 ^ 64 - 1 → before.pipes ≤ now.pipes
  pub few : now.pipes < 2 ^ 64 - 1 → faulty_count now.notes + before.pipes ≤ faulty_count before.notes + now.pipes

-- the driver is the same: its language and its boot text, and where it is told, as many children came before its lives
pub record IsSameDriver (before now : ToldDriver) : Type 0 where
  pub lang : now.lang ≡ before.lang
  pub boot : now.boot ≡ before.boot
  pub earlier : IfSome now.earlier (λ n. Some n ≡ before.earlier)

-- the first of the blocks were fed to the same driver, and all of them unless memory was wanting, which left one at least: where their places rise they are told, and so many faults
-- at most are noted
pub record FedSome (starved : Bool) (blocks : List Block) (before now : ToldDriver) : Type 0 where
  pub fed : List Block
  pub first : Begins fed blocks
  pub all : starved ≡ false → fed ≡ blocks
  pub few : starved ≡ true → length fed < length blocks
  pub same : IsSameDriver before now
  pub told : IsRising fed → IsToldOf before [] → IsToldOf now fed
  pub bounded : IsBounded before now

-- all that the driver's activity did: it popped blocks and then the end, and fed the first of the blocks
pub record Drove (starved : Bool) (before now : List Item) (old new : ToldDriver) : Type 0 where
  pub blocks : List Block
  pub popped : now ≡ before ++ (block_items blocks ++ item.End ∷ [])
  pub fed : FedSome starved blocks old new
