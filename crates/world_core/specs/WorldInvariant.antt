-- For private clauses and invariants: what a world keeps.
use Rattle.std.specs.Prelude.{◌≡◌, ◌⊎◌, ℕ, List, ◌++◌, false, true, Option, None, Some, map, slice_get, length}
use Rattle.troop_entry.specs.declared.block.Block.{Block}
use Rattle.troop_entry.specs.declared.row.Row.{Row}
use Rattle.troop_entry.specs.declared.entry.Entry.{Entry}
use Rattle.stage_state.specs.declared.act.Act.{Act}
use Rattle.stage_state.specs.declared.act.Act.TheVariants as act
use Rattle.world_core.specs.Steps.{next_entry}
use Rattle.stage_state.specs.Machine.{CanAct, taken_count}
use Rattle.stage_state.specs.Staged.{Staged, machine, with_act}
use Rattle.pipe_ports.specs.Scripts.{ChildValue, HatchValue}
use Rattle.child_driver.specs.Drivers.{births, DriverValue}
use Rattle.child_driver.specs.Lives.{IsTold, IsRising, AreBelow}
use Rattle.agreement.specs.Stages.{StagesAgree, is_local}
use Rattle.world_core.specs.declared.performer.Performer.{Performer}
use Rattle.world_core.specs.States.{blocks_taken, blocks_fed, last_row}
use Rattle.world_core.specs.Values.{interpreter_of, performer_state, CountsFaults}

-- a driver's own part of a sound world, where it was fed these blocks: it was never closed and buried no other driver's lives; the blocks led to
-- its lives and its journal; and its pipe counted the faults
pub record IsFedDriver (blocks : List Block) (d : DriverValue HatchValue ChildValue) : Type 0 where
  pub open_is : d.closed ≡ false
  pub none_earlier : length (interpreter_of d).lives ≡ births d.notes
  pub told : IsTold d.lang d.boot blocks (Some (interpreter_of d).lives) d.notes
  pub counted : CountsFaults d

-- the same, and the next life isn't limited yet
pub record IsKeptDriver (blocks : List Block) (d : DriverValue HatchValue ChildValue) : Type 0 where
  pub fed : IsFedDriver blocks d
  pub next_is : d.hatch.limit ≡ None

-- a performer's own part of a sound world: its number; its driver's part; and its blocks, which are those fed and those that wait, stand in the order
-- of their positions, which are those of entries taken
pub record IsKeptPerformer (p : Performer) : Type 0 where
  pub number_is : p.who ≡ p.stage.staged.own
  pub driver_is : IsKeptDriver (blocks_fed (performer_state p)) p.driver
  pub blocks_are : blocks_fed (performer_state p) ++ p.waiting ≡ blocks_taken (machine p.stage.staged)
  pub rising : IsRising (blocks_taken (machine p.stage.staged))
  pub below : AreBelow (taken_count (machine p.stage.staged)) (blocks_taken (machine p.stage.staged))

-- the stages of these performers
abbrev pub stages_of : List Performer → List Staged
stages_of performers = map (λ (p : Performer). p.stage.staged) performers

-- a world: the stages agree with the log, each performer is kept, and the position of each one's last row is known
pub record IsWorld (log : List Row) (performers : List Performer) (last_rows : List (Option ℕ)) : Type 0 where
  pub agree : StagesAgree log (stages_of performers)
  pub kept : (i : ℕ) (p : Performer) → slice_get performers i ≡ Some p → IsKeptPerformer p
  pub last_are : last_rows ≡ map (λ (p : Performer). last_row log p.stage.staged) performers

-- the stage is what it was, or has one act more by which nothing is taken and nothing goes out
abbrev pub ActsOn : Staged → Staged → Type 0
ActsOn s t = (t ≡ s) ⊎ ((a : Act) × (is_local a ≡ true) × CanAct (machine s) a × (t ≡ with_act 0 a s))

-- the stage is what it was, or took the next entry of the log
abbrev pub TakesOn : List Row → Staged → Staged → Type 0
TakesOn log s t = (t ≡ s) ⊎ ((e : Entry) × (next_entry log (machine s) ≡ Some e) × (t ≡ with_act 0 (act.Take e) s))
