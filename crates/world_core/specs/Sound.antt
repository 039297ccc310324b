-- Sound worlds.
use Rattle.std.specs.Prelude.{◌≡◌, ◌≤◌, ℕ, List, ◌++◌, None, Some, slice_get}
use Rattle.troop_entry.specs.declared.row.Row.{Row}
use Rattle.log_model.specs.Legal.{IsLegal}
use Rattle.stage_state.specs.Staged.{machine}
use Rattle.child_driver.specs.Lives.{IsTold, faulty_count}
use Rattle.agreement.specs.Agreement.{Agrees}
use Rattle.world_core.specs.States.{PerformerState, WorldState, blocks_taken, blocks_fed}

-- a performer is sound over a log: its stage agrees with the log, with nothing in its lane; the blocks that its interpreter was fed, and then
-- those that wait, are the blocks that its stage was told of; the blocks fed led to its lives and its journal; and its journal
-- tells of no more faults than its pipe met
pub record IsSoundPerformer (log : List Row) (p : PerformerState) : Type 0 where
  pub agrees : Agrees log (machine p.staged) None
  pub blocks_are : blocks_fed p ++ p.waiting ≡ blocks_taken (machine p.staged)
  pub told : IsTold p.interpreter.lang p.interpreter.boot (blocks_fed p) (Some p.interpreter.lives) p.interpreter.notes
  pub faults_are : faulty_count p.interpreter.notes ≤ p.interpreter.faults

-- a world is sound: its log is legal, and each performer is sound over it
pub record IsSoundWorld (w : WorldState) : Type 0 where
  pub legal : IsLegal w.log
  pub performers_are : (i : ℕ) (p : PerformerState) → slice_get w.performers i ≡ Some p → IsSoundPerformer w.log p
