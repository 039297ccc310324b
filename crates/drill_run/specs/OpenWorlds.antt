-- What a drill's worlds keep, once its three performers are here.
use Rattle.std.specs.Prelude.{◌≡◌, false, All}
use Rattle.troop_entry.specs.declared.call.Call.{Call}
use Rattle.troop_entry.specs.declared.row.Row.{Row}
use Rattle.troop_entry.specs.Kinds.{is_leave}
use Rattle.stage_state.specs.Machine.{Machine}
use Rattle.stage_state.specs.Staged.{machine}
use Rattle.world_core.specs.States.{PerformerState, WorldState}
use Rattle.drill_run.specs.Script.{numbers_of, script_numbers}

-- the call is no leave
abbrev pub IsNoLeave : Call → Type 0
IsNoLeave c = is_leave c ≡ false

-- a machine was neither finished nor halted, its performer isn't gone, and no leave is to go out
pub record IsOpen (m : Machine) : Type 0 where
  pub not_finishing : m.finishing ≡ false
  pub not_halted : m.halted ≡ false
  pub not_gone : m.gone ≡ false
  pub no_leaves : All IsNoLeave m.outgoing

-- the world's performers are all three, each is open, and no row is a leave
pub record IsOpenWorld (w : WorldState) : Type 0 where
  pub numbers_are : numbers_of w ≡ script_numbers
  pub open_are : All (λ (p : PerformerState). IsOpen (machine p.staged)) w.performers
  pub rows_stay : All (λ (row : Row). IsNoLeave row.call) w.log
