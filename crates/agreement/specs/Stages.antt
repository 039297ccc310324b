-- A log and all the stages over it.
use Rattle.std.specs.Prelude.{◌≡◌, ℕ, Bool, true, false, None, Some, List, slice_get}
use Rattle.troop_entry.specs.declared.row.Row.{Row}
use Rattle.log_model.specs.Legal.{IsLegal}
use Rattle.stage_state.specs.declared.act.Act.{Act}
use Rattle.stage_state.specs.declared.act.Act.TheVariants as act
use Rattle.stage_state.specs.Staged.{Staged, IsStagePlayed}
use Rattle.agreement.specs.Aligned.{IsAligned}

-- the log is legal, with nothing in a lane; each stage's acts were placed, and the stage is aligned with the log; and no two stages have one
-- performer's number
pub record StagesAgree (log : List Row) (stages : List Staged) : Type 0 where
  pub legal : IsLegal log
  pub played : (i : ℕ) (s : Staged) → slice_get stages i ≡ Some s → IsStagePlayed s
  pub aligned : (i : ℕ) (s : Staged) → slice_get stages i ≡ Some s → IsAligned log s None
  pub apart : (i j : ℕ) (s r : Staged) → slice_get stages i ≡ Some s → slice_get stages j ≡ Some r → s.own ≡ r.own → i ≡ j

-- whether it is an act by which nothing is taken and nothing goes out
abbrev pub is_local : Act → Bool
is_local (act.Typed op) = true
is_local (act.Eval place) = true
is_local (act.Reset text) = true
is_local (act.Take e) = false
is_local act.Next = false
is_local act.Finish = true
is_local act.Halt = true
