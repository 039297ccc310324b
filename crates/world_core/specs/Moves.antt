-- For private clauses: whose step it is, and who joins.
use Rattle.std.specs.Prelude.{◌≡◌, ◌⊎◌, ◌+◌, ℕ, List, [], length, false, Option, None, Some}
use Rattle.std.specs.Str.{encode_utf8_all}
use Rattle.troop_entry.specs.declared.call.Lang.{Lang}
use Rattle.troop_entry.specs.declared.row.Row.{Row}
use Rattle.log_model.specs.Log.{doc, join_count}
use Rattle.stage_state.specs.Staged.{Staged, new_stage, stage_at}
use Rattle.wire_json.specs.declared.steps.Step.{Step}
use Rattle.wire_json.specs.declared.steps.Step.TheVariants as step
use Rattle.pipe_ports.specs.Scripts.{ChildValue, HatchValue}
use Rattle.child_driver.specs.Drivers.{DriverValue}
use Rattle.world_core.specs.declared.performer.Performer.{Performer}

-- the performer that takes the step by itself, if one does
abbrev pub alone_by : Step → Option ℕ
alone_by (step.Edit who op) = Some who
alone_by (step.Eval who place) = Some who
alone_by (step.Reset who text) = Some who
alone_by (step.Feed who bytes) = Some who
alone_by (step.Deaf who starts) = Some who
alone_by (step.Leave who) = Some who
alone_by _ = None

-- a driver of this language and this boot text that was fed nothing, over a hatch that started nothing
abbrev pub new_driver : Lang → List ℕ → DriverValue HatchValue ChildValue
new_driver lang boot = record {
  lang = lang;
  boot = boot;
  hatch = record { refusals = 0; limit = None; past = []; graves = 0; readiness = None; faults = 0 };
  life = None;
  notes = [];
  closed = false;
}

-- a performer of this name whose interpreter was fed nothing, and gets the boot text in UTF-8
pub record IsNew (name : List ℕ) (lang : Lang) (boot : List ℕ) (p : Performer) : Type 0 where
  pub name_is : p.name ≡ name
  pub waiting_is : p.waiting ≡ []
  pub driver_is : p.driver ≡ new_driver lang (encode_utf8_all boot)

-- a stage of the next performer, whose join is the next row, before its first act: it starts at the empty log, or behind the join
abbrev pub StartsAt : List Row → Staged → Type 0
StartsAt log s = (s ≡ new_stage (join_count log + 1) (length log)) ⊎ (s ≡ stage_at (join_count log + 1) (length log) (doc log))
