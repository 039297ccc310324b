-- What one step of a walk over two operations does in each of them, moved through the other.
use Rattle.std.specs.Prelude.{◌+◌, ◌≤◌, length}
use Rattle.ot_text.specs.declared.op.TheConstants.{MAX_LEN}
use Rattle.ot_text.specs.Change.{Change, base, target, nothing, insert_then, retain_then, delete_then}
use Rattle.ot_transform.specs.declared.step.Step.{Step}
use Rattle.ot_transform.specs.declared.step.Step.TheVariants.{First, Second, Keep, FirstDeletes, SecondDeletes, BothDelete}

-- what the step does in the first operation, moved through the second
abbrev pub left_step : Step → Change
left_step (First t) = insert_then t.now nothing
left_step (Second t) = retain_then (length t.now) nothing
left_step (Keep n) = retain_then n nothing
left_step (FirstDeletes n) = delete_then n nothing
left_step (SecondDeletes n) = nothing
left_step (BothDelete n) = nothing

-- what the step does in the second operation, moved through the first
abbrev pub right_step : Step → Change
right_step (First t) = retain_then (length t.now) nothing
right_step (Second t) = insert_then t.now nothing
right_step (Keep n) = retain_then n nothing
right_step (FirstDeletes n) = nothing
right_step (SecondDeletes n) = delete_then n nothing
right_step (BothDelete n) = nothing

-- there is room for what the step does behind what is made
pub record StepFits (made step : Change) : Type 0 where
  pub of_base : base made + base step ≤ MAX_LEN
  pub of_target : target made + target step ≤ MAX_LEN
