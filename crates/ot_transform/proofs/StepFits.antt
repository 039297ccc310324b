-- How long one step makes an operation.
use Rattle.ot_text.proofs.Then.{then-nothing, base-retain_then, base-delete_then, target-retain_then}

-- what one step adds to base and target, and that nothing adds nothing
pub ruleset step_lengths = (then-nothing, base-retain_then, base-delete_then, target-retain_then)
