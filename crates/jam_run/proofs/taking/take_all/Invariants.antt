use Rattle.std.proofs.Common.{drop}
use Rattle.stage_state.specs.Staged.{Staged}
use Rattle.jam_run.specs.Taking.{TakesAll}
use Rattle.jam_run.proofs.taking.take_all.Given as goal

-- where the entries that are left lead, all lead
abbrev pub invariant-loop-entry : goal.invariant-loop-entry
invariant-loop-entry l = (t : Staged) → TakesAll (drop l.entry-index l.entries) l.stage.staged t → TakesAll l.entries l.initial.stage.staged t
