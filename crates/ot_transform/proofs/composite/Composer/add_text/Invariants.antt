use Rattle.std.proofs.Common.{◌-◌, length}
use Rattle.ot_transform.proofs.ComposedSoFar.{IsTextSoFar}
use Rattle.ot_transform.proofs.composite.Composer.add_text.Given as goal

abbrev pub invariant-loop-at : goal.invariant-loop-at
invariant-loop-at l = IsTextSoFar l.chars l.at l.fn.self l.self

abbrev pub decreases-loop-at : goal.decreases-loop-at
decreases-loop-at l = length l.chars - l.at
