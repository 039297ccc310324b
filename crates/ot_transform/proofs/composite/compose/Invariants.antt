use Rattle.ot_transform.proofs.ComposedSoFar.{IsComposedSoFar}
use Rattle.ot_transform.proofs.composite.compose.Given as goal

abbrev pub invariant-loop-part : goal.invariant-loop-part
invariant-loop-part l = IsComposedSoFar l.part-items l.part-index l.a l.b l.composer
