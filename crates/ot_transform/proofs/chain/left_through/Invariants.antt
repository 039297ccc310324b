use Rattle.ot_transform.proofs.Through.{IsThroughSoFar}
use Rattle.ot_transform.proofs.chain.left_through.Given as goal

abbrev pub invariant-loop-b : goal.invariant-loop-b
invariant-loop-b l = IsThroughSoFar l.bs l.b-index l.op l.a
