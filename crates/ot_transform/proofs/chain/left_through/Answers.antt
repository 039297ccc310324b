use Rattle.std.proofs.Common.{arith}
use Rattle.ot_transform.proofs.Through.{moved_on}
use Rattle.ot_transform.proofs.chain.left_through.Goals as goal

pub loop-b-preserved : goal.loop-b-preserved
loop-b-preserved c =
    rw c.in_ok-op-2.ensures (moved_on _ c.loop-b.b-index c.b-item.result _ _ (omega arith) c.b-item.is c.loop-b.invariant)
