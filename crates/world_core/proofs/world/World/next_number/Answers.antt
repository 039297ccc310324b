use Rattle.std.proofs.Common.{arith}
use Rattle.log_model.proofs.IsMember.{numbered}
use Rattle.world_core.proofs.world.World.next_number.Goals as goal

pub overflow_cast-result : goal.overflow_cast-result
overflow_cast-result c = omega (arith, c.joins.ensures, (numbered c.self.inside.desk c.self.invariant.agree.legal).few)

pub overflow_add-result : goal.overflow_add-result
overflow_add-result c = omega (arith, c.joins.ensures, (numbered c.self.inside.desk c.self.invariant.agree.legal).few)
