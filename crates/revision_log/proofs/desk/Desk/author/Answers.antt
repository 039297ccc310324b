use Rattle.std.proofs.Common.{arith}
use Rattle.revision_log.proofs.IsDesk.{few_joined}
use Rattle.revision_log.proofs.desk.Desk.author.Goals as goal

pub overflow_cast-result : goal.overflow_cast-result
overflow_cast-result c =
    let few = few_joined c.self.inside.rows.items c.self.inside.departed.items c.self.invariant.0.legal c.self.invariant.0.members in omega (arith, few, c.self.inside.departed.ok.0)

pub overflow_add-result : goal.overflow_add-result
overflow_add-result c =
    let few = few_joined c.self.inside.rows.items c.self.inside.departed.items c.self.invariant.0.legal c.self.invariant.0.members in omega (arith, few, c.self.inside.departed.ok.0)
