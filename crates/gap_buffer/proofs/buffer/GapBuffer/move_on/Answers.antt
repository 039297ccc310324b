use Rattle.std.proofs.Common.{length, ap, arith, length-drop}
use Rattle.gap_buffer.proofs.Paste.{moved_on}
use Rattle.gap_buffer.proofs.buffer.GapBuffer.move_on.Goals as goal

pub returns-clause-behind : goal.returns-clause-behind
returns-clause-behind g c =
    let s = c.self.inside in
    rw (c.copy_within.ensures.items, ← c.self.view_is)
    (moved_on s.items.items s.start s.end c.args.count c.self.invariant.0 (omega (arith, length-drop s.end s.items.items, ap (λ v. length v.behind) c.self.view_is)))
