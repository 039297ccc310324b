use Rattle.std.proofs.Common.{◌-◌, length, ap, arith, length-take}
use Rattle.gap_buffer.proofs.Paste.{moved_back}
use Rattle.gap_buffer.proofs.buffer.GapBuffer.move_back.Goals as goal

pub returns-clause-behind : goal.returns-clause-behind
returns-clause-behind g c =
    let s = c.self.inside in
    rw (c.copy_within.ensures.items, ← c.self.view_is)
    (moved_back s.items.items c.args.place s.start s.end (s.end - (s.start - c.args.place)) (omega (arith, length-take s.start s.items.items, ap (λ v. length v.front) c.self.view_is)) c.self.invariant.0 c.self.invariant.1 (omega arith))
