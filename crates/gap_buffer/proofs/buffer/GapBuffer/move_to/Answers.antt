use Rattle.std.proofs.Common.{◌-◌, length, ap, sym, ◌∙◌, arith, length-take}
use Rattle.gap_buffer.proofs.Paste.{take_past, drop_past}
use Rattle.gap_buffer.proofs.buffer.GapBuffer.move_to.Goals as goal

pub returns-else-place-start-clause-front : goal.returns-else-place-start-clause-front
returns-else-place-start-clause-front g c =
    let s = c.self.inside in
    c.move_on.ensures.front ∙ sym (take_past c.args.self.now.front c.args.self.now.behind c.args.place (c.args.place - s.start) (omega (arith, length-take s.start s.items.items, ap (λ v. length v.front) c.self.view_is)))

pub returns-else-place-start-clause-behind : goal.returns-else-place-start-clause-behind
returns-else-place-start-clause-behind g c =
    let s = c.self.inside in
    c.move_on.ensures.behind ∙ sym (drop_past c.args.self.now.front c.args.self.now.behind c.args.place (c.args.place - s.start) (omega (arith, length-take s.start s.items.items, ap (λ v. length v.front) c.self.view_is)))
