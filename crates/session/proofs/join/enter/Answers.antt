use Rattle.std.proofs.Common.{ap}
use Rattle.session.specs.Ends.{stream}
use Rattle.session.proofs.UpLine.{turned_away, entered}
use Rattle.session.proofs.join.enter.Goals as goal

pub returns-in_default-reply-clause-enters : goal.returns-in_default-reply-clause-enters
returns-in_default-reply-clause-enters g c =
    turned_away c.args.reader.now.limit c.args.over c.args.seat.now c.admit.new.seat c.args.name c.args.lang c.in-Ok.reply c.send_off-end.result _ c.in-Ok.ensures.ok c.in_default-reply.not-Placed c.send_off-end.ensures.bytes
    (ap (λ o. stream c.args.reader.now o) c.send_off-end.ensures.remaining)

pub returns-clause-enters : goal.returns-clause-enters
returns-clause-enters g c =
    entered c.args.reader.now.limit c.args.over c.args.seat.now c.admit.new.seat c.attend-end.new.seat c.args.name c.args.lang c.in-Placed.at c.in-Placed.who c.attend-end.result _
    (rw c.in-Placed.is at c.in-Ok.ensures.ok) c.in-Ok.ensures.hall.1.number c.attend-end.ensures.talk
