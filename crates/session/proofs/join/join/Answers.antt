use Rattle.session.proofs.UpLine.{departed}
use Rattle.session.proofs.join.join.Goals as goal

pub returns-clause-session : goal.returns-clause-session
returns-clause-session g c =
    departed c.args.reader.now.limit c.args.seat.now c.enter-end.new.seat c.leave.new.seat c.args.name c.args.lang c.enter-end.result.1 c.in-Some.who c.leave.result c.enter-end.result.0 _
    c.in-Some.is c.enter-end.ensures.enters c.enter-end.ensures.hall.1.number c.leave.ensures.answered
