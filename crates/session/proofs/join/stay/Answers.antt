use Rattle.session.proofs.UpLine.{stays_on}
use Rattle.session.proofs.join.stay.Goals as goal

pub returns-clause-session : goal.returns-clause-session
returns-clause-session g c =
    stays_on c.args.reader.now.limit c.args.seat.now c.enter-end.new.seat c.args.name c.args.lang c.enter-end.result.1 c.enter-end.result.0 _ c.enter-end.ensures.enters
