use Rattle.std.proofs.Common.{ap, sym, ◌∙◌}
use Rattle.log_model.specs.Log.{is_join_by}
use Rattle.session.specs.Ends.{stream}
use Rattle.session.proofs.PositionFrom.{none_at_all}
use Rattle.session.proofs.IsJoinAt.{join_found}
use Rattle.session.proofs.UpLine.{came_back, strange}
use Rattle.session.proofs.up.back.Goals as goal

pub returns-in_default-clause-session : goal.returns-in_default-clause-session
returns-in_default-clause-session g c =
    strange c.args.reader.now.limit c.args.who c.args.seat.now c.join_of.new.seat c.send_off.result _ c.join_of.ensures.hall.1 c.join_of.ensures.own
    (none_at_all (is_join_by c.args.who) 0 c.join_of.new.seat.seen (sym c.join_of.ensures.join ∙ c.in_default.is)) c.send_off.ensures.bytes (ap (λ o. stream c.args.reader.now o) c.send_off.ensures.remaining)

pub returns-clause-session : goal.returns-clause-session
returns-clause-session g c =
    came_back c.args.reader.now.limit c.args.who c.in-Some.at c.args.seat.now c.join_of.new.seat c.attend.new.seat c.attend.result _ c.join_of.ensures.hall.1 c.join_of.ensures.own
    (join_found c.args.who c.in-Some.at c.join_of.new.seat.seen (sym c.join_of.ensures.join ∙ c.in-Some.is)) c.attend.ensures.talk
