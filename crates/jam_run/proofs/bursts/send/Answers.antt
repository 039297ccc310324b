use Rattle.std.proofs.Common.{sym, ap, ◌∙◌, subst}
use Rattle.troop_entry.specs.declared.reply.Reply.{Reply}
use Rattle.stage_state.specs.declared.act.Next.{Next}
use Rattle.stage_state.specs.Staged.{stage_after_next}
use Rattle.troop_hall.specs.Seats.{IsAnswered}
use Rattle.jam_run.proofs.IsPlaying.{call_made}
use Rattle.jam_run.proofs.bursts.send.Goals as goal

pub returns-in-Placed-clause-sent : goal.returns-in-Placed-clause-sent
returns-in-Placed-clause-sent g c = λ seed sent owed n steps h.
    let p = c.args.player.now in
    call_made seed steps sent owed p.who p.seat c.call.new.seat p.stage.staged c.next.new.self.staged n c.in-Send.num c.in-Placed.at c.in-Placed.who c.in-Send.call
    (c.in_ok-num.ensures.acts ∙ ap (λ (x : Next). stage_after_next 0 x p.stage.staged) c.in-Send.is) (sym c.in_ok-num.ensures.answer ∙ c.in-Send.is)
    (subst (λ (r : Reply). IsAnswered (record { who = p.who; num = c.in-Send.num; call = c.in-Send.call }) p.seat r c.call.new.seat) c.in-Placed.is c.in_ok-call.ensures.ok)
    c.call.ensures.hall.1.seen h
