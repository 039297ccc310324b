use Rattle.std.proofs.Common.{ap, sym, ◌∙◌}
use Rattle.activities.specs.Lines.{coming}
use Rattle.activities.proofs.SentUp.{sent_kept}
use Rattle.activities.proofs.up.send_up.Goals as goal

pub returns-clause-done : goal.returns-clause-done
returns-clause-done g c =
    let sent = c.send_calls-end.ensures.sent in
    let m = c.halt_at.ensures.memory sent.k sent.remembers in
    record {
      u = c.send_calls-end.new.seat;
      sent = sent_kept _ _ _ _ _ _ _ _ _ _ sent c.close.ensures.remaining c.close.ensures.taken;
      k = m.0;
      remembers = m.1;
      same = m.2;
      number = c.send_calls-end.ensures.seat.1.number;
      later = c.halt_at.ensures.seat.2;
      halts = c.halt_at.ensures.own;
    }
