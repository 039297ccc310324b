use Rattle.std.proofs.Common.{ap}
use Rattle.session.specs.Ends.{stream}
use Rattle.session.proofs.HasTalked.{attended, cut_short}
use Rattle.session.proofs.attend.attend.Goals as goal

pub returns-in-Ok-clause-talk : goal.returns-in-Ok-clause-talk
returns-in-Ok-clause-talk g c = attended _ _ _ _ _ _ _ _ _ _ _ _ _ _ (ap (λ o. stream c.args.reader.now o) c.send.ensures.remaining) c.in-Ok.ensures.bytes c.converse.ensures.talk

pub returns-in-Err-clause-talk : goal.returns-in-Err-clause-talk
returns-in-Err-clause-talk g c = cut_short _ _ _ _ _ _ _ _ _ _ _ c.in-Err.ensures.bytes (ap (λ o. stream c.args.reader.now o) c.send.ensures.remaining)
