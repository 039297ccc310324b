use Rattle.wire_print.proofs.ReadWithin.{reply_within}
use Rattle.wire_print.proofs.laws.read_within_law.Goals as goal

pub returns : goal.returns
returns c = reply_within
