use Rattle.troop_entry.proofs.SameCall.{call_decides}
use Rattle.troop_entry.proofs.laws.same_call_law.Goals as goal

pub returns : goal.returns
returns c = call_decides
