use Rattle.std.proofs.Common.{rules}
use Rattle.std.proofs.lemmas.Slice.{overwrites}
use Rattle.gap_buffer.proofs.buffer.GapBuffer.put_front.Goals as goal

pub returns-clause-behind : goal.returns-clause-behind
returns-clause-behind g c = search (rules, overwrites)
