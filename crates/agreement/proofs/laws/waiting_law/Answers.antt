use Rattle.agreement.proofs.Waiting.{one_waits, one_ahead, not_both, call_awaited, row_awaited, waiting_rises, nothing_behind_leave}
use Rattle.agreement.proofs.laws.waiting_law.Goals as goal

pub returns-clause-one_waits : goal.returns-clause-one_waits
returns-clause-one_waits c = one_waits

pub returns-clause-one_ahead : goal.returns-clause-one_ahead
returns-clause-one_ahead c = one_ahead

pub returns-clause-not_both : goal.returns-clause-not_both
returns-clause-not_both c = not_both

pub returns-clause-call_awaited : goal.returns-clause-call_awaited
returns-clause-call_awaited c = call_awaited

pub returns-clause-row_awaited : goal.returns-clause-row_awaited
returns-clause-row_awaited c = row_awaited

pub returns-clause-rises : goal.returns-clause-rises
returns-clause-rises c = waiting_rises

pub returns-clause-leave : goal.returns-clause-leave
returns-clause-leave c = nothing_behind_leave
