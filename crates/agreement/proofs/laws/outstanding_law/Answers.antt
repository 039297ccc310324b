use Rattle.agreement.proofs.IsAccountedFor.{unserved_point, served_point, none_point}
use Rattle.agreement.specs.Agreement.{waiting_calls, edits_among, lane_call}
use Rattle.stage_state.specs.Machine.{taken_count}
use Rattle.client_state.specs.Pending.{outstanding}
use Rattle.agreement.proofs.laws.outstanding_law.Goals as goal

pub returns-clause-unserved : goal.returns-clause-unserved
returns-clause-unserved c = λ log m lane seen op es h is. unserved_point log m.own (taken_count m) seen op (outstanding m.pending) (edits_among (waiting_calls (lane_call lane) m)) es is h.accounted

pub returns-clause-served : goal.returns-clause-served
returns-clause-served c = λ log m lane u h is none. served_point log m.own (taken_count m) u (outstanding m.pending) (edits_among (waiting_calls (lane_call lane) m)) is none h.accounted

pub returns-clause-none : goal.returns-clause-none
returns-clause-none c = λ log m lane h is. none_point log m.own (taken_count m) (outstanding m.pending) (edits_among (waiting_calls (lane_call lane) m)) is h.accounted
