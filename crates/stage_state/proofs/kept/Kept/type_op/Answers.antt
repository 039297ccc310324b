use Rattle.client_state.specs.Causes.{CanEdit}
use Rattle.stage_state.proofs.Keeps.{keeps_typed}
use Rattle.stage_state.proofs.kept.Kept.type_op.Goals as goal

pub returns-clause-keeps : goal.returns-clause-keeps
returns-clause-keeps c m h =
    let can : CanEdit c.self.inside.client c.args.op.now = rw (← c.self.view_is) at c.requires in
    rw (c.push_edit.ensures, c.in_ok-reserve.ensures.items, c.in_ok-sent.ensures.value, c.in_ok-sent.ensures.sent, c.taken-seen.ensures)
    (keeps_typed _ m _ can (rw (← c.self.view_is) at h))
