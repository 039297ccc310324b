use Rattle.client_state.specs.Causes.{CanTake}
use Rattle.stage_state.proofs.Keeps.{keeps_taken}
use Rattle.stage_state.proofs.kept.Kept.take.Goals as goal

pub returns-clause-keeps : goal.returns-clause-keeps
returns-clause-keeps c m h =
    let can : CanTake c.self.inside.client c.args.entry.now = rw (← c.self.view_is) at c.requires.fits in
    rw (c.is_leave_of-self-inside.ensures, c.own.ensures, c.push_edit.ensures, c.in_ok-reserve.ensures.items, c.taken.ensures, c.in_ok-sent.ensures.value, c.in_ok-sent.ensures.sent)
    (keeps_taken _ m _ can (rw (← c.self.view_is) at c.requires.stays) (rw (← c.self.view_is) at h))
