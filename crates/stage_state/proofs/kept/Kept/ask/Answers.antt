use Rattle.stage_state.proofs.Keeps.{keeps_asked}
use Rattle.stage_state.proofs.kept.Kept.ask.Goals as goal

pub returns-clause-keeps : goal.returns-clause-keeps
returns-clause-keeps c m h =
    rw (c.push_back_reserved.ensures.items, c.in_ok-reserve.ensures.items) (keeps_asked _ m _ (rw (← c.self.view_is) at h))
