use Rattle.std.proofs.Common.{ℕ, List, [], ◌∷◌, ◌++◌, ap, ◌∙◌}
use Rattle.stage_state.specs.declared.act.Act.{Act}
use Rattle.stage_state.proofs.IsStage.{act_kept}
use Rattle.stage_state.proofs.stage.Stage.ask.Goals as goal

pub invariant_of-self-2 : goal.invariant_of-self-2
invariant_of-self-2 c =
    act_kept c.args.seat c.args.act _ _ _ _ _ _ _ _ _ c.self.invariant (rw (← c.self.view_is) at c.requires.can) (rw (← c.self.view_is) at c.requires.asks)
    (c.in_ok-ask.ensures.keeps _ c.self.invariant.keeps) (c.push.ensures.acts ∙ ap (λ (acts : List (ℕ × Act)). acts ++ (c.args.seat, c.args.act) ∷ []) c.in_ok-reserve.ensures.acts)
    c.in_ok-ask.ensures.marks c.last_acts.ensures c.in_ok-reserve.ensures.ok c.push.ensures.room

pub returns-clause-played : goal.returns-clause-played
returns-clause-played c =
    (act_kept c.args.seat c.args.act _ _ _ _ _ _ _ _ _ c.self.invariant (rw (← c.self.view_is) at c.requires.can) (rw (← c.self.view_is) at c.requires.asks)
    (c.in_ok-ask.ensures.keeps _ c.self.invariant.keeps) (c.push.ensures.acts ∙ ap (λ (acts : List (ℕ × Act)). acts ++ (c.args.seat, c.args.act) ∷ []) c.in_ok-reserve.ensures.acts)
    c.in_ok-ask.ensures.marks c.last_acts.ensures c.in_ok-reserve.ensures.ok c.push.ensures.room).played
