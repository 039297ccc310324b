use Rattle.std.proofs.Common.{ℕ, List, [], ◌∷◌, ◌++◌, length, refl, sym, subst, ap, ◌∙◌, arith}
use Rattle.stage_state.specs.declared.act.Act.{Act}
use Rattle.stage_state.specs.declared.act.Act.TheVariants as act
use Rattle.stage_state.specs.Machine.{next_of, IsSend}
use Rattle.stage_state.specs.Staged.{StageValue, machine}
use Rattle.stage_state.proofs.IsStage.{act_kept, few_sent}
use Rattle.stage_state.proofs.stage.Stage.send_at.Goals as goal

pub send-requires : goal.send-requires
send-requires c = omega (arith, few_sent _ _ _ c.self.invariant, c.len-placed.ensures.short, c.len-placed.ensures.value, ap length c.in_ok-reserve.ensures.acts)

pub invariant_of-self-2 : goal.invariant_of-self-2
invariant_of-self-2 c =
    act_kept c.args.seat act.Next _ _ _ _ _ _ _ _ _ c.self.invariant (subst (λ (v : StageValue). IsSend (next_of (machine v.staged))) (sym c.self.view_is) c.requires) refl
    (c.send.ensures.keeps _ c.self.invariant.keeps) (c.push.ensures.acts ∙ ap (λ (acts : List (ℕ × Act)). acts ++ (c.args.seat, act.Next) ∷ []) c.in_ok-reserve.ensures.acts)
    c.send.ensures.marks c.last_acts.ensures c.in_ok-reserve.ensures.ok c.push.ensures.room

pub returns-clause-played : goal.returns-clause-played
returns-clause-played c =
    (act_kept c.args.seat act.Next _ _ _ _ _ _ _ _ _ c.self.invariant (subst (λ (v : StageValue). IsSend (next_of (machine v.staged))) (sym c.self.view_is) c.requires) refl
    (c.send.ensures.keeps _ c.self.invariant.keeps) (c.push.ensures.acts ∙ ap (λ (acts : List (ℕ × Act)). acts ++ (c.args.seat, act.Next) ∷ []) c.in_ok-reserve.ensures.acts)
    c.send.ensures.marks c.last_acts.ensures c.in_ok-reserve.ensures.ok c.push.ensures.room).played
