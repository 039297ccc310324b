use Rattle.std.proofs.Common.{◌≡◌, ◌+◌, false, length, ap, ◌∙◌}
use Rattle.std.specs.Prelude.{◌==◌}
use Rattle.log_model.specs.Answers.{most_joins}
use Rattle.log_model.specs.Log.{join_count}
use Rattle.stage_state.specs.Staged.{StageValue, new_stage}
use Rattle.world_core.specs.Values.{WorldValue}
use Rattle.world_core.proofs.IsFedDriver.{ok_both}
use Rattle.world_core.proofs.WorldAfter.{join_state, crowd_false}
use Rattle.world_core.proofs.world.World.join.Goals as goal

pub returns-clause-state : goal.returns-clause-state
returns-clause-state c =
    let room : (join_count c.args.self.now.log == most_joins) ≡ false = crowd_false c.joins.result (join_count c.args.self.now.log) (c.joins.ensures ∙ ap (λ (w : WorldValue). join_count w.log) c.self.view_is) c.if-joins-eq-MOST_JOINS.false in
    let staged = ap (λ (s : StageValue). s.staged) (c.in_ok-new_performer.ensures.1 ∙ c.in_ok-stage.ensures.value)
    ∙ ap (λ n. new_stage n c.length.result) c.next_number-who.ensures
    ∙ ap (new_stage (join_count c.args.self.now.log + 1)) (c.length.ensures ∙ ap (λ (w : WorldValue). length w.log) c.self.view_is) in
    ok_both c.admit.result
    (λ log grown. join_state c.args.self.now c.admit.new.self c.args.name.now c.args.lang c.args.boot.now c.in_ok-new_performer.field-0 room log grown c.in_ok-new_performer.ensures.2 staged)
    c.admit.ensures.log c.admit.ensures.performers
