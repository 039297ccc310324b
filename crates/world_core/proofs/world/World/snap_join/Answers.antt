use Rattle.std.proofs.Common.{◌≡◌, ◌+◌, false, length, sym, ap, ◌∙◌}
use Rattle.std.specs.Prelude.{◌==◌}
use Rattle.log_model.specs.Answers.{most_joins}
use Rattle.log_model.specs.Log.{doc, join_count}
use Rattle.stage_state.specs.Staged.{StageValue, stage_at}
use Rattle.world_core.specs.Values.{WorldValue}
use Rattle.world_core.proofs.IsFedDriver.{if_ok_then, ok_both}
use Rattle.world_core.proofs.WorldAfter.{crowd_false, joins_done, snap_state}
use Rattle.world_core.proofs.world.World.snap_join.Goals as goal

pub returns-clause-told : goal.returns-clause-told
returns-clause-told c =
    let room : (join_count c.args.self.now.log == most_joins) ≡ false = crowd_false c.joins.result (join_count c.args.self.now.log) (c.joins.ensures ∙ ap (λ (w : WorldValue). join_count w.log) c.self.view_is) c.if-joins-eq-MOST_JOINS.false in
    if_ok_then c.admit.result (λ t is. is ∙ sym (joins_done c.args.self.now.log c.args.name.now c.args.lang room)) c.admit.ensures.told

pub returns-clause-state : goal.returns-clause-state
returns-clause-state c =
    let room : (join_count c.args.self.now.log == most_joins) ≡ false = crowd_false c.joins.result (join_count c.args.self.now.log) (c.joins.ensures ∙ ap (λ (w : WorldValue). join_count w.log) c.self.view_is) c.if-joins-eq-MOST_JOINS.false in
    let staged = ap (λ (s : StageValue). s.staged) (c.in_ok-new_performer.ensures.1 ∙ c.in_ok-stage.ensures.value)
    ∙ ap (λ n. stage_at n c.length-joined.result c.in_ok-try_clone.field-0.pairs) c.next_number-who.ensures
    ∙ ap (λ n. stage_at (join_count c.args.self.now.log + 1) n c.in_ok-try_clone.field-0.pairs) (c.length-joined.ensures ∙ ap (λ (w : WorldValue). length w.log) c.self.view_is)
    ∙ ap (stage_at (join_count c.args.self.now.log + 1) (length c.args.self.now.log)) (c.in_ok-try_clone.ensures ∙ c.doc.ensures ∙ ap (λ (w : WorldValue). doc w.log) c.self.view_is) in
    ok_both c.admit.result
    (λ log grown. snap_state c.args.self.now c.admit.new.self c.args.name.now c.args.lang c.args.boot.now c.in_ok-new_performer.field-0 room log grown c.in_ok-new_performer.ensures.2 staged)
    c.admit.ensures.log c.admit.ensures.performers
