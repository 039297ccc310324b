use Rattle.std.proofs.Common.{length, ap, ◌∙◌}
use Rattle.jam_run.proofs.IsPlaying.{edit_made}
use Rattle.jam_run.proofs.bursts.type_edit.Goals as goal

pub returns-in-Ok : goal.returns-in-Ok
returns-in-Ok c = λ seed sent k who steps seen own h none.
    edit_made seed steps sent k who seen own c.args.stage.now.staged c.type_op.new.self.staged c.args.draws.now c.edit.new.self c.len-length.result c.in_ok-op.op
    (c.len-length.ensures.value ∙ ap length c.doc.ensures) c.in_ok-op.ensures.drawn c.in_ok-op.ensures.number c.in-Ok.ensures.ok c.in-Ok.ensures.placed h none
