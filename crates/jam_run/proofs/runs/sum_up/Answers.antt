use Rattle.std.proofs.Common.{◌∙◌}
use Rattle.troop_hall.proofs.IfOk.{if_ok}
use Rattle.jam_run.proofs.IsJam.{summed_up}
use Rattle.jam_run.proofs.runs.sum_up.Goals as goal

pub returns : goal.returns
returns c =
    if_ok c.print_jam.result _ _ (λ line is. λ seed jam.
    is ∙ summed_up c.args.performers c.args.calls seed c.length.result c.is_equal.result c.args.jammed.now.desk c.args.jammed.now.stages.items c.length.ensures c.is_equal.ensures.1 jam)
    c.print_jam.ensures
