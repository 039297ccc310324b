use Rattle.std.proofs.Common.{◌-◌, length, sym, ap, ◌∙◌, arith}
use Rattle.ot_text.specs.Marked.{Marked}
use Rattle.stage_state.specs.Machine.{held_text}
use Rattle.stage_state.specs.Staged.{machine}
use Rattle.world_core.specs.declared.performer.Performer.{Performer}
use Rattle.drill_run.proofs.DrawnLine.{held_by}
use Rattle.drill_run.proofs.script.held_length.Goals as goal

pub returns-clause-value : goal.returns-clause-value
returns-clause-value c =
    c.len.ensures.value
    ∙ ap (λ (m : Marked). length m) c.doc.ensures
    ∙ ap (λ (q : Performer). length (held_text (machine q.stage.staged))) (sym c.index-performers-who.is)
    ∙ sym (held_by c.args.world.now.performers c.args.who (c.args.who - 1) c.index-performers-who.result c.requires.here (omega (arith, c.requires.first)) (omega (arith, c.requires.first, c.requires.last))
    (rw c.performers.ensures.performers at c.index-performers-who.is))
