use Rattle.std.proofs.Common.{not, refl, ap, ◌∙◌}
use Rattle.activities.specs.Memory.{origin_at}
use Rattle.activities.proofs.SentUp.{halted}
use Rattle.activities.proofs.Halts.{halts}
use Rattle.activities.proofs.ending.halt_at.Goals as goal

pub returns-clause-own : goal.returns-clause-own
returns-clause-own g c =
    halts (origin_at c.args.hall.now) c.args.end.now c.args.seat.now c.play.new.seat c.play.result (c.is_none.ensures ∙ ap not c.if-is_none.false) (c.play.ensures.free refl) c.play.ensures.ok

pub returns-clause-memory : goal.returns-clause-memory
returns-clause-memory g c = halted (origin_at c.args.hall.now) c.args.seat.now c.play.new.seat c.play.result (c.play.ensures.free refl) c.play.ensures.ok c.play.ensures.seat.1.number
