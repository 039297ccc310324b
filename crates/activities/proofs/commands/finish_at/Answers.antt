use Rattle.std.proofs.Common.{refl, sym, ◌∙◌}
use Rattle.activities.specs.Memory.{origin_at}
use Rattle.activities.proofs.SentUp.{finished}
use Rattle.activities.proofs.Halts.{finishes}
use Rattle.activities.proofs.commands.finish_at.Goals as goal

pub returns-clause-own : goal.returns-clause-own
returns-clause-own g c =
    finishes (origin_at c.args.hall.now) c.args.end c.args.seat.now c.play.new.seat c.play.result c.requires.done (sym c.found_closed.ensures ∙ c.if-found_closed.false) (c.play.ensures.free refl) c.play.ensures.ok

pub returns-clause-memory : goal.returns-clause-memory
returns-clause-memory g c = finished (origin_at c.args.hall.now) c.args.seat.now c.play.new.seat c.play.result (c.play.ensures.free refl) c.play.ensures.ok c.play.ensures.seat.1.number
