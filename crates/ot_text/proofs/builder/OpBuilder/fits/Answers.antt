use Rattle.std.proofs.Common.{arith}
use Rattle.std.proofs.lemmas.Bool.{leb-true, le-leb}
use Rattle.ot_text.proofs.IsKept.{short_with_part, room_with_part}
use Rattle.ot_text.proofs.builder.OpBuilder.fits.Goals as goal

pub returns-then-passed-base : goal.returns-then-passed-base
returns-then-passed-base c = (
  λ yes. short_with_part c.args.self.now c.args.part.now (omega (arith, c.base.ensures.short)) (omega (arith, leb-true _ _ yes, c.target-then-passed-base.ensures.short)),
  λ short. le-leb _ _ (omega (arith, (room_with_part c.args.self.now c.args.part.now short).1)),
)

pub returns-else-passed-base : goal.returns-else-passed-base
returns-else-passed-base c = (
  λ yes. absurd (omega (arith, leb-true _ _ yes)),
  λ short. absurd (omega (arith, (room_with_part c.args.self.now c.args.part.now short).0)),
)
