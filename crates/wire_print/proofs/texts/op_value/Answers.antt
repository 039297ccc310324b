use Rattle.std.proofs.Common.{arith, ap}
use Rattle.ot_text.specs.Change.{base}
use Rattle.ot_text.proofs.Norm.{base-norm}
use Rattle.wire_print.proofs.texts.op_value.Goals as goal

pub parts_value-requires : goal.parts_value-requires
parts_value-requires c = omega (arith, c.parts.ensures.short.base_fits, base-norm c.parts.result.now, ap base c.parts.ensures.norm)
