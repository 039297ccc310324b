use Rattle.std.proofs.Common.{◌≡◌, take}
use Rattle.std.specs.Prelude.{count_by}
use Rattle.ot_text.specs.Ends.{is_insert}
use Rattle.ot_text.proofs.op.Op.insert_count.Given as goal

abbrev pub invariant-loop-part : goal.invariant-loop-part
invariant-loop-part l = l.count ≡ count_by is_insert (take l.part-index l.part-items)
