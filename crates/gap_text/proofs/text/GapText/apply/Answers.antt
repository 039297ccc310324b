use Rattle.std.proofs.Common.{◌∙◌, ap, arith}
use Rattle.ot_text.specs.Change.{base, target, plain}
use Rattle.ot_text.proofs.AppliedInPlace.{part_lies, part_ends, part_inserts, applied_in_place}
use Rattle.gap_text.proofs.text.GapText.apply.Goals as goal

pub apply_part-place-requires-clause-within : goal.apply_part-place-requires-clause-within
apply_part-place-requires-clause-within c =
    part_lies plain c.parts-part-items.result.now c.args.self.now.chars c.loop-part.self.chars c.loop-part.part-index c.loop-part.place
    c.part-item.result c.loop-part-test.true c.part-item.is c.loop-part.invariant.so_far

pub apply_part-place-requires-clause-spare : goal.apply_part-place-requires-clause-spare
apply_part-place-requires-clause-spare c =
    let inserts = part_inserts c.parts-part-items.result.now c.loop-part.part-index c.part-item.result c.loop-part-test.true c.part-item.is in
    omega (arith, inserts, c.loop-part.invariant.room)

pub apply_part-place-requires-clause-short : goal.apply_part-place-requires-clause-short
apply_part-place-requires-clause-short c =
    let ends = part_ends plain c.parts-part-items.result.now c.args.self.now.chars c.loop-part.self.chars c.loop-part.part-index c.loop-part.place
    c.part-item.result c.loop-part-test.true c.part-item.is (ap base c.parts-part-items.ensures.norm ∙ c.requires.base) c.loop-part.invariant.so_far in
    omega (arith, ends, ap target c.parts-part-items.ensures.norm, c.parts-part-items.ensures.short.target_fits)

pub loop-part-preserved : goal.loop-part-preserved
loop-part-preserved c =
    let next = applied_in_place plain c.parts-part-items.result.now c.args.self.now.chars c.loop-part.self.chars c.loop-part.part-index c.loop-part.place
    c.part-item.result c.loop-part-test.true c.part-item.is c.loop-part.invariant.so_far in
    let inserts = part_inserts c.parts-part-items.result.now c.loop-part.part-index c.part-item.result c.loop-part-test.true c.part-item.is in
    rw (c.apply_part-place.ensures.place, c.apply_part-place.ensures.chars) (record {
      so_far = next;
      room = omega (arith, inserts, c.apply_part-place.ensures.spare, c.loop-part.invariant.room);
      paid = omega (arith, inserts, c.apply_part-place.ensures.spare, c.loop-part.invariant.paid);
    })
