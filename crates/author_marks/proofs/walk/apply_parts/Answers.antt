use Rattle.std.proofs.Common.{◌∙◌, ap, arith}
use Rattle.ot_text.specs.Change.{base, target}
use Rattle.ot_text.proofs.AppliedInPlace.{part_lies, part_ends, part_inserts, part_inserts_count, applied_in_place, length-list_after_part, part_target-le}
use Rattle.author_marks.specs.Authorship.{mark_by}
use Rattle.gap_buffer.specs.Gapped.{whole_list}
use Rattle.author_marks.specs.GapRuns.{written_marks}
use Rattle.ot_text.proofs.IsNormal.{proper_at}
use Rattle.author_marks.proofs.walk.apply_parts.Goals as goal

pub apply_part-before-requires-clause-within : goal.apply_part-before-requires-clause-within
apply_part-before-requires-clause-within c =
    part_lies (mark_by c.args.who) c.parts-part-items.result.now (written_marks (whole_list c.args.runs.now)) (written_marks (whole_list c.loop-part.runs)) c.loop-part.part-index c.loop-part.place
    c.part-item.result c.loop-part-test.true c.part-item.is c.loop-part.invariant.so_far

pub apply_part-before-requires-clause-short : goal.apply_part-before-requires-clause-short
apply_part-before-requires-clause-short c =
    let inserts = part_inserts c.parts-part-items.result.now c.loop-part.part-index c.part-item.result c.loop-part-test.true c.part-item.is in
    omega (arith, inserts, c.loop-part.invariant.short)

pub apply_part-before-requires-clause-room : goal.apply_part-before-requires-clause-room
apply_part-before-requires-clause-room c =
    let inserts_now = part_inserts_count c.parts-part-items.result.now c.loop-part.part-index c.part-item.result c.loop-part-test.true c.part-item.is in
    omega (arith, inserts_now, c.loop-part.invariant.room)

pub overflow_add-place : goal.overflow_add-place
overflow_add-place c =
    let ends = part_ends (mark_by c.args.who) c.parts-part-items.result.now (written_marks (whole_list c.args.runs.now)) (written_marks (whole_list c.loop-part.runs)) c.loop-part.part-index c.loop-part.place
    c.part-item.result c.loop-part-test.true c.part-item.is (ap base c.parts-part-items.ensures.norm ∙ c.requires.base) c.loop-part.invariant.so_far in
    omega (arith, ends, ap target c.parts-part-items.ensures.norm, c.parts-part-items.ensures.short.target_fits, c.target-place.ensures)

pub loop-part-preserved : goal.loop-part-preserved
loop-part-preserved c =
    let m = written_marks (whole_list c.loop-part.runs) in
    let lies = part_lies (mark_by c.args.who) c.parts-part-items.result.now (written_marks (whole_list c.args.runs.now)) m c.loop-part.part-index c.loop-part.place
    c.part-item.result c.loop-part-test.true c.part-item.is c.loop-part.invariant.so_far in
    let next = applied_in_place (mark_by c.args.who) c.parts-part-items.result.now (written_marks (whole_list c.args.runs.now)) m c.loop-part.part-index c.loop-part.place
    c.part-item.result c.loop-part-test.true c.part-item.is c.loop-part.invariant.so_far in
    let inserts = part_inserts c.parts-part-items.result.now c.loop-part.part-index c.part-item.result c.loop-part-test.true c.part-item.is in
    let inserts_now = part_inserts_count c.parts-part-items.result.now c.loop-part.part-index c.part-item.result c.loop-part-test.true c.part-item.is in
    let long = length-list_after_part (mark_by c.args.who) c.part-item.result c.loop-part.place m lies in
    rw (c.target-place.ensures, c.apply_part-before.ensures.marks) (record {
      so_far = next;
      before = c.apply_part-before.ensures.before;
      front_tidy = c.apply_part-before.ensures.front_tidy;
      behind_tidy = c.apply_part-before.ensures.behind_tidy;
      short = omega (arith, long, part_target-le c.part-item.result, inserts, c.loop-part.invariant.short);
      room = omega (arith, inserts_now, c.apply_part-before.ensures.room, c.loop-part.invariant.room);
    })

pub apply_part-before-requires-clause-proper : goal.apply_part-before-requires-clause-proper
apply_part-before-requires-clause-proper c =
    proper_at c.parts-part-items.result.now c.loop-part.part-index c.part-item.result c.loop-part-test.true c.part-item.is c.parts-part-items.ensures.normal
