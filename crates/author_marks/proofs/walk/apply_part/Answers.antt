use Rattle.std.proofs.Common.{◌+◌, ◌++◌, ◌∙◌, sym, ap, replicate, length, arith}
use Rattle.ot_text.proofs.AppliedInPlace.{list_after_part-Retain}
use Rattle.author_marks.specs.Authorship.{mark_by}
use Rattle.author_marks.proofs.WrittenMarks.{map-mark_by}
use Rattle.gap_buffer.specs.Gapped.{whole_list}
use Rattle.author_marks.specs.GapRuns.{written_marks}
use Rattle.author_marks.proofs.WrittenMarks.{written_put}
use Rattle.author_marks.proofs.walk.apply_part.Goals as goal

pub returns-in-Retain-clause-marks : goal.returns-in-Retain-clause-marks
returns-in-Retain-clause-marks c =
    rw c.in-Retain.is (sym (list_after_part-Retain (mark_by c.args.who) c.in-Retain.field-0 c.args.place (written_marks (whole_list c.args.runs.now))))

pub returns-in-Insert-clause-marks : goal.returns-in-Insert-clause-marks
returns-in-Insert-clause-marks c =
    let put = written_put c.seek.new.runs.front c.seek.new.runs.behind c.put_marks.new.runs.front (written_marks (whole_list c.args.runs.now)) c.args.who (length c.in-Insert.text) c.args.place (c.args.place + 0) (omega arith)
    c.seek.ensures.marks c.seek.ensures.place (c.put_marks.ensures.front ∙ ap (λ n. written_marks c.seek.new.runs.front ++ replicate n c.args.who) c.len.ensures.value) in
    rw (c.in-Insert.is, c.put_marks.ensures.behind, map-mark_by) put
