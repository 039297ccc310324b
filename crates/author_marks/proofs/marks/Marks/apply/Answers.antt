use Rattle.std.proofs.Common.{◌∙◌, ap, sym, arith, length}
use Rattle.ot_text.proofs.EffectOf.{length-effect}
use Rattle.author_marks.specs.Authorship.{mark_by}
use Rattle.gap_buffer.specs.Gapped.{whole_list}
use Rattle.author_marks.specs.GapRuns.{written_marks}
use Rattle.author_marks.proofs.marks.Marks.apply.Goals as goal

pub invariant_of-self : goal.invariant_of-self
invariant_of-self c =
    let base_is = rw (← c.self.view_is) at c.requires.base in
    let long = length-effect (mark_by c.args.who) c.args.op.now (written_marks (whole_list c.self.inside.runs)) (sym base_is) in
    record {
      before_right = c.apply_parts-self-inside.ensures.before;
      count_right = c.target-self-inside.ensures.value ∙ sym long ∙ sym (ap length c.apply_parts-self-inside.ensures.marks);
      front_tidy = c.apply_parts-self-inside.ensures.front_tidy;
      behind_tidy = c.apply_parts-self-inside.ensures.behind_tidy;
      short = omega (arith, c.apply_parts-self-inside.ensures.short, c.target-self-inside.ensures.value, long, ap length c.apply_parts-self-inside.ensures.marks);
    }
