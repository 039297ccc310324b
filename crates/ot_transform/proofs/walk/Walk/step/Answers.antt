use Rattle.std.proofs.Common.{ap, ◌∙◌, sym, arith}
use Rattle.ot_text.specs.Parts.{norm}
use Rattle.ot_transform.proofs.Shortened.{start_of_untexted, both_at_end}
use Rattle.ot_transform.proofs.walk.Walk.step.Goals as goal

pub returns-in-Some-take_text : goal.returns-in-Some-take_text
returns-in-Some-take_text c =
    let first = c.in_default.ensures in
    let second = c.in-Some-take_text.ensures in
    record {
      some = (rw second.taken at second.normal_before).0;
      none_first = start_of_untexted _ first.normal_before first.taken.1;
      first = ap norm (sym first.taken.0);
      second = ap norm second.taken;
    }

pub returns-then-places-eq0 : goal.returns-then-places-eq0
returns-then-places-eq0 c =
    let first = c.in_default.ensures in
    let second = c.in_default-take_text.ensures in
    let same_first = first.taken.0 in
    let same_second = second.taken.0 in
    both_at_end _ _ c.min-places.result first.normal_before second.normal_before first.taken.1 second.taken.1
    c.requires (cc) c.if-places-eq0.true

pub returns : goal.returns
returns c =
    let first = c.in_default.ensures in
    let second = c.in_default-take_text.ensures in
    c.over.ensures _ _ _ _ record {
      some = omega arith;
      none_first = start_of_untexted _ first.normal_before first.taken.1;
      none_second = start_of_untexted _ second.normal_before second.taken.1;
      first = ap norm (sym first.taken.0) ∙ c.skip-first_keeps.ensures;
      second = ap norm (sym second.taken.0) ∙ c.skip-second_keeps.ensures;
    }
