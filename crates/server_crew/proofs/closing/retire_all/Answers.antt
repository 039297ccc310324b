use Rattle.std.proofs.Common.{rules, ◌∷◌, [], ◌∙◌, ap, length, arith}
use Rattle.server_crew.proofs.Back.{back_many}
use Rattle.server_crew.proofs.closing.retire_all.Goals as goal

pub loop-link-preserved : goal.loop-link-preserved
loop-link-preserved g c =
    let inv = c.loop-link.invariant in
    let places = inv.places in
    let fewer = c.retire.ensures.places in
    let count = ap length c.in-Some.ensures.items in
    record {
      retired = back_many _ _ (c.in-Some.link ∷ []) _ _ c.retire.ensures.retired c.in-Some.ensures.items ∙ inv.retired;
      links = search rules;
      places = omega (arith, places, fewer, count);
      count = search rules;
    }
