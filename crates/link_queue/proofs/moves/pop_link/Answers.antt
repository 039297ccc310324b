use Rattle.std.proofs.Common.{rules, ◌≡◌, ◌+◌, ◌∙◌, None, ap, arith}
use Rattle.crossbeam_queue.specs.Passes.{view}
use Rattle.link_queue.specs.Balance.{whole, with_taken}
use Rattle.link_queue.proofs.Balanced.{takes, learns, left_more}
use Rattle.link_queue.proofs.moves.pop_link.Goals as goal

pub pop_as-requires-clause-rule : goal.pop_as-requires-clause-rule
pop_as-requires-clause-rule g c =
    let all : _ ≡ whole = ap (λ v. v.parts) c.loop.invariant.left.1 ∙ c.requires.whole in
    (takes _ _ _ (omega (arith, all)), learns _ _ _ all)

pub loop-preserved : goal.loop-preserved
loop-preserved g c =
    let marks = c.loop.invariant.left.0 in
    record {
      pass = search rules;
      left = (marks + 1, c.in-Some-None.ensures.rule.0 ∙ (ap (with_taken (view c.loop.pass)) c.in-Some-None.field-0-is ∙ (ap (λ v. with_taken v None) c.loop.invariant.left.1 ∙ left_more _ marks None)));
    }
