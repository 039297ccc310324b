use Rattle.std.proofs.Common.{◌∷◌, sym, ap, ◌∙◌}
use Rattle.ot_transform.specs.Rest.{first_keeps}
use Rattle.ot_transform.proofs.Shortened.{norm-skipped}
use Rattle.ot_transform.proofs.rest.Rest.skip.Goals as goal
use Rattle.ot_transform.proofs.rest.Rest.skip.Goals.{in-Retain, in-Insert, in-Delete}

pub returns-else-self-places : goal.returns-else-self-places
returns-else-self-places c =
    let others = c.in-Some.others.now in
    let split = c.in-Some.ensures.cases.0 in
    let skipped = norm-skipped _ _ c.in-Some.first.now others _ _ c.args.places c.self.view_is split c.requires.some c.requires.within in
    elim c.match-first.branch [
      | in-Retain w ↦ skipped (ap (λ p. p.0) w.keeps-is ∙ sym (ap (λ p. first_keeps (p ∷ others)) w.in-Retain.is))
      | in-Insert w ↦ skipped (ap (λ p. p.0) w.keeps-is ∙ sym (ap (λ p. first_keeps (p ∷ others)) w.in-Insert.is))
      | in-Delete w ↦ skipped (ap (λ p. p.0) w.keeps-is ∙ sym (ap (λ p. first_keeps (p ∷ others)) w.in-Delete.is))
    ]
