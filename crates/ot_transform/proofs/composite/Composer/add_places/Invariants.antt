use Rattle.ot_transform.proofs.ComposedSoFar.{ArePlacesSoFar}
use Rattle.ot_transform.proofs.composite.Composer.add_places.Given as goal

abbrev pub invariant-loop-left : goal.invariant-loop-left
invariant-loop-left l = ArePlacesSoFar l.places l.left l.fn.self l.self

abbrev pub decreases-loop-left : goal.decreases-loop-left
decreases-loop-left l = l.left
