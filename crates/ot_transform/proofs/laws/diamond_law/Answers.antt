use Rattle.ot_transform.proofs.Comp.{comp-both_ways}
use Rattle.ot_transform.proofs.laws.diamond_law.Goals as goal

pub returns : goal.returns
returns c = comp-both_ways
