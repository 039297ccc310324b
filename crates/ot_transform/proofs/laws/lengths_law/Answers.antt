use Rattle.ot_transform.proofs.LeftLengths.{inserted-left, inserted-right, target-left, target-comp}
use Rattle.ot_transform.proofs.laws.lengths_law.Goals as goal

pub returns : goal.returns
returns c = record {
  inserted_left = inserted-left;
  inserted_right = inserted-right;
  both = target-left;
  composed = target-comp;
}
