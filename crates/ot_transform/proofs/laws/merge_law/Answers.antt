use Rattle.ot_transform.proofs.Merge.{effect-left, effect-right}
use Rattle.ot_transform.proofs.laws.merge_law.Goals as goal

pub returns : goal.returns
returns g c = record {
  left = λ new_a new_b a b m p q. effect-left new_a new_b a b m p q;
  right = λ new_a new_b a b m p q. effect-right new_a new_b a b m p q;
}
