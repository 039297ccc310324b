use Rattle.ot_transform.proofs.LeftImage.{image-left, image-right}
use Rattle.ot_transform.proofs.Merge.{base-left, base-right}
use Rattle.ot_transform.proofs.laws.transform_gaps_law.Goals as goal

pub returns : goal.returns
returns c = record { left_base = base-left; left_image = image-left; right_base = base-right; right_image = image-right }
