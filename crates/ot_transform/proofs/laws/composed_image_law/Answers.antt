use Rattle.ot_transform.proofs.Comp.{base-comp, image-comp-item_element}
use Rattle.ot_transform.proofs.laws.composed_image_law.Goals as goal

pub returns : goal.returns
returns c = record { base = base-comp; image = image-comp-item_element }
