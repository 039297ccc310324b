use Rattle.ot_text.proofs.EffectOf.{map-effect}
use Rattle.ot_text.proofs.laws.map_law.Goals as goal

pub returns : goal.returns
returns g c = map-effect
