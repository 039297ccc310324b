use Rattle.ot_transform.proofs.GapPlace.{image-gaps, gap_place-length, item_element-ins_places, item_element-kept_place}
use Rattle.ot_transform.proofs.laws.places_law.Goals as goal

pub returns : goal.returns
returns c = record {
  image = image-gaps;
  gap_place = gap_place-length;
  ins_places = item_element-ins_places;
  kept_place = item_element-kept_place;
}
