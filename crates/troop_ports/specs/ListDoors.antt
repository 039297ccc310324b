-- A door in memory.
use Rattle.std.specs.Prelude.{ℕ, ◌+◌, List, [], ◌∷◌, drop, if◌then◌else◌}
use Rattle.troop_ports.specs.Faults.{next_count}
use Rattle.troop_ports.specs.Feeds.{is_listed}
use Rattle.troop_ports.specs.declared.door.Accepted.{Accepted}
use Rattle.troop_ports.specs.declared.door.Accepted.TheVariants as accepted

-- the links left, those that came back, the places for more of them, the numbers of the calls that fail, how many calls
-- were made, and how many faults were counted
pub record Entrance (L : Type 0) : Type 0 where
  pub links : List L
  pub retired : List L
  pub places : ℕ
  pub fails : List ℕ
  pub calls : ℕ
  pub faults : ℕ

module _ {L : Type 0} where
  -- the first of them, or the end
  abbrev pub first_accepted : List L → Accepted L
  first_accepted [] = accepted.Closed
  first_accepted (link ∷ others) = accepted.Link link

  -- the answer to an accept: a listed call fails, another gives the next link, or the end where none is left
  abbrev pub accept_answer : Entrance L → Accepted L
  accept_answer door = if is_listed (next_count door.calls) door.fails then accepted.Failed else first_accepted door.links

  -- the door after that answer: a link that is given leaves a place, a fault is counted
  abbrev pub door_after : Entrance L → Accepted L → Entrance L
  door_after door (accepted.Link link) = record { links = drop 1 door.links; retired = door.retired; places = door.places + 1; fails = door.fails; calls = next_count door.calls; faults = door.faults }
  door_after door accepted.Closed = record { links = door.links; retired = door.retired; places = door.places; fails = door.fails; calls = next_count door.calls; faults = door.faults }
  door_after door accepted.Failed = record { links = door.links; retired = door.retired; places = door.places; fails = door.fails; calls = next_count door.calls; faults = next_count door.faults }
