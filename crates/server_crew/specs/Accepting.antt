-- A door that is being emptied.
use Rattle.std.specs.Prelude.{◌≡◌, ◌⊎◌, ℕ, ◌+◌, ◌≤◌, Bool, true, false, List, [], ◌++◌, length, Option, Some, IfSome, option_map}
use Rattle.troop_ports.specs.Faults.{Counted}
use Rattle.link_queue.specs.Ends.{LinkEndValue}

-- so many more, where there is a number
abbrev pub and_more : ℕ → Option ℕ → Option ℕ
and_more n rest = option_map (λ k. n + k) rest

-- these links were taken from a door and put into a queue, each with a place for it at the door
pub record HasMoved {L : Type 0} (links : List L) (old new : Option (List L)) (v w : LinkEndValue L) (places places' : ℕ) : Type 0 where
  pub queue : w.queue ≡ v.queue
  pub parts : w.parts ≡ v.parts
  pub put : w.put ≡ v.put ++ links
  pub taken : w.taken ≡ v.taken
  pub from : old ≡ option_map (λ others. links ++ others) new
  pub places_are : places' ≡ places + length links

-- no more links were taken than were asked for, where a number was
abbrev pub IsWithinAsked : Option ℕ → ℕ → Type 0
IsWithinAsked sessions count = IfSome sessions (λ most. count ≤ most)

-- so many links were taken as were asked for, or all that were left, and no more than were asked for
abbrev pub HasEnough : {L : Type 0} → Option ℕ → ℕ → Option (List L) → Type 0
HasEnough sessions count new = IsWithinAsked sessions count × ((sessions ≡ Some count) ⊎ IfSome new (λ links. links ≡ []))

-- links were taken and put into the queue: no more than were asked for, and enough of them, unless the door had a fault
pub record HasTaken {L : Type 0} (sessions : Option ℕ) (old new : Option (List L)) (v w : LinkEndValue L) (places places' : ℕ) (failed : Bool) : Type 0 where
  pub links : List L
  pub moved : HasMoved links old new v w places places'
  pub within : IsWithinAsked sessions (length links)
  pub enough : failed ≡ false → HasEnough sessions (length links) new

-- some of the links were taken and put into the queue, and so many are still asked for
pub record InTaking {L : Type 0} (sessions rest : Option ℕ) (old new : Option (List L)) (v w : LinkEndValue L) (places places' : ℕ) : Type 0 where
  pub links : List L
  pub moved : HasMoved links old new v w places places'
  pub left : sessions ≡ and_more (length links) rest

-- a fault was counted where there was one, and else none
abbrev pub CountsIf : Bool → ℕ → ℕ → Type 0
CountsIf true before now = Counted before now
CountsIf false before now = now ≡ before
