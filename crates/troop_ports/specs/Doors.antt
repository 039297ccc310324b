-- What doors do to the links that they tell. An object that tells none tells `None`.
use Rattle.std.specs.Prelude.{◌≡◌, ℕ, List, [], ◌∷◌, ◌++◌, Option, IfSome, option_map}
use Rattle.troop_ports.specs.declared.door.Accepted.{Accepted}
use Rattle.troop_ports.specs.declared.door.Accepted.TheVariants as accepted
use Rattle.troop_ports.specs.Faults.{Counted}

module _ {L : Type 0} where
  -- this one, and then those that are told
  abbrev pub first_of : L → Option (List L) → Option (List L)
  first_of one told = option_map (λ others. one ∷ others) told

  -- those that are told, and then this one
  abbrev pub and_last : Option (List L) → L → Option (List L)
  and_last told one = option_map (λ others. others ++ one ∷ []) told

  -- a link that is given was the first of those left, and is no longer left; the door is closed only where none is left;
  -- a call that failed left all as it was
  abbrev pub Accepts : Accepted L → Option (List L) → Option (List L) → Type 0
  Accepts (accepted.Link link) old new = old ≡ first_of link new
  Accepts accepted.Closed old new = IfSome old (λ links. links ≡ []) × (new ≡ old)
  Accepts accepted.Failed old new = new ≡ old

  -- a link that is given has the property
  abbrev pub IfAccepted : Accepted L → (L → Type 0) → Type 0
  IfAccepted (accepted.Link link) P = P link
  IfAccepted accepted.Closed P = Unit {0}
  IfAccepted accepted.Failed P = Unit {0}

  -- how many links were given
  abbrev pub count_accepted : Accepted L → ℕ
  count_accepted (accepted.Link link) = 1
  count_accepted accepted.Closed = 0
  count_accepted accepted.Failed = 0

  -- an accept that failed counted a fault, and any other leaves the count as it was
  abbrev pub CountsAccept : Accepted L → ℕ → ℕ → Type 0
  CountsAccept (accepted.Link link) before now = now ≡ before
  CountsAccept accepted.Closed before now = now ≡ before
  CountsAccept accepted.Failed before now = Counted before now
