-- What nets do to the doors and links that they tell. An object that tells none tells `None`.
use Rattle.std.specs.Prelude.{◌≡◌, ℕ, List, Option, Some, None, option_map, Bool, true, not, ◌||◌, bytes_eq}
use Rattle.troop_ports.specs.declared.net.Listening.{Listening}
use Rattle.troop_ports.specs.declared.net.Listening.TheVariants as listening
use Rattle.troop_ports.specs.declared.net.Dialled.{Dialled}
use Rattle.troop_ports.specs.declared.net.Dialled.TheVariants as dialled
use Rattle.troop_ports.specs.Faults.{Counted}
use Rattle.troop_ports.specs.Doors.{first_of}

-- the one address at which a net has doors, and to which it has links; and whether another one was asked for
pub record Site : Type 0 where
  pub address : List ℕ
  pub strayed : Bool

-- whether this is the net's address; it is where the net tells none
abbrev pub is_at : Option Site → List ℕ → Bool
is_at None addr = true
is_at (Some site) addr = bytes_eq site.address addr

-- the site behind a call that asked for this address
abbrev pub site_asked : List ℕ → Site → Site
site_asked addr site = record { address = site.address; strayed = site.strayed || not (bytes_eq site.address addr) }

-- what a net tells of its site behind calls that asked for this address, and for no other
abbrev pub asked_at : List ℕ → Option Site → Option Site
asked_at addr told = option_map (site_asked addr) told

module _ {D : Type 0} where
  -- a door that is given was the first of those left, and is no longer left; a call that failed left all as it was
  abbrev pub Listens : Listening D → Option (List D) → Option (List D) → Type 0
  Listens (listening.Door door) old new = old ≡ first_of door new
  Listens listening.Failed old new = new ≡ old

  -- a door is given only where the address is the net's
  abbrev pub ListensAt : Listening D → Option Site → List ℕ → Type 0
  ListensAt (listening.Door door) told addr = is_at told addr ≡ true
  ListensAt listening.Failed told addr = Unit {0}

  -- how many doors were given
  abbrev pub count_listening : Listening D → ℕ
  count_listening (listening.Door door) = 1
  count_listening listening.Failed = 0

  -- listening that failed counted a fault, and any other leaves the count as it was
  abbrev pub CountsListen : Listening D → ℕ → ℕ → Type 0
  CountsListen (listening.Door door) before now = now ≡ before
  CountsListen listening.Failed before now = Counted before now

module _ {L : Type 0} where
  -- a link that is given was the first of those left, and is no longer left; a call that failed left all as it was
  abbrev pub Dials : Dialled L → Option (List L) → Option (List L) → Type 0
  Dials (dialled.Link link) old new = old ≡ first_of link new
  Dials dialled.Failed old new = new ≡ old

  -- a link is given only where the address is the net's
  abbrev pub DialsAt : Dialled L → Option Site → List ℕ → Type 0
  DialsAt (dialled.Link link) told addr = is_at told addr ≡ true
  DialsAt dialled.Failed told addr = Unit {0}

  -- a link that is given has the property
  abbrev pub IfDialled : Dialled L → (L → Type 0) → Type 0
  IfDialled (dialled.Link link) P = P link
  IfDialled dialled.Failed P = Unit {0}

  -- how many links were given
  abbrev pub count_dialled : Dialled L → ℕ
  count_dialled (dialled.Link link) = 1
  count_dialled dialled.Failed = 0

  -- a dial that failed counted a fault, and any other leaves the count as it was
  abbrev pub CountsDial : Dialled L → ℕ → ℕ → Type 0
  CountsDial (dialled.Link link) before now = now ≡ before
  CountsDial dialled.Failed before now = Counted before now
