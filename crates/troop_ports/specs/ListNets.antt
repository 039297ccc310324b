-- A net in memory.
use Rattle.std.specs.Prelude.{ℕ, ◌+◌, List, [], ◌∷◌, drop, Bool, not, ◌||◌, Option, if◌then◌else◌, map, sum, string_bytes}
use Rattle.troop_ports.specs.Faults.{next_count}
use Rattle.troop_ports.specs.Feeds.{is_listed}
use Rattle.troop_ports.specs.declared.net.Listening.{Listening}
use Rattle.troop_ports.specs.declared.net.Listening.TheVariants as listening
use Rattle.troop_ports.specs.declared.net.Dialled.{Dialled}
use Rattle.troop_ports.specs.declared.net.Dialled.TheVariants as dialled
use Rattle.troop_ports.specs.declared.list_net.Stand.{Stand}
use Rattle.troop_ports.specs.Nets.{Site, is_at, asked_at}

-- the site of a net that has one
abbrev pub site_of : Stand → Site
site_of stand = record { address = string_bytes stand.address; strayed = stand.has_strayed }

-- the doors and the links that are left, those that came back, the places for more of them, the numbers of the calls
-- that fail, how many calls of listen and dial were made, how many of them failed, and the net's site, if it has one
pub record Exchange (D L : Type 0) : Type 0 where
  pub doors : List D
  pub links : List L
  pub retired : List L
  pub shut_doors : List D
  pub places : ℕ
  pub door_places : ℕ
  pub fails : List ℕ
  pub calls : ℕ
  pub faults : ℕ
  pub site : Option Site

module _ {D : Type 0} where
  -- the first of the doors, or a fault
  abbrev pub first_door : List D → Listening D
  first_door [] = listening.Failed
  first_door (door ∷ others) = listening.Door door

module _ {L : Type 0} where
  -- the first of the links, or a fault
  abbrev pub first_link : List L → Dialled L
  first_link [] = dialled.Failed
  first_link (link ∷ others) = dialled.Link link

module _ {D L : Type 0} where
  -- whether a call for this address fails whatever is left: a listed one does, and one for an address that isn't the net's
  abbrev pub is_refused : Exchange D L → List ℕ → Bool
  is_refused net addr = is_listed (next_count net.calls) net.fails || not (is_at net.site addr)

  -- the answer to listening at this address: a refused call fails, and one that finds no door left
  abbrev pub listening_of : Exchange D L → List ℕ → Listening D
  listening_of net addr = if is_refused net addr then listening.Failed else first_door net.doors

  -- the answer to a dial of this address: a refused call fails, and one that finds no link left
  abbrev pub dialled_of : Exchange D L → List ℕ → Dialled L
  dialled_of net addr = if is_refused net addr then dialled.Failed else first_link net.links

  -- the net behind that answer to listening: a door that is given leaves a place, a fault is counted
  abbrev pub net_after_listen : Exchange D L → List ℕ → Listening D → Exchange D L
  net_after_listen net addr (listening.Door door) = record net { doors = drop 1 net.doors; door_places = net.door_places + 1; calls = next_count net.calls; site = asked_at addr net.site }
  net_after_listen net addr listening.Failed = record net { calls = next_count net.calls; faults = next_count net.faults; site = asked_at addr net.site }

  -- the net behind that answer to a dial: a link that is given leaves a place, a fault is counted
  abbrev pub net_after_dial : Exchange D L → List ℕ → Dialled L → Exchange D L
  net_after_dial net addr (dialled.Link link) = record net { links = drop 1 net.links; places = net.places + 1; calls = next_count net.calls; site = asked_at addr net.site }
  net_after_dial net addr dialled.Failed = record net { calls = next_count net.calls; faults = next_count net.faults; site = asked_at addr net.site }

  -- the faults of the calls, and of all that came back
  abbrev pub all_faults : (D → ℕ) → (L → ℕ) → Exchange D L → ℕ
  all_faults of_door of_link net = net.faults + sum (map of_door net.shut_doors) + sum (map of_link net.retired)
