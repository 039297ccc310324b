-- A link in memory.
use Rattle.std.specs.Prelude.{ℕ, ◌+◌, Bool}
use Rattle.troop_ports.specs.Feeds.{Feed}
use Rattle.troop_ports.specs.Drains.{Drain}

-- what it gives, what it takes, and whether it was closed
pub record Wire : Type 0 where
  pub feed : Feed
  pub drain : Drain
  pub is_closed : Bool

-- the one count of both sides: the faults of the reads and of the writes together
abbrev pub wire_faults : Wire → ℕ
wire_faults wire = wire.feed.faults + wire.drain.faults
