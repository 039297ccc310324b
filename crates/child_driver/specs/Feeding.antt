-- What becomes of the next block, where the pipe tells how many bytes it takes and how many starts it refuses.
use Rattle.std.specs.Prelude.{ℕ, ◌-◌, Option, None, Some, nat_lt, if◌then◌else◌}
use Rattle.child_driver.specs.Lives.{BlockFate, Whole, Cut, Boot, Refused}
use Rattle.pipe_ports.specs.Pipes.{Starts, limit_behind}

-- what a pipe tells of the bytes to come: the number of bytes that the standing life still takes, if it is limited, where a
-- life stands; and what is told of the starts to come
pub record Pipe : Type 0 where
  pub life : Option (Option ℕ)
  pub starts : Starts

-- the fate of so many bytes of a wrap under a limit
abbrev pub wrap_fate : Option ℕ → ℕ → BlockFate
wrap_fate None size = Whole
wrap_fate (Some most) size = if nat_lt most size then Cut most else Whole

-- the fate of so many bytes of the boot text and then so many of a wrap, under a limit
abbrev pub boot_fate : Option ℕ → ℕ → ℕ → BlockFate
boot_fate None boot size = Whole
boot_fate (Some most) boot size = if nat_lt most boot then Boot most else wrap_fate (Some (most - boot)) size

-- the fate of the next block where no life stands
abbrev pub start_fate : Starts → ℕ → ℕ → BlockFate
start_fate starts boot size = if nat_lt 0 starts.refusals then Refused else boot_fate starts.limit boot size

-- the fate of the next block, by the standing life, if there is one
abbrev pub life_fate : Option (Option ℕ) → Starts → ℕ → ℕ → BlockFate
life_fate None starts boot size = start_fate starts boot size
life_fate (Some limit) starts boot size = wrap_fate limit size

-- the fate of the next block, by the lengths of the boot text and the wrap
abbrev pub fed_fate : Pipe → ℕ → ℕ → BlockFate
fed_fate pipe boot size = life_fate pipe.life pipe.starts boot size

-- the life behind a block of this fate: it stands only behind a whole one, and then takes fewer bytes by the wrap's length
abbrev pub life_left : BlockFate → Option ℕ → ℕ → Option (Option ℕ)
life_left Whole limit size = Some (limit_behind limit size)
life_left (Cut n) limit size = None
life_left (Boot n) limit size = None
life_left Refused limit size = None

-- the starts to come behind a block of this fate that opened: one fewer is to be refused where one was refused, and each start
-- forgets the limit of the next child
abbrev pub starts_left : BlockFate → Starts → Starts
starts_left Refused starts = record { refusals = starts.refusals - 1; limit = None }
starts_left Whole starts = record { refusals = starts.refusals; limit = None }
starts_left (Cut n) starts = record { refusals = starts.refusals; limit = None }
starts_left (Boot n) starts = record { refusals = starts.refusals; limit = None }

-- the pipe behind a block of this fate, by the life that stood before it, if one did
abbrev pub pipe_left : Option (Option ℕ) → Starts → BlockFate → ℕ → ℕ → Pipe
pipe_left None starts fate boot size = record { life = life_left fate (limit_behind starts.limit boot) size; starts = starts_left fate starts }
pipe_left (Some limit) starts fate boot size = record { life = life_left fate limit size; starts = starts }

-- the pipe behind the next block
abbrev pub fed_pipe : Pipe → ℕ → ℕ → Pipe
fed_pipe pipe boot size = pipe_left pipe.life pipe.starts (fed_fate pipe boot size) boot size
