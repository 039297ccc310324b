-- What a contract sees of programs and of their hatch.
use Rattle.std.specs.Prelude.{ℕ, ◌-◌, ◌^◌, List, Bool}
use Rattle.troop_ports.specs.Faults.{next_count}
use Rattle.troop_ports.specs.declared.sink.Put.{Put}
use Rattle.troop_ports.specs.declared.sink.Put.TheVariants as put
use Rattle.pipe_ports.specs.declared.child.Closing.{Closing}
use Rattle.pipe_ports.specs.declared.child.Closing.TheVariants as closing
use Rattle.pipe_ports.specs.declared.hatch.Started.{Started}
use Rattle.pipe_ports.specs.declared.hatch.Started.TheVariants as started

-- as many bytes as a call can ask for, the last value of a u64
abbrev pub most_bytes : ℕ
most_bytes = 2 ^ 64 - 1

-- a program that was started: whether its pipe was closed, whether it was waited for to its end, and how many faults were
-- counted
pub record ProgramValue : Type 0 where
  pub closed : Bool
  pub ended : Bool
  pub faults : ℕ

-- a hatch of one program: its words, of which the first is its name, and how many faults were counted
pub record ProgramHatch : Type 0 where
  pub words : List (List ℕ)
  pub faults : ℕ

-- the count of faults behind a write that was answered so: one more where it failed
abbrev pub count_after_write : Put → ℕ → ℕ
count_after_write (put.Took n) count = count
count_after_write put.Failed count = next_count count

-- the count of faults behind a close that was answered so: one more where it failed
abbrev pub count_after_close : Closing → ℕ → ℕ
count_after_close closing.Closed count = count
count_after_close closing.Failed count = next_count count

-- the count of faults behind a start that was answered so: one more where it failed
abbrev pub count_after_start : {C : Type 0} → Started C → ℕ → ℕ
count_after_start (started.Child child) count = count
count_after_start started.Failed count = next_count count
