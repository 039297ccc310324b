-- What a child and a hatch in memory do.
use Rattle.std.specs.Prelude.{◌≡◌, ◌<◌, IfSome, ℕ, zero, suc, ◌+◌, ◌-◌, List, [], ◌++◌, Bool, true, false, take, nat_lt, Option, None, Some, if◌then◌else◌}
use Rattle.troop_ports.specs.Faults.{next_count}
use Rattle.troop_ports.specs.declared.sink.Put.{Put}
use Rattle.troop_ports.specs.declared.sink.Put.TheVariants as put
use Rattle.pipe_ports.specs.Pipes.{bytes_within, limit_behind}
use Rattle.pipe_ports.specs.declared.child.Closing.{Closing}
use Rattle.pipe_ports.specs.declared.child.Closing.TheVariants as closing
use Rattle.pipe_ports.specs.declared.hatch.Started.{Started}
use Rattle.pipe_ports.specs.declared.hatch.Started.TheVariants as started

-- the bytes taken, how many more it takes if that is limited, how long a piece may be, how many faults were counted,
-- whether a close fails, and whether it was closed
pub record ChildValue : Type 0 where
  pub taken : List ℕ
  pub limit : Option ℕ
  pub room : ℕ
  pub faults : ℕ
  pub close_fails : Bool
  pub closed : Bool

-- the answer to a write of so many bytes under this limit: a fault at the limit 0, else all that the limit lets through
abbrev pub put_within : Option ℕ → ℕ → Put
put_within (Some zero) count = put.Failed
put_within (Some (suc n)) count = put.Took (bytes_within (Some (suc n)) count)
put_within None count = put.Took count

-- the child after that answer to the write of a piece, with this room: it keeps what it took, and counts a fault
abbrev pub child_after_write : ChildValue → Put → List ℕ → ℕ → ChildValue
child_after_write c (put.Took n) piece room = record c { taken = c.taken ++ take n piece; limit = limit_behind c.limit n; room = room }
child_after_write c put.Failed piece room = record c { faults = next_count c.faults; room = room }

-- the answer to a close, by whether closes fail
abbrev pub closing_of : Bool → Closing
closing_of true = closing.Failed
closing_of false = closing.Closed

-- the child after a close: it is closed, and counts a fault where the close failed
abbrev pub child_after_close : ChildValue → ChildValue
child_after_close c = record c { faults = if c.close_fails then next_count c.faults else c.faults; closed = true }

-- how many starts are still to be refused, how many bytes the next child takes if that is limited, the bytes of the
-- buried children, the places kept for burials, for how many bytes it is ready, and how many faults were counted
pub record HatchValue : Type 0 where
  pub refusals : ℕ
  pub limit : Option ℕ
  pub past : List (List ℕ)
  pub graves : ℕ
  pub readiness : Option ℕ
  pub faults : ℕ

-- a child that was just started: it has taken nothing and counted nothing, is open, and has this limit and this room
abbrev pub new_child : Option ℕ → ℕ → ChildValue
new_child limit room = record { taken = []; limit = limit; room = room; faults = 0; close_fails = false; closed = false }

-- the answer to a start: a fault while some are to be refused, else a new child with the hatch's limit and room for what the
-- hatch was ready for
abbrev pub AnswersStart : Started ChildValue → HatchValue → Type 0
AnswersStart (started.Child child) h = (h.refusals ≡ 0) × IfSome h.readiness (λ room. child ≡ new_child h.limit room)
AnswersStart started.Failed h = 0 < h.refusals

-- the hatch after a start: a refused one counts a fault, any other keeps a grave and uses up the readiness, and both forget
-- the limit
abbrev pub hatch_after_start : HatchValue → HatchValue
hatch_after_start h = if nat_lt 0 h.refusals then record h { refusals = h.refusals - 1; limit = None; faults = next_count h.faults }
    else record h { limit = None; graves = h.graves + 1; readiness = None }
