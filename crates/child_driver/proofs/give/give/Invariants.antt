use Rattle.std.proofs.Common.{◌≡◌, ◌+◌, ◌-◌, ◌≤◌, length, take, false}
use Rattle.std.specs.Prelude.{IfSome, option_map}
use Rattle.troop_ports.specs.Bytes.{at_end}
use Rattle.pipe_ports.specs.Pipes.{limit_behind}
use Rattle.child_driver.specs.Openings.{Covers}
use Rattle.child_driver.proofs.give.give.Given as goal

-- what was written so far, with no fault
abbrev pub invariant-loop-at : goal.invariant-loop-at
invariant-loop-at g l = record {
  within : l.at ≤ length l.bytes;
  bytes : g.C.Child.taken l.child ≡ at_end (g.C.Child.taken l.fn.child) (take l.at l.bytes);
  covered : IfSome (g.C.Child.limit l.fn.child) (λ limit. Covers limit l.at);
  limit : g.C.Child.limit l.child ≡ option_map (λ limit. limit_behind limit l.at) (g.C.Child.limit l.fn.child);
  room : g.C.Child.room l.fn.child ≤ g.C.Child.room l.child + l.at;
  faults : g.C.Child.faults l.child ≡ g.C.Child.faults l.fn.child;
  still_open : g.C.Child.closed l.child ≡ false;
}

abbrev pub decreases-loop-at : goal.decreases-loop-at
decreases-loop-at g l = length l.initial.bytes - l.at
