use Rattle.std.proofs.Common.{◌≡◌, ◌++◌, ◌+◌, length, option_map}
use Rattle.std.specs.VecDeque.{deque_len}
use Rattle.server_crew.proofs.closing.retire_all.Given as goal

-- what came back, and what is still to
abbrev pub invariant-loop-link : goal.invariant-loop-link
invariant-loop-link g l = record {
  retired : option_map (λ others. others ++ l.links.items) (g.D.Door.retired l.door) ≡ option_map (λ others. others ++ l.initial.links.items) (g.D.Door.retired l.initial.door);
  links : g.D.Door.links l.door ≡ g.D.Door.links l.initial.door;
  places : g.D.Door.places l.door + length l.initial.links.items ≡ g.D.Door.places l.initial.door + length l.links.items;
  count : g.D.Door.faults l.door ≡ g.D.Door.faults l.initial.door;
}

abbrev pub decreases-loop-link : goal.decreases-loop-link
decreases-loop-link g l = deque_len l.links
