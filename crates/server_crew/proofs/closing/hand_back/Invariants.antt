use Rattle.std.proofs.Common.{◌≡◌, ◌++◌, ◌+◌, ◌≤◌, length, map, option_map, true, false, vec_len, vec_capacity}
use Rattle.std.specs.VecDeque.{deque_len}
use Rattle.seat_lock.specs.Lists.{AllOf}
use Rattle.server_crew.specs.Shifts.{all_links, HaveLost}
use Rattle.server_crew.proofs.closing.hand_back.Given as goal

-- what came back, and what is still in shifts
abbrev pub invariant-loop-shift : goal.invariant-loop-shift
invariant-loop-shift g l = record {
  retired : option_map (λ others. others ++ all_links l.shifts.items) (g.D.Door.retired l.door) ≡ option_map (λ others. others ++ all_links l.initial.shifts.items) (g.D.Door.retired l.initial.door);
  links : g.D.Door.links l.door ≡ g.D.Door.links l.initial.door;
  places : g.D.Door.places l.door + length (all_links l.initial.shifts.items) ≡ g.D.Door.places l.initial.door + length (all_links l.shifts.items);
  count : g.D.Door.faults l.door ≡ g.D.Door.faults l.initial.door;
  seats : l.seats.items ++ map (λ s. s.seat) l.shifts.items ≡ l.initial.seats.items ++ map (λ s. s.seat) l.initial.shifts.items;
  room : vec_len l.seats + length l.shifts.items ≤ vec_capacity l.seats;
  lost : l.is_spoiled ≡ true → HaveLost l.initial.shifts.items;
  left : HaveLost l.shifts.items → HaveLost l.initial.shifts.items;
  spoiled : l.is_spoiled ≡ false → AllOf (λ s. s.is_spoiled ≡ false) l.shifts.items → AllOf (λ s. s.is_spoiled ≡ false) l.initial.shifts.items;
}

abbrev pub decreases-loop-shift : goal.decreases-loop-shift
decreases-loop-shift g l = deque_len l.shifts
