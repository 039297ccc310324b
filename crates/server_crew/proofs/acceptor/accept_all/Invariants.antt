use Rattle.std.proofs.Common.{◌≡◌}
use Rattle.server_crew.specs.Accepting.{InTaking}
use Rattle.server_crew.proofs.acceptor.accept_all.Given as goal

-- what was taken so far
abbrev pub invariant-loop : goal.invariant-loop
invariant-loop g l = record {
  marks : (l.end.marks_put ≡ l.initial.end.marks_put) × (l.end.marks_taken ≡ l.initial.end.marks_taken);
  retired : g.D.Door.retired l.door ≡ g.D.Door.retired l.initial.door;
  taking : InTaking l.fn.sessions l.rest (g.D.Door.links l.initial.door) (g.D.Door.links l.door) l.initial.end l.end (g.D.Door.places l.initial.door) (g.D.Door.places l.door);
  count : g.D.Door.faults l.door ≡ g.D.Door.faults l.initial.door;
}
