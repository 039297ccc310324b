use Rattle.std.proofs.Common.{◌≡◌, ◌+◌}
use Rattle.server_crew.proofs.acceptor.accept_and_end.Given as goal

-- so many marks were put, and nothing else
abbrev pub invariant-loop-told : goal.invariant-loop-told
invariant-loop-told g l = record {
  same : (l.end.queue ≡ l.initial.end.queue) × (l.end.parts ≡ l.initial.end.parts) × (l.end.put ≡ l.initial.end.put) × (l.end.taken ≡ l.initial.end.taken);
  marks : (l.end.marks_put ≡ l.initial.end.marks_put + l.told) × (l.end.marks_taken ≡ l.initial.end.marks_taken);
}
