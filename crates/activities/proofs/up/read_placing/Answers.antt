use Rattle.std.proofs.Common.{[], inl, refl}
use Rattle.activities.proofs.GaveLines.{gave_none}
use Rattle.activities.proofs.up.read_placing.Goals as goal

pub returns-in-End-clause-read : goal.returns-in-End-clause-read
returns-in-End-clause-read g c = let l = c.in-End.ensures.line in rw c.wrong.ensures ([], _, gave_none _, l.0, (refl, (refl, l.1)))

pub returns-in-Long-clause-read : goal.returns-in-Long-clause-read
returns-in-Long-clause-read g c = let l = rw c.requires.is_open.2 at c.in-Long.ensures.line in rw c.wrong-in-Long.ensures ([], _, gave_none _, l.0, (refl, (refl, l.1)))

pub returns-in-Fault-clause-read : goal.returns-in-Fault-clause-read
returns-in-Fault-clause-read g c = ([], _, gave_none _, c.in-Fault.ensures.line, refl)

pub returns-in-Memory-clause-read : goal.returns-in-Memory-clause-read
returns-in-Memory-clause-read g c = let l = rw c.requires.is_open.2 at c.in-Memory.ensures.line in ([], _, gave_none _, (l.0, l.1), inl (refl, l))
