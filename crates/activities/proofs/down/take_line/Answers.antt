use Rattle.std.proofs.Common.{ℕ, [], inl, refl, sym, subst}
use Rattle.activities.specs.Counts.{CountsResult}
use Rattle.activities.proofs.GaveLines.{gave_none}
use Rattle.activities.proofs.TookDown.{unfailed}
use Rattle.activities.proofs.down.take_line.Goals as goal

pub returns-in-End-clause-took : goal.returns-in-End-clause-took
returns-in-End-clause-took g c = let l = c.in-End.ensures.line in rw c.wrong.ensures ([], _, gave_none _, l.0, refl, (refl, (refl, l.1)))

pub returns-in-Long-clause-took : goal.returns-in-Long-clause-took
returns-in-Long-clause-took g c = let l = rw c.requires.is_open.2 at c.in-Long.ensures.line in rw c.wrong-in-Long.ensures ([], _, gave_none _, l.0, refl, (refl, (refl, l.1)))

pub returns-in-Fault-clause-took : goal.returns-in-Fault-clause-took
returns-in-Fault-clause-took g c = ([], _, gave_none _, c.in-Fault.ensures.line, refl, refl)

pub returns-in-Memory-clause-took : goal.returns-in-Memory-clause-took
returns-in-Memory-clause-took g c = let l = rw c.requires.is_open.2 at c.in-Memory.ensures.line in ([], _, gave_none _, (l.0, l.1), refl, inl (refl, l))

pub returns-in-Ok-clause-faults : goal.returns-in-Ok-clause-faults
returns-in-Ok-clause-faults g c =
    let before = g.L.Source.faults c.args.link.now in
    subst (λ (n : ℕ). CountsResult c.take_entry.result before n) (sym c.in-Text.ensures.cause) (c.take_entry.ensures.faults before)

pub returns-in-Ok-clause-bare : goal.returns-in-Ok-clause-bare
returns-in-Ok-clause-bare g c = unfailed c.take_entry.result _ (c.take_entry.ensures.faults 0)
