use Rattle.std.proofs.Common.{[], inl, inr, refl}
use Rattle.activities.proofs.GaveLines.{gave_none}
use Rattle.activities.proofs.commands.do_line.Goals as goal

pub returns-in-End-clause-did : goal.returns-in-End-clause-did
returns-in-End-clause-did g c = λ k is. let l = c.in-End.ensures.line in
    inr (inr (record { last = []; rest = _; gave = gave_none _; held = l.0; written = refl; remembers = is; none = (refl, l.1) }))

pub returns-in-Long-clause-did : goal.returns-in-Long-clause-did
returns-in-Long-clause-did g c = λ k is. let l = rw c.requires.is_open.3 at c.in-Long.ensures.line in
    inr (inr (record { last = []; rest = _; gave = gave_none _; held = l.0; written = refl; remembers = is; none = (refl, inl (refl, l.1)) }))

pub returns-in-Fault-clause-did : goal.returns-in-Fault-clause-did
returns-in-Fault-clause-did g c = λ k is.
    inr (inr (record { last = []; rest = _; gave = gave_none _; held = c.in-Fault.ensures.line; written = refl; remembers = is; none = refl }))

pub returns-in-Memory-clause-did : goal.returns-in-Memory-clause-did
returns-in-Memory-clause-did g c = λ k is. let l = rw c.requires.is_open.3 at c.in-Memory.ensures.line in
    inr (inr (record { last = []; rest = _; gave = gave_none _; held = (l.0, l.1); written = refl; remembers = is; none = inl (refl, l) }))
