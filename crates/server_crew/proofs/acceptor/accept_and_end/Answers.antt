use Rattle.server_crew.proofs.InTaking.{taken_behind}
use Rattle.server_crew.proofs.acceptor.accept_and_end.Goals as goal

pub returns-clause-taken : goal.returns-clause-taken
returns-clause-taken g c = taken_behind _ _ _ _ _ _ _ _ _ c.accept_all-failed.ensures.taken c.loop-told.invariant.same
