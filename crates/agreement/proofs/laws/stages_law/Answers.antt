use Rattle.agreement.proofs.StagesAgree.{each_agrees, local_agrees, take_agrees, serve_agrees, guest_agrees, join_agrees, new_agrees, snapshot_agrees, again_kept}
use Rattle.agreement.proofs.laws.stages_law.Goals as goal

pub returns-clause-agrees : goal.returns-clause-agrees
returns-clause-agrees c = each_agrees

pub returns-clause-local : goal.returns-clause-local
returns-clause-local c = local_agrees

pub returns-clause-take : goal.returns-clause-take
returns-clause-take c = take_agrees

pub returns-clause-serve : goal.returns-clause-serve
returns-clause-serve c = serve_agrees

pub returns-clause-guest : goal.returns-clause-guest
returns-clause-guest c = guest_agrees

pub returns-clause-join : goal.returns-clause-join
returns-clause-join c = join_agrees

pub returns-clause-new : goal.returns-clause-new
returns-clause-new c = new_agrees

pub returns-clause-snapshot : goal.returns-clause-snapshot
returns-clause-snapshot c = snapshot_agrees

pub returns-clause-again : goal.returns-clause-again
returns-clause-again c = again_kept
