use Rattle.std.proofs.Common.{rules, refl}
use Rattle.server_crew.proofs.InTaking.{taking_none, taking_more, marks_same}
use Rattle.server_crew.proofs.acceptor.accept_all.Goals as goal

pub loop-init : goal.loop-init
loop-init g c = record { marks = (refl, refl); retired = refl; taking = taking_none _ _ _ _; count = refl }

pub loop-preserved : goal.loop-preserved
loop-preserved g c = record {
  marks = marks_same c.args.end.now c.loop.end c.put.new.end (record { number = 0; link = c.in-Link.link }) c.loop.invariant.marks c.put.ensures;
  retired = search rules;
  taking = taking_more _ _ _ _ _ _ _ _ _ _ _ _ (record { number = 0; link = c.in-Link.link }) c.loop.invariant.taking c.in-Link.ensures.links c.put.ensures c.in-Link.ensures.places c.one_fewer-rest.ensures;
  count = search rules;
}
