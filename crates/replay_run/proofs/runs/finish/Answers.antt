use Rattle.std.proofs.Common.{ap, ◌∙◌}
use Rattle.troop_ports.specs.Bytes.{at_end}
use Rattle.replay_run.specs.Ports.{port_of}
use Rattle.replay_run.proofs.Reports.{took_part_of}
use Rattle.replay_run.proofs.runs.finish.Goals as goal

pub returns-clause-ends : goal.returns-clause-ends
returns-clause-ends g c = (
  c.in-Part.ensures.cause,
  took_part_of c.in-Part.field-0 c.deref.result.now _ (port_of (g.O.Sink.taken c.args.out.now) (g.O.Sink.taken c.write_all.new.sink) 0 0) (c.deref.ensures.value ∙ c.in-Ok.ensures.shown) c.in-Part.ensures.bytes.1,
)

pub returns-in-All-clause-ends : goal.returns-in-All-clause-ends
returns-in-All-clause-ends g c = (
  c.in-All.ensures.cause,
  c.in-All.ensures.bytes ∙ ap (at_end (g.O.Sink.taken c.args.out.now)) (c.deref.ensures.value ∙ c.in-Ok.ensures.shown),
  c.show_world.ensures.sound,
)
