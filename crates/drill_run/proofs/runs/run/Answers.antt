use Rattle.std.proofs.Common.{◌∙◌}
use Rattle.replay_run.specs.Ports.{port_of}
use Rattle.drill_run.specs.Summary.{drill_line}
use Rattle.drill_run.proofs.Ends.{took_part}
use Rattle.drill_run.proofs.runs.run.Goals as goal

pub returns-clause-says : goal.returns-clause-says
returns-clause-says g c = (
  c.in-Part.ensures.cause,
  took_part c.in-Part.field-0 c.deref.result.now (drill_line c.args.seed c.args.steps) (port_of (g.O.Sink.taken c.args.out.now) (g.O.Sink.taken c.write_all.new.sink) 0 0) (c.deref.ensures.value ∙ c.in-Ok.ensures.line) c.in-Part.ensures.bytes.1,
  c.in-Ok.ensures.equal,
)
