use Rattle.std.proofs.Common.{◌∙◌}
use Rattle.replay_run.specs.Ports.{port_of}
use Rattle.troop_main.specs.Performing.{closing_lines}
use Rattle.troop_main.proofs.SaysServed.{took_part}
use Rattle.troop_main.proofs.performing.print_last.Goals as goal

pub returns-clause-prints : goal.returns-clause-prints
returns-clause-prints g c = (
  c.in-Part.ensures.cause,
  took_part c.in-Part.field-0 c.as_slice.result.now (closing_lines c.args.name.now c.args.who c.args.stage.now.staged c.args.notes.now)
      (port_of (g.O.Sink.taken c.args.out.now) (g.O.Sink.taken c.write_all.new.sink) (g.O.Sink.faults c.args.out.now) (g.O.Sink.faults c.write_all.new.sink))
      (c.as_slice.ensures.value ∙ c.in-Ok.ensures) c.in-Part.ensures.bytes.1,
)
