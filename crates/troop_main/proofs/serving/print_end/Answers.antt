use Rattle.std.proofs.Common.{◌≡◌, ◌∙◌, ap, rules}
use Rattle.troop_ports.specs.Bytes.{at_end}
use Rattle.replay_run.specs.Ports.{port_of}
use Rattle.troop_main.specs.Serving.{server_line}
use Rattle.troop_main.proofs.SaysServed.{took_part}
use Rattle.troop_main.proofs.serving.print_end.Goals as goal

pub returns-in-All-clause-ends : goal.returns-in-All-clause-ends
returns-in-All-clause-ends g c =
    let is : c.in-Ok.line.items ≡ server_line c.args.desk.now = search rules in
    (c.in-All.ensures.cause, c.in-All.ensures.bytes ∙ ap (at_end (g.O.Sink.taken c.args.out.now)) (c.deref.ensures.value ∙ is))

pub returns-clause-ends : goal.returns-clause-ends
returns-clause-ends g c =
    let is : c.in-Ok.line.items ≡ server_line c.args.desk.now = search rules in (
      c.in-Part.ensures.cause,
      took_part c.in-Part.field-0 c.deref.result.now (server_line c.args.desk.now) (port_of (g.O.Sink.taken c.args.out.now) (g.O.Sink.taken c.write_all.new.sink) 0 0) (c.deref.ensures.value ∙ is) c.in-Part.ensures.bytes.1,
    )
