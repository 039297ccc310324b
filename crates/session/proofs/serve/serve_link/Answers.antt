use Rattle.std.proofs.Common.{rules, ◌≡◌}
use Rattle.wire_lines.specs.Reader.{held_bytes}
use Rattle.session.proofs.OpensSession.{served_line, served_long, served_fault}
use Rattle.session.proofs.serve.serve_link.Goals as goal

pub returns-in-Text-clause-session : goal.returns-in-Text-clause-session
returns-in-Text-clause-session g c =
    let untouched : g.L.Sink.taken c.next.new.source ≡ g.L.Sink.taken c.args.link.now = search rules in
    served_line c.in-Text.line c.deref.result.now c.new-reader.result c.next.new.self (held_bytes c.open.new.reader) c.args.seat.now c.open.new.seat c.open.result _ _ _ _ _ _ c.new-reader.ensures c.in-Text.ensures.line c.deref.ensures.value untouched c.open.ensures.session

pub returns-in-Long-clause-session : goal.returns-in-Long-clause-session
returns-in-Long-clause-session g c =
    let untouched : g.L.Sink.taken c.next.new.source ≡ g.L.Sink.taken c.args.link.now = search rules in
    served_long c.new-reader.result c.next.new.self c.args.seat.now c.send_off.result _ _ _ _ _ _ c.new-reader.ensures c.in-Long.ensures.line untouched c.send_off.ensures.bytes

pub returns-in-Fault-clause-session : goal.returns-in-Fault-clause-session
returns-in-Fault-clause-session g c =
    let untouched : g.L.Sink.taken c.next.new.source ≡ g.L.Sink.taken c.args.link.now = search rules in
    served_fault c.new-reader.result c.next.new.self c.args.seat.now _ _ _ _ c.new-reader.ensures c.in-Fault.ensures.line untouched
