use Rattle.replay_run.specs.Ports.{Port, port_of}
use Rattle.replay_run.specs.Runs.{Replays}
use Rattle.replay_run.proofs.Exactly.{run_is_exact, run_is_headline, run_is_complete}
use Rattle.replay_run.proofs.runs.replay_upto.Goals as goal

pub returns-clause-headline : goal.returns-clause-headline
returns-clause-headline g c =
    let input : Port = port_of (g.I.Source.remaining c.args.input.now) (g.I.Source.remaining c.run.new.input) (g.I.Source.faults c.args.input.now) (g.I.Source.faults c.run.new.input) in
    let out : Port = port_of (g.O.Sink.taken c.args.out.now) (g.O.Sink.taken c.run.new.out) (g.O.Sink.faults c.args.out.now) (g.O.Sink.faults c.run.new.out) in
    let err : Port = port_of (g.E.Sink.taken c.args.err.now) (g.E.Sink.taken c.report.new.err) (g.E.Sink.faults c.args.err.now) (g.E.Sink.faults c.report.new.err) in
    let table : Replays c.args.limit c.report.result.code input out err = record { outcome = c.run.result; says = c.run.ensures.says; code_is = c.report.ensures.status; reported = c.report.ensures.line } in
    run_is_headline c.args.limit c.report.result.code input out err table

pub returns-clause-exact : goal.returns-clause-exact
returns-clause-exact g c =
    let input : Port = port_of (g.I.Source.remaining c.args.input.now) (g.I.Source.remaining c.run.new.input) (g.I.Source.faults c.args.input.now) (g.I.Source.faults c.run.new.input) in
    let out : Port = port_of (g.O.Sink.taken c.args.out.now) (g.O.Sink.taken c.run.new.out) (g.O.Sink.faults c.args.out.now) (g.O.Sink.faults c.run.new.out) in
    let err : Port = port_of (g.E.Sink.taken c.args.err.now) (g.E.Sink.taken c.report.new.err) (g.E.Sink.faults c.args.err.now) (g.E.Sink.faults c.report.new.err) in
    let table : Replays c.args.limit c.report.result.code input out err = record { outcome = c.run.result; says = c.run.ensures.says; code_is = c.report.ensures.status; reported = c.report.ensures.line } in
    run_is_exact c.args.limit c.report.result.code input out err table

pub returns-clause-complete : goal.returns-clause-complete
returns-clause-complete g c =
    let input : Port = port_of (g.I.Source.remaining c.args.input.now) (g.I.Source.remaining c.run.new.input) (g.I.Source.faults c.args.input.now) (g.I.Source.faults c.run.new.input) in
    let out : Port = port_of (g.O.Sink.taken c.args.out.now) (g.O.Sink.taken c.run.new.out) (g.O.Sink.faults c.args.out.now) (g.O.Sink.faults c.run.new.out) in
    let err : Port = port_of (g.E.Sink.taken c.args.err.now) (g.E.Sink.taken c.report.new.err) (g.E.Sink.faults c.args.err.now) (g.E.Sink.faults c.report.new.err) in
    let table : Replays c.args.limit c.report.result.code input out err = record { outcome = c.run.result; says = c.run.ensures.says; code_is = c.report.ensures.status; reported = c.report.ensures.line } in
    run_is_complete c.args.limit c.report.result.code input out err table
