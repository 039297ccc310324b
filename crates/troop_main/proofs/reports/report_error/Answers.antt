use Rattle.std.proofs.Common.{ℕ, List, ◌++◌, codes, decimal, refl, subst}
use Rattle.replay_run.specs.Ports.{port_of, Reported}
use Rattle.troop_main.proofs.ReportsEnd.{reported_as}
use Rattle.troop_main.proofs.reports.report_error.Goals as goal

pub returns-in-ReadFault-clause-ends : goal.returns-in-ReadFault-clause-ends
returns-in-ReadFault-clause-ends g c = reported_as _ _ _ _ c.in-ReadFault.is c.report.ensures.status c.report.ensures.line

pub returns-in-WriteFault-clause-ends : goal.returns-in-WriteFault-clause-ends
returns-in-WriteFault-clause-ends g c = reported_as _ _ _ _ c.in-WriteFault.is c.report-in-WriteFault.ensures.status c.report-in-WriteFault.ensures.line

pub returns-in-NetFault-clause-ends : goal.returns-in-NetFault-clause-ends
returns-in-NetFault-clause-ends g c = reported_as _ _ _ _ c.in-NetFault.is c.report-in-NetFault.ensures.status c.report-in-NetFault.ensures.line

pub returns-in-BadInput-clause-ends : goal.returns-in-BadInput-clause-ends
returns-in-BadInput-clause-ends g c = reported_as _ _ _ _ c.in-BadInput.is c.report-in-BadInput.ensures.status c.report-in-BadInput.ensures.line

pub returns-in-TooMuch-clause-ends : goal.returns-in-TooMuch-clause-ends
returns-in-TooMuch-clause-ends g c = reported_as _ _ _ _ c.in-TooMuch.is c.report-in-TooMuch.ensures.status c.report-in-TooMuch.ensures.line

pub returns-in-Memory-clause-ends : goal.returns-in-Memory-clause-ends
returns-in-Memory-clause-ends g c = reported_as _ _ _ _ c.in-Memory.is c.report-in-Memory.ensures.status c.report-in-Memory.ensures.line

pub returns-in-Dropped-clause-ends : goal.returns-in-Dropped-clause-ends
returns-in-Dropped-clause-ends g c = reported_as _ _ _ _ c.in-Dropped.is refl c.report_number.ensures.line

pub returns-in-BadPeer-clause-ends : goal.returns-in-BadPeer-clause-ends
returns-in-BadPeer-clause-ends g c =
    let err = port_of (g.E.Sink.taken c.args.err.now) (g.E.Sink.taken c.report_number-in-BadPeer.new.err) (g.E.Sink.faults c.args.err.now) (g.E.Sink.faults c.report_number-in-BadPeer.new.err) in
    reported_as _ _ _ err c.in-BadPeer.is refl
    (subst (λ (words : List ℕ). Reported err (words ++ (decimal c.in-BadPeer.line ++ codes "\n"))) c.bad_peer_on.ensures c.report_number-in-BadPeer.ensures.line)

pub returns-in-LongRequest-clause-ends : goal.returns-in-LongRequest-clause-ends
returns-in-LongRequest-clause-ends g c = reported_as _ _ _ _ c.in-LongRequest.is refl c.report_number-in-LongRequest.ensures.line
