use Rattle.std.proofs.Common.{decimal, ◌++◌}
use Rattle.replay_run.proofs.Reports.{reported_behind, reported_short}
use Rattle.replay_run.proofs.report.report_number.Goals as goal

pub returns-in-All-clause-line : goal.returns-in-All-clause-line
returns-in-All-clause-line g c = reported_behind c.args.before.now (decimal c.args.number ++ c.args.behind.now) _ _ _ _ _ _ c.in-All.ensures.bytes c.in-All.ensures.cause c.report_from_number.ensures.line

pub returns-in-Part-clause-line : goal.returns-in-Part-clause-line
returns-in-Part-clause-line g c = reported_short c.args.before.now (decimal c.args.number ++ c.args.behind.now) c.in-Part.field-0 _ _ _ _ c.in-Part.ensures.bytes.1 c.in-Part.ensures.cause
