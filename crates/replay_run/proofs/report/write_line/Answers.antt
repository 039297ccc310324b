use Rattle.replay_run.proofs.Reports.{reported}
use Rattle.replay_run.proofs.report.write_line.Goals as goal

pub returns-clause-line : goal.returns-clause-line
returns-clause-line g c = reported _ _ _ _ _ _ c.write_all.ensures.bytes c.write_all.ensures.cause
