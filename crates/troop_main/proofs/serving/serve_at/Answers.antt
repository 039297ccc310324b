use Rattle.troop_main.proofs.serving.serve_at.Goals as goal

pub returns-clause-table : goal.returns-clause-table
returns-clause-table g c = record { outcome = c.run.result; says = c.run.ensures.says; code_is = c.report.ensures.status; reported = c.report.ensures.line }
