use Rattle.std.proofs.Common.{◌≡◌, ℕ, List, ◌++◌, codes, Some, inl, inr, refl, ◌∙◌, subst}
use Rattle.activities.specs.declared.errors.PerformError.TheVariants as error
use Rattle.wire_print.specs.Printed.{printed_line, reply_data}
use Rattle.replay_run.specs.Ports.{port_of, Reported}
use Rattle.troop_main.proofs.reports.report_refusal.Goals as goal

pub returns-in_default-clause-ends : goal.returns-in_default-clause-ends
returns-in_default-clause-ends g c = record { told = Some error.Memory; told_as = inr ((c.args.reply, refl), refl); code_is = c.report.ensures.status; reported = c.report.ensures.line }

pub returns-clause-ends : goal.returns-clause-ends
returns-clause-ends g c =
    let line : c.as_slice.result.now ≡ printed_line (reply_data c.args.reply) = c.as_slice.ensures.value ∙ c.in-Ok.ensures.line in
    let err = port_of (g.E.Sink.taken c.args.err.now) (g.E.Sink.taken c.report_parts.new.err) (g.E.Sink.faults c.args.err.now) (g.E.Sink.faults c.report_parts.new.err) in
    record {
      told = Some (error.Refused c.args.reply);
      told_as = inl refl;
      code_is = refl;
      reported = subst (λ (l : List ℕ). Reported err (codes "troop: refused " ++ l)) line c.report_parts.ensures.line;
    }
