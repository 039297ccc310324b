use Rattle.std.proofs.Common.{sym, ap, ◌∙◌}
use Rattle.std.specs.Str.{chars}
use Rattle.wire_json.specs.declared.steps.Step.TheVariants as step
use Rattle.drill_run.specs.Script.{reset_by}
use Rattle.drill_run.proofs.DrawnLine.{is_zero}
use Rattle.drill_run.proofs.script.reset_or_feed.Goals as goal

pub returns-then-below-eq0-clause-step : goal.returns-then-below-eq0-clause-step
unfolding chars
returns-then-below-eq0-clause-step c =
    ap (step.Reset c.args.who) c.in_ok-of.ensures ∙ sym (ap (λ b. reset_by b c.args.who) (is_zero _ (sym c.below.ensures.drawn ∙ c.if-below-eq0.true)))
