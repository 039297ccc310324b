use Rattle.std.proofs.Common.{ap, ◌∙◌}
use Rattle.std.specs.Str.{chars}
use Rattle.wire_json.specs.declared.steps.Step.TheVariants as step
use Rattle.drill_run.proofs.script.join.Goals as goal

pub returns : goal.returns
unfolding chars
returns c =
    ap (λ name. step.Join name c.args.lang c.in_ok-of-2.field-0) c.in_ok-of.ensures
    ∙ ap (step.Join (chars c.args.name.now) c.args.lang) c.in_ok-of-2.ensures
