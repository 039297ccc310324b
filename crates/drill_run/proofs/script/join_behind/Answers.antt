use Rattle.std.proofs.Common.{◌≡◌, ℕ, IfOk, sym, subst, arith}
use Rattle.std.specs.Str.{chars}
use Rattle.wire_json.specs.declared.steps.Step.{Step}
use Rattle.drill_run.specs.Script.{join_behind}
use Rattle.drill_run.proofs.DrawnLine.{third_joins}
use Rattle.drill_run.proofs.script.join_behind.Goals as goal

pub returns-in-0 : goal.returns-in-0
unfolding chars
returns-in-0 c = subst (λ (n : ℕ). IfOk c.join.result (λ s. s ≡ join_behind n)) (sym c.in-0.is) c.join.ensures

pub returns-in-1 : goal.returns-in-1
unfolding chars
returns-in-1 c = subst (λ (n : ℕ). IfOk c.join-in-1.result (λ s. s ≡ join_behind n)) (sym c.in-1.is) c.join-in-1.ensures

pub returns-in_default : goal.returns-in_default
unfolding chars
returns-in_default c =
    let late = third_joins c.args.here (λ e. omega (arith, e)) (λ e. omega (arith, e)) in
    subst (λ (t : Step). IfOk c.join-in_default.result (λ s. s ≡ t)) (sym late) c.join-in_default.ensures
