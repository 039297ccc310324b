use Rattle.std.proofs.Common.{◌≡◌, length, sym, ap, ◌∙◌, subst, IfOk, arith}
use Rattle.world_core.specs.Values.{state_of}
use Rattle.drill_run.specs.Script.{DrawnStep}
use Rattle.drill_run.proofs.DrawnLine.{as_many, drawn_next, join_next, on_ok}
use Rattle.drill_run.proofs.script.script_line.Goals as goal

pub returns-then-here-lt3-clause-step : goal.returns-then-here-lt3-clause-step
returns-then-here-lt3-clause-step c =
    let many : length c.performers-here.result.now ≡ length (state_of c.args.world.now).performers = ap (λ ps. length ps) c.performers-here.ensures.performers ∙ sym (as_many c.args.world.now.performers) in
    let line = join_next (state_of c.args.world.now) c.args.draws.now (length c.performers-here.result.now) many (omega arith) in
    subst (λ (l : DrawnStep). IfOk c.join_behind.result (λ s. s ≡ l.step)) (sym line) c.join_behind.ensures

pub returns-then-here-lt3-clause-number : goal.returns-then-here-lt3-clause-number
returns-then-here-lt3-clause-number c =
    let many : length c.performers-here.result.now ≡ length (state_of c.args.world.now).performers = ap (λ ps. length ps) c.performers-here.ensures.performers ∙ sym (as_many c.args.world.now.performers) in
    on_ok c.join_behind.result (sym (ap (λ (l : DrawnStep). l.number) (join_next (state_of c.args.world.now) c.args.draws.now (length c.performers-here.result.now) many (omega arith))))

pub returns-clause-step : goal.returns-clause-step
returns-clause-step c =
    let many : length c.performers-here.result.now ≡ length (state_of c.args.world.now).performers = ap (λ ps. length ps) c.performers-here.ensures.performers ∙ sym (as_many c.args.world.now.performers) in
    c.in_ok-step.ensures.step ∙ sym (ap (λ (l : DrawnStep). l.step) (drawn_next (state_of c.args.world.now) c.args.draws.now (length c.performers-here.result.now) many (omega arith)))

pub returns-clause-number : goal.returns-clause-number
returns-clause-number c =
    let many : length c.performers-here.result.now ≡ length (state_of c.args.world.now).performers = ap (λ ps. length ps) c.performers-here.ensures.performers ∙ sym (as_many c.args.world.now.performers) in
    c.in_ok-step.ensures.number ∙ sym (ap (λ (l : DrawnStep). l.number) (drawn_next (state_of c.args.world.now) c.args.draws.now (length c.performers-here.result.now) many (omega arith)))
