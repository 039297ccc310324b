use Rattle.std.proofs.Common.{◌≡◌, ◌+◌, sym, ap, ◌∙◌, subst, IfOk}
use Rattle.wire_json.specs.declared.steps.Step.{Step}
use Rattle.wire_json.specs.declared.steps.Step.TheVariants as step
use Rattle.world_core.specs.Values.{state_of}
use Rattle.draws.specs.Edits.{drawn_edit, number_after_edit}
use Rattle.draws.specs.Numbers.{drawn_below}
use Rattle.drill_run.specs.declared.kind.Kind.{Kind}
use Rattle.drill_run.specs.declared.kind.Kind.TheVariants as kind
use Rattle.drill_run.specs.Script.{DrawnStep, drawn_line, held_length, kind_of, step_drawn}
use Rattle.drill_run.proofs.DrawnLine.{drawn_as, on_ok}
use Rattle.drill_run.proofs.script.drawn_line.Goals as goal
use Rattle.drill_run.proofs.script.drawn_line.Goals.{After-below-2}

-- what the step is drawn as, by its kind
drawn : (c : After-below-2) (k : Kind) → k ≡ kind_of c.below.result
    → drawn_line (state_of c.args.world.now) c.args.draws.now ≡ step_drawn k (c.below-2.result + 1) (held_length (c.below-2.result + 1) (state_of c.args.world.now)) c.below-2.new.self
drawn c k is =
    drawn_as (state_of c.args.world.now) c.args.draws.now c.below.result c.below.new.self c.below-2.new.self c.below-2.result k c.below.ensures.drawn c.below.ensures.number c.below-2.ensures.drawn c.below-2.ensures.number is

pub returns-in_ok-edit-in-Edit-clause-step : goal.returns-in_ok-edit-in-Edit-clause-step
returns-in_ok-edit-in-Edit-clause-step c =
    ap (step.Edit (c.below-2.result + 1)) (c.in_ok-edit-in-Edit.ensures.drawn ∙ ap (λ n. drawn_edit n c.below-2.new.self) c.held_length.ensures.value)
    ∙ sym (ap (λ (line : DrawnStep). line.step) (drawn (goal.at.returns-in_ok-edit-in-Edit-clause-step c).After-below-2 kind.Edit c.in-Edit.ensures))

pub returns-in_ok-edit-in-Edit-clause-number : goal.returns-in_ok-edit-in-Edit-clause-number
returns-in_ok-edit-in-Edit-clause-number c =
    c.in_ok-edit-in-Edit.ensures.number ∙ ap (λ n. number_after_edit n c.below-2.new.self) c.held_length.ensures.value ∙ sym (ap (λ (line : DrawnStep). line.number) (drawn (goal.at.returns-in_ok-edit-in-Edit-clause-number c).After-below-2 kind.Edit c.in-Edit.ensures))

pub returns-in-Serve-clause-step : goal.returns-in-Serve-clause-step
returns-in-Serve-clause-step c = sym (ap (λ (line : DrawnStep). line.step) (drawn (goal.at.returns-in-Serve-clause-step c).After-below-2 kind.Serve c.in-Serve.ensures))

pub returns-in-Serve-clause-number : goal.returns-in-Serve-clause-number
returns-in-Serve-clause-number c = sym (ap (λ (line : DrawnStep). line.number) (drawn (goal.at.returns-in-Serve-clause-number c).After-below-2 kind.Serve c.in-Serve.ensures))

pub returns-in-Take-clause-step : goal.returns-in-Take-clause-step
returns-in-Take-clause-step c = sym (ap (λ (line : DrawnStep). line.step) (drawn (goal.at.returns-in-Take-clause-step c).After-below-2 kind.Take c.in-Take.ensures))

pub returns-in-Take-clause-number : goal.returns-in-Take-clause-number
returns-in-Take-clause-number c = sym (ap (λ (line : DrawnStep). line.number) (drawn (goal.at.returns-in-Take-clause-number c).After-below-2 kind.Take c.in-Take.ensures))

pub returns-in-Eval-clause-step : goal.returns-in-Eval-clause-step
returns-in-Eval-clause-step c =
    ap (step.Eval (c.below-2.result + 1)) (c.below-in-Eval.ensures.drawn ∙ ap (λ n. drawn_below (n + 1) c.below-2.new.self) c.held_length-in-Eval.ensures.value) ∙ sym (ap (λ (line : DrawnStep). line.step) (drawn (goal.at.returns-in-Eval-clause-step c).After-below-2 kind.Eval c.in-Eval.ensures))

pub returns-in-Eval-clause-number : goal.returns-in-Eval-clause-number
returns-in-Eval-clause-number c = c.below-in-Eval.ensures.number ∙ sym (ap (λ (line : DrawnStep). line.number) (drawn (goal.at.returns-in-Eval-clause-number c).After-below-2 kind.Eval c.in-Eval.ensures))

pub returns-in-Feed-clause-step : goal.returns-in-Feed-clause-step
returns-in-Feed-clause-step c = c.feed.ensures.step ∙ sym (ap (λ (line : DrawnStep). line.step) (drawn (goal.at.returns-in-Feed-clause-step c).After-below-2 kind.Feed c.in-Feed.ensures))

pub returns-in-Feed-clause-number : goal.returns-in-Feed-clause-number
returns-in-Feed-clause-number c = c.feed.ensures.number ∙ sym (ap (λ (line : DrawnStep). line.number) (drawn (goal.at.returns-in-Feed-clause-number c).After-below-2 kind.Feed c.in-Feed.ensures))

pub returns-in-ResetOrFeed-clause-step : goal.returns-in-ResetOrFeed-clause-step
returns-in-ResetOrFeed-clause-step c =
    subst (λ (t : Step). IfOk c.reset_or_feed.result (λ s. s ≡ t)) (sym (ap (λ (line : DrawnStep). line.step) (drawn (goal.at.returns-in-ResetOrFeed-clause-step c).After-below-2 kind.ResetOrFeed c.in-ResetOrFeed.ensures))) c.reset_or_feed.ensures.step

pub returns-in-ResetOrFeed-clause-number : goal.returns-in-ResetOrFeed-clause-number
returns-in-ResetOrFeed-clause-number c = on_ok c.reset_or_feed.result (c.reset_or_feed.ensures.number ∙ sym (ap (λ (line : DrawnStep). line.number) (drawn (goal.at.returns-in-ResetOrFeed-clause-number c).After-below-2 kind.ResetOrFeed c.in-ResetOrFeed.ensures)))
