-- What holds between the steps of a walk over two operations.
use Rattle.std.proofs.Common.{◌≡◌, ◌+◌, ◌≤◌, sym, ap, ◌∙◌, arith}
use Rattle.ot_text.specs.declared.op.TheConstants.{MAX_LEN}
use Rattle.ot_text.specs.Change.{Change, base, target, inserted, then, nothing}
use Rattle.ot_text.proofs.Then.{then_assoc, then-nothing, base-then, target-then}
use Rattle.ot_transform.specs.declared.step.Step.{Step}
use Rattle.ot_transform.specs.Step.{left_step, right_step, StepFits}
use Rattle.ot_transform.specs.Transform.{left, right}
use Rattle.ot_transform.specs.Walk.{Leads, IsOver}
use Rattle.ot_transform.proofs.LeftLengths.{target-left-le, target-right-le}
use Rattle.ot_transform.proofs.Merge.{base-left, base-right}
use Rattle.ot_transform.proofs.LeftStep.{left-step, right-step}

-- what is made, and `left` of what is left of both, is the whole
abbrev pub IsLeftSoFar : Change → Change → Change → Change → Type 0
IsLeftSoFar whole made a b = then made (left a b) ≡ whole

-- what is made, and `right` of what is left of both, is the whole
abbrev pub IsRightSoFar : Change → Change → Change → Change → Type 0
IsRightSoFar whole made a b = then made (right b a) ≡ whole

-- one step further, what is made of `left` and what is left to do are still the whole
pub left_so_far : (whole made : Change) (step : Step) (a b a' b' : Change) → Leads step a b a' b'
    → IsLeftSoFar whole made a b → IsLeftSoFar whole (then made (left_step step)) a' b'
left_so_far whole made step a b a' b' h e =
    then_assoc made (left_step step) (left a' b') ∙ ap (then made) (sym (left-step step a b a' b' h)) ∙ e

-- one step further, what is made of `right` and what is left to do are still the whole
pub right_so_far : (whole made : Change) (step : Step) (a b a' b' : Change) → Leads step a b a' b'
    → IsRightSoFar whole made a b → IsRightSoFar whole (then made (right_step step)) a' b'
right_so_far whole made step a b a' b' h e =
    then_assoc made (right_step step) (right b' a') ∙ ap (then made) (sym (right-step step a b a' b' h)) ∙ e

-- at the end what is made is `left`
pub left_at_end : (whole made a b : Change) → IsOver a b → IsLeftSoFar whole made a b → made ≡ whole
left_at_end whole made a b over e =
    sym (then-nothing made)
    ∙ ap (λ x. then made (left x nothing)) (sym over.first)
    ∙ ap (λ x. then made (left a x)) (sym over.second)
    ∙ e

-- at the end what is made is `right`
pub right_at_end : (whole made a b : Change) → IsOver a b → IsRightSoFar whole made a b → made ≡ whole
right_at_end whole made a b over e =
    sym (then-nothing made)
    ∙ ap (λ x. then made (right nothing x)) (sym over.first)
    ∙ ap (λ x. then made (right x a)) (sym over.second)
    ∙ e

-- a part of an operation is no longer than the whole
base-part-le : (made step rest whole : Change) → then (then made step) rest ≡ whole
    → base made + base step ≤ base whole
base-part-le made step rest whole e = omega (arith, ap base e, base-then (then made step) rest, base-then made step)

target-part-le : (made step rest whole : Change) → then (then made step) rest ≡ whole
    → target made + target step ≤ target whole
target-part-le made step rest whole e = omega (arith, ap target e, target-then (then made step) rest, target-then made step)

-- there is room for what a step does in `left`
pub left_fits : (x y made : Change) (step : Step) (a b a' b' : Change) → base x ≡ base y
    → target y + inserted x ≤ MAX_LEN → Leads step a b a' b' → IsLeftSoFar (left x y) made a b
    → StepFits made (left_step step)
left_fits x y made step a b a' b' same room h e =
    let whole : IsLeftSoFar (left x y) (then made (left_step step)) a' b' =
    left_so_far (left x y) made step a b a' b' h e in
    record {
      of_base = omega (arith, base-part-le made (left_step step) (left a' b') (left x y) whole, base-left x y same);
      of_target = omega (arith, target-part-le made (left_step step) (left a' b') (left x y) whole, target-left-le x y same);
    }

-- there is room for what a step does in `right`
pub right_fits : (x y made : Change) (step : Step) (a b a' b' : Change) → base x ≡ base y
    → target x + inserted y ≤ MAX_LEN → Leads step a b a' b' → IsRightSoFar (right y x) made a b
    → StepFits made (right_step step)
right_fits x y made step a b a' b' same room h e =
    let whole : IsRightSoFar (right y x) (then made (right_step step)) a' b' =
    right_so_far (right y x) made step a b a' b' h e in
    record {
      of_base = omega (arith, base-part-le made (right_step step) (right b' a') (right y x) whole, base-right x y same);
      of_target = omega (arith, target-part-le made (right_step step) (right b' a') (right y x) whole, target-right-le x y same);
    }
