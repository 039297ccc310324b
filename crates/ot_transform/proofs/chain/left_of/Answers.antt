use Rattle.std.proofs.Common.{◌∙◌}
use Rattle.ot_transform.proofs.LeftSoFar.{left_fits, left_so_far, left_at_end}
use Rattle.ot_transform.proofs.ToGo.{bases-step, to_go-step}
use Rattle.ot_transform.proofs.chain.left_of.Goals as goal

pub put_left-requires : goal.put_left-requires
put_left-requires c =
    let so_far = c.loop-step.invariant.left_so_far in
    left_fits _ _ c.loop-step.left c.in-Some.step _ _ _ _ c.requires.bases c.requires.room c.in-Some.ensures so_far

pub loop-step-smaller : goal.loop-step-smaller
loop-step-smaller c = to_go-step c.in-Some.step _ _ _ _ c.in-Some.ensures

pub loop-step-preserved : goal.loop-step-preserved
loop-step-preserved c =
    let leads = c.in-Some.ensures in
    let so_far = c.loop-step.invariant.left_so_far in
    record {
      one_base = bases-step c.in-Some.step _ _ _ _ leads c.loop-step.invariant.one_base;
      left_so_far = rw c.in_ok-put_left.ensures.ok (left_so_far _ c.loop-step.left c.in-Some.step _ _ _ _ leads so_far);
    }

pub returns : goal.returns
returns c = c.finish.ensures ∙ left_at_end _ _ _ _ c.in_default.ensures c.loop-step.invariant.left_so_far
