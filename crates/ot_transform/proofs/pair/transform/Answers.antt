use Rattle.std.proofs.Common.{◌+◌, ◌≤◌, ◌∙◌, arith}
use Rattle.ot_text.specs.declared.op.TheConstants.{MAX_LEN}
use Rattle.ot_text.specs.Change.{target, inserted}
use Rattle.ot_text.proofs.Then.{target-le}
use Rattle.ot_transform.proofs.LeftSoFar.{left_fits, left_so_far, left_at_end, right_fits, right_so_far, right_at_end}
use Rattle.ot_transform.proofs.ToGo.{bases-step, to_go-step}
use Rattle.ot_transform.proofs.pair.transform.Goals as goal

pub put_left-requires : goal.put_left-requires
put_left-requires c =
    let so_far = c.loop-step.invariant.left_so_far in
    let room : target c.args.b.now + inserted c.args.a.now ≤ MAX_LEN =
    omega (arith, target-le c.args.b.now, c.requires.bases, c.requires.room) in
    left_fits _ _ c.loop-step.left c.in-Some.step _ _ _ _ c.requires.bases room c.in-Some.ensures so_far

pub put_right-requires : goal.put_right-requires
put_right-requires c =
    let so_far = c.loop-step.invariant.right_so_far in
    let room : target c.args.a.now + inserted c.args.b.now ≤ MAX_LEN =
    omega (arith, target-le c.args.a.now, c.requires.bases, c.requires.room) in
    right_fits _ _ c.loop-step.right c.in-Some.step _ _ _ _ c.requires.bases room c.in-Some.ensures so_far

pub loop-step-smaller : goal.loop-step-smaller
loop-step-smaller c = to_go-step c.in-Some.step _ _ _ _ c.in-Some.ensures

pub loop-step-preserved : goal.loop-step-preserved
loop-step-preserved c =
    let leads = c.in-Some.ensures in
    let before = c.loop-step.invariant in
    record {
      one_base = bases-step c.in-Some.step _ _ _ _ leads before.one_base;
      left_so_far = rw c.in_ok-put_left.ensures.ok
          (left_so_far _ c.loop-step.left c.in-Some.step _ _ _ _ leads before.left_so_far);
      right_so_far = rw c.in_ok-put_right.ensures.ok
          (right_so_far _ c.loop-step.right c.in-Some.step _ _ _ _ leads before.right_so_far);
    }

pub returns-clause-left : goal.returns-clause-left
returns-clause-left c = c.finish.ensures ∙ left_at_end _ _ _ _ c.in_default.ensures c.loop-step.invariant.left_so_far

pub returns-clause-right : goal.returns-clause-right
returns-clause-right c = c.finish-2.ensures ∙ right_at_end _ _ _ _ c.in_default.ensures c.loop-step.invariant.right_so_far
