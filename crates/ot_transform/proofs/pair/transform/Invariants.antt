use Rattle.ot_text.specs.Parts.{norm}
use Rattle.ot_transform.specs.Transform.{left, right}
use Rattle.ot_transform.specs.Walk.{HasOneBase}
use Rattle.ot_transform.proofs.LeftSoFar.{IsLeftSoFar, IsRightSoFar}
use Rattle.ot_transform.proofs.ToGo.{to_go}
use Rattle.ot_transform.proofs.pair.transform.Given as goal

abbrev pub invariant-loop-step : goal.invariant-loop-step
invariant-loop-step l = record {
  one_base : HasOneBase l.walk;
  left_so_far : IsLeftSoFar (left l.a l.b) l.left (norm l.walk.first) (norm l.walk.second);
  right_so_far : IsRightSoFar (right l.b l.a) l.right (norm l.walk.first) (norm l.walk.second);
}

abbrev pub decreases-loop-step : goal.decreases-loop-step
decreases-loop-step l = to_go (norm l.walk.first) (norm l.walk.second)
