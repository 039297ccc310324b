use Rattle.std.proofs.Common.{refl, arith}
use Rattle.replay_run.proofs.ShownPerformers.{one_more_shown}
use Rattle.replay_run.proofs.shown.show_world.Goals as goal

pub loop-performer-preserved : goal.loop-performer-preserved
loop-performer-preserved c =
    rw (
      one_more_shown c.performers-performer-items.result.now c.loop-performer.performer-index c.performer-item.result (omega arith) c.performer-item.is,
      c.in_ok-extend_from_slice.ensures.items,
      c.loop-performer.invariant,
      c.deref.ensures.value,
      c.in_ok-show_performer.ensures,
    ) refl
