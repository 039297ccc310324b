use Rattle.jam_run.proofs.IsLater.{same_then}
use Rattle.jam_run.proofs.player.make_bursts.Goals as goal

pub loop-made-preserved : goal.loop-made-preserved
loop-made-preserved g c = record {
  same = same_then c.args.hall.now c.args.player.now c.loop-made.player c.burst.new.player c.loop-made.invariant.same c.burst.ensures.same;
  resting = λ seed h. c.in_ok-burst.ensures.made seed c.loop-made.made (c.loop-made.invariant.resting seed h);
}
