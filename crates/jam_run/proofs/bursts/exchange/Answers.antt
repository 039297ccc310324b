use Rattle.std.proofs.Common.{◌+◌, ◌-◌, ◌++◌, ◌∷◌, [], false}
use Rattle.jam_run.proofs.IsLater.{same_then}
use Rattle.jam_run.proofs.bursts.exchange.Goals as goal

pub returns-then-awaits-before-clause-sent : goal.returns-then-awaits-before-clause-sent
returns-then-awaits-before-clause-sent g c = λ seed sent owed n steps h.
    c.loop.invariant.playing seed (sent + 1) (owed - 1) n (steps ++ false ∷ []) (c.in_ok-send.ensures.sent seed sent owed n steps h)

pub loop-preserved : goal.loop-preserved
loop-preserved g c = record {
  same = same_then c.args.hall.now c.send.new.player c.loop.player c.take_more.new.player c.loop.invariant.same c.take_more.ensures.same;
  playing = λ seed sent owed n steps h. c.in_ok-take_more.ensures.taken seed sent owed n steps (c.loop.invariant.playing seed sent owed n steps h);
}
