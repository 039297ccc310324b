use Rattle.std.proofs.Common.{ℕ}
use Rattle.jam_run.specs.Playing.{Rests, IsSameLater}
use Rattle.jam_run.proofs.player.make_bursts.Given as goal

abbrev pub invariant-loop-made : goal.invariant-loop-made
invariant-loop-made g l = record {
  same : IsSameLater l.hall l.initial.player l.player;
  resting : (seed : ℕ) → Rests seed 0 l.initial.player l.initial.draws → Rests seed l.made l.player l.draws;
}
