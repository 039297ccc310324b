use Rattle.std.proofs.Common.{ℕ, List, Bool}
use Rattle.jam_run.specs.Playing.{Plays, IsSameLater}
use Rattle.jam_run.proofs.bursts.exchange.Given as goal

abbrev pub invariant-loop : goal.invariant-loop
invariant-loop g l = record {
  same : IsSameLater l.hall l.initial.player l.player;
  playing : (seed sent owed n : ℕ) (steps : List Bool) → Plays seed steps sent owed l.initial.player n → Plays seed steps sent owed l.player n;
}
