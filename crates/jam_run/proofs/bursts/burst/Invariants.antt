use Rattle.std.proofs.Common.{◌≡◌, ◌*◌, ◌++◌, ℕ, true, replicate, min}
use Rattle.jam_run.specs.Drawing.{burst_steps}
use Rattle.jam_run.specs.Playing.{Plays, Rests, awaited}
use Rattle.jam_run.proofs.bursts.burst.Given as goal

-- so many edits were typed, and none of their calls was sent
abbrev pub invariant-loop-typed : goal.invariant-loop-typed
invariant-loop-typed g l = record {
  who : l.player.who ≡ l.initial.player.who;
  seat : l.player.seat ≡ l.initial.player.seat;
  playing : (seed bursts : ℕ) → Rests seed bursts l.initial.player l.initial.draws
      → Plays seed (burst_steps bursts ++ replicate l.typed true) (2 * bursts) (min 2 l.typed) l.player l.draws × (awaited l.player.stage.staged ≡ min 2 l.typed);
}
