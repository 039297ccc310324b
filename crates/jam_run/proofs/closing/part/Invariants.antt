use Rattle.std.proofs.Common.{◌≡◌, ◌∷◌, map}
use Rattle.jam_run.specs.declared.player.Player.{Player}
use Rattle.jam_run.proofs.closing.part.Given as goal

abbrev pub invariant-loop-player : goal.invariant-loop-player
invariant-loop-player l = record {
  seats : l.seats.items ≡ l.fn.first ∷ map (λ (p : Player). p.seat) l.yielded;
  stages : l.stages.items ≡ map (λ (p : Player). p.stage) l.yielded;
}
