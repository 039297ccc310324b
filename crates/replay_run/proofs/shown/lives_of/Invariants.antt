use Rattle.std.proofs.Common.{◌≡◌, map, take}
use Rattle.replay_run.proofs.shown.lives_of.Given as goal

-- the bytes of the buried lives so far
abbrev pub invariant-loop-life : goal.invariant-loop-life
invariant-loop-life l = map (λ life. life.items) l.lives.items ≡ map (λ life. life.items) (take l.life-index l.life-items)
