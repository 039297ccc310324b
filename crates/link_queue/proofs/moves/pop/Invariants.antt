use Rattle.std.proofs.Common.{◌≡◌}
use Rattle.crossbeam_queue.specs.Passes.{view, IsPassOf, IsSamePass}
use Rattle.link_queue.proofs.moves.pop.Given as goal

abbrev pub invariant-loop : goal.invariant-loop
invariant-loop g l = record {
  pass : IsPassOf l.ring l.pass × IsSamePass l.initial.pass l.pass;
  same : view l.pass ≡ view l.initial.pass;
}
