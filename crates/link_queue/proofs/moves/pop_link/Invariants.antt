use Rattle.std.proofs.Common.{◌≡◌, ℕ, None}
use Rattle.crossbeam_queue.specs.Passes.{view, IsPassOf, IsSamePass}
use Rattle.link_queue.specs.Balance.{with_left}
use Rattle.link_queue.proofs.moves.pop_link.Given as goal

-- marks alone were taken so far
abbrev pub invariant-loop : goal.invariant-loop
invariant-loop g l = record {
  pass : IsPassOf l.ring l.pass × IsSamePass l.initial.pass l.pass;
  left : (marks : ℕ) × (view l.pass ≡ with_left (view l.initial.pass) marks None);
}
