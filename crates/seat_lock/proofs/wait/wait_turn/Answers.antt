use Rattle.std.proofs.Common.{ap, ◌∙◌}
use Rattle.seat_lock.proofs.wait.wait_turn.Goals as goal

pub look_at_turn-turn-requires-clause-waiting : goal.look_at_turn-turn-requires-clause-waiting
look_at_turn-turn-requires-clause-waiting g c = let h = c.loop.invariant.1 in (ap (λ m. m.0.live) h ∙ c.requires.waiting.0, (c.args.ticket, ap (λ m. m.0.phase) h ∙ c.requires.waiting.1))
