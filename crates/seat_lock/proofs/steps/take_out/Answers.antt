use Rattle.std.proofs.Common.{rules, ◌∷◌, ◌∙◌, ap, sym, Some}
use Rattle.atomic_table.specs.Table.{rest}
use Rattle.seat_lock.proofs.steps.take_out.Goals as goal

pub exchange-requires : goal.exchange-requires
exchange-requires g c = let h = c.requires.held in (search rules, (Some h.0, h.1 ∙ ap (λ l. (0, Some h.0) ∷ l) (sym (ap rest h.1))))
