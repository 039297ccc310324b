use Rattle.std.proofs.Common.{List, sym, subst}
use Rattle.troop_entry.specs.declared.row.Row.{Row}
use Rattle.world_core.specs.WorldInvariant.{IsWorld}
use Rattle.world_core.proofs.IsWorld.{world_guest}
use Rattle.world_core.proofs.world.World.guest.Goals as goal

pub invariant_of-self-2 : goal.invariant_of-self-2
invariant_of-self-2 c =
    subst (λ (rows : List Row). IsWorld rows c.self.inside.performers.items c.self.inside.last_rows.items) (sym c.in_ok-serve.ensures.row)
    (world_guest c.self.inside.desk c.self.inside.performers.items c.self.inside.last_rows.items c.in_ok-try_clone.field-0 c.args.lang c.self.invariant)
