use Rattle.std.proofs.Common.{subst}
use Rattle.world_core.specs.Sound.{IsSoundWorld}
use Rattle.world_core.specs.Values.{WorldValue, state_of}
use Rattle.world_core.proofs.IsSoundWorld.{kept_numbers, kept_sound}
use Rattle.world_core.proofs.world.World.performers.Goals as goal

pub returns-clause-sound : goal.returns-clause-sound
returns-clause-sound c =
    subst (λ (w : WorldValue). IsSoundWorld (state_of w)) c.self.view_is (kept_sound c.self.inside.desk c.self.inside.performers.items c.self.inside.last_rows.items c.self.invariant)

pub returns-clause-numbers : goal.returns-clause-numbers
returns-clause-numbers c = kept_numbers c.self.inside.desk c.self.inside.performers.items c.self.inside.last_rows.items c.args.self.now c.self.invariant c.self.view_is
