use Rattle.std.proofs.Common.{subst}
use Rattle.world_core.specs.Sound.{IsSoundWorld}
use Rattle.world_core.specs.Values.{WorldValue, state_of}
use Rattle.world_core.proofs.IsSoundWorld.{kept_counts, kept_sound}
use Rattle.world_core.proofs.world.World.step.Goals as goal

pub returns-clause-sound : goal.returns-clause-sound
returns-clause-sound c =
    subst (λ (w : WorldValue). IsSoundWorld (state_of w)) c.self.view_is (kept_sound c.self.inside.desk c.self.inside.performers.items c.self.inside.last_rows.items c.self.invariant)

pub returns-clause-faults : goal.returns-clause-faults
returns-clause-faults c = kept_counts c.self.inside.desk c.self.inside.performers.items c.self.inside.last_rows.items c.take_step-told.new.self c.self.invariant c.self.view_is
