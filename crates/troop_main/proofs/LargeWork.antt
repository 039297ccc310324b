-- Statuses of a drill and of a jam.
use Rattle.std.proofs.Common.{◌≡◌, ◌≢◌, ℕ, Option, arith}
use Rattle.std.specs.Prelude.{Some, None}
use Rattle.replay_run.specs.declared.outcome.Outcome.{Outcome}
use Rattle.replay_run.specs.declared.outcome.Outcome.TheVariants as outcome
use Rattle.replay_run.specs.Outcome.{code_of}
use Rattle.replay_run.specs.Ports.{Port}
use Rattle.drill_run.specs.Drills.{SaysDrilled, Drills}
use Rattle.jam_run.specs.declared.runs.Jammed.{Jammed}
use Rattle.jam_run.specs.Jams.{SaysJam, Jams}

drilled_by : (seed steps : ℕ) (o : Outcome) (code : ℕ) (out : Port) → SaysDrilled seed steps o out → code ≡ code_of o → code ≢ 2
drilled_by seed steps outcome.Done code out says is two = absurd (omega (arith, is, two))
drilled_by seed steps outcome.Usage code out says is two = absurd says
drilled_by seed steps outcome.Memory code out says is two = absurd (omega (arith, is, two))
drilled_by seed steps outcome.ReadFault code out says is two = absurd says
drilled_by seed steps outcome.WriteFault code out says is two = absurd (omega (arith, is, two))
drilled_by seed steps outcome.NetFault code out says is two = absurd says
drilled_by seed steps (outcome.BadLine n) code out says is two = absurd says
drilled_by seed steps outcome.TooMuch code out says is two = absurd says

-- a drill's status is not that of usage
pub drill_not_usage : (seed steps code : ℕ) (out err : Port) → Drills seed steps code out err → code ≢ 2
drill_not_usage seed steps code out err run = drilled_by seed steps run.outcome code out run.says run.code_is

jammed_by : (performers calls seed : ℕ) (o : Outcome) (handed : Option Jammed) (code : ℕ) (out : Port) → SaysJam performers calls seed o handed out → code ≡ code_of o → code ≢ 2
jammed_by performers calls seed outcome.Done handed code out says is two = absurd (omega (arith, is, two))
jammed_by performers calls seed outcome.Usage handed code out says is two = absurd says
jammed_by performers calls seed outcome.Memory handed code out says is two = absurd (omega (arith, is, two))
jammed_by performers calls seed outcome.ReadFault handed code out says is two = absurd says
jammed_by performers calls seed outcome.WriteFault handed code out says is two = absurd (omega (arith, is, two))
jammed_by performers calls seed outcome.NetFault handed code out says is two = absurd says
jammed_by performers calls seed (outcome.BadLine n) handed code out says is two = absurd says
jammed_by performers calls seed outcome.TooMuch handed code out says is two = absurd says

-- nor is a jam's
pub jam_not_usage : (performers calls seed code : ℕ) (handed : Option Jammed) (out err : Port) → Jams performers calls seed code handed out err → code ≢ 2
jam_not_usage performers calls seed code handed out err run = jammed_by performers calls seed run.outcome handed code out run.says run.code_is
