use Rattle.std.proofs.Common.{sym, subst}
use Rattle.world_core.specs.Values.{state_of}
use Rattle.drill_run.specs.OpenWorlds.{IsOpenWorld}
use Rattle.drill_run.specs.Script.{script_numbers}
use Rattle.drill_run.specs.declared.turn.Turn.TheVariants as turn
use Rattle.drill_run.proofs.UntilUnfit.{each_open}
use Rattle.drill_run.proofs.drained.round.Goals as goal

pub each_until_unfit-requires-2 : goal.each_until_unfit-requires-2
each_until_unfit-requires-2 c =
    subst IsOpenWorld (sym c.in_ok-each_until_unfit.ensures.state) (each_open turn.Serve script_numbers (state_of c.args.world.now) c.requires)
