use Rattle.std.proofs.Common.{◌≡◌, Ok, sym, ap, ◌∙◌, arith}
use Rattle.world_core.specs.Values.{state_of}
use Rattle.replay_run.specs.declared.meaning.Meaning.TheVariants as meaning
use Rattle.replay_run.specs.Script.{meaning_of, shown_meaning, stop_by}
use Rattle.replay_run.specs.Ports.{port_of}
use Rattle.replay_run.proofs.Reports.{took_part_of}
use Rattle.replay_run.proofs.StepOrEnd.{step_is}
use Rattle.replay_run.proofs.runs.play_line.Goals as goal

pub returns-clause-plays : goal.returns-clause-plays
returns-clause-plays g c =
    let is_step : meaning.Step c.in-Ok-Some.step ≡ meaning_of c.args.line.now =
    step_is c.args.number c.args.line.now c.read_line.result c.in-Ok-Some.step (ap (λ o. Ok o) (sym c.in-Ok-Some.field-0-is) ∙ sym c.in-Ok-Some.is ∙ c.step_or_end.ensures) c.read_line.ensures in (
      sym (ap (stop_by c.args.number) is_step),
      c.in-Part.ensures.cause,
      took_part_of c.in-Part.field-0 c.deref.result.now _ (port_of (g.O.Sink.taken c.args.out.now) (g.O.Sink.taken c.write_all.new.sink) 0 0)
          (c.deref.ensures.value ∙ c.in-Ok.ensures.shown ∙ ap (shown_meaning c.args.number (state_of c.args.world.now)) is_step) c.in-Part.ensures.bytes.1,
      omega (arith, c.if-line-room.false),
    )
