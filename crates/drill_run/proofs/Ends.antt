-- How a drill ends.
use Rattle.std.proofs.Common.{◌≡◌, ◌≢◌, ℕ, true, List, [], length, take, drop, refl, sym, ap, ◌∙◌, subst}
use Rattle.std.specs.Prelude.{All}
use Rattle.std.proofs.lemmas.List.{take-append-drop}
use Rattle.log_model.specs.Log.{doc}
use Rattle.replay_run.specs.declared.outcome.Outcome.{Outcome}
use Rattle.replay_run.specs.declared.outcome.Outcome.TheVariants as outcome
use Rattle.replay_run.specs.Outcome.{code_of}
use Rattle.replay_run.specs.Ports.{IsFaulted, Port, Took, TookPrefix}
use Rattle.troop_ports.specs.Bytes.{at_end}
use Rattle.wire_print.specs.declared.summaries.DrillSummary.{DrillSummary}
use Rattle.wire_print.specs.Printed.{drill_data, printed_line}
use Rattle.world_core.specs.Sound.{IsSoundWorld}
use Rattle.world_core.specs.States.{WorldState}
use Rattle.drill_run.specs.Draining.{IsDrained, drained}
use Rattle.drill_run.specs.Drilling.{drilled}
use Rattle.drill_run.specs.Drills.{EndsEqual, IsCompleteDrill, SaysDrilled}
use Rattle.drill_run.specs.Summary.{all_hold, drill_line, drill_summary, drill_world, summary_of}
use Rattle.drill_run.proofs.AfterRound.{all_sound}
use Rattle.drill_run.proofs.IsDrained.{drained_hold}

-- a world that is sound and drained, at its end
ends_at : (seed steps : ℕ) (w : WorldState) → w ≡ drill_world seed steps → IsSoundWorld w → All (IsDrained (length w.log)) w.performers → EndsEqual seed steps
ends_at seed steps w is sound all =
    let sound_is = subst IsSoundWorld is sound in
    let all_is = subst (λ (v : WorldState). All (IsDrained (length v.log)) v.performers) is all in
    record {
      sound = sound_is;
      drained = all_is;
      equal = drained_hold (drill_world seed steps).log (drill_world seed steps).performers sound_is.legal (all_sound (drill_world seed steps) sound_is) all_is;
    }

-- the drained world behind all steps is the drill's
pub drill_world_is : (seed steps : ℕ) (v w : WorldState) → v ≡ (drilled seed steps).world → w ≡ drained v → w ≡ drill_world seed steps
drill_world_is seed steps v w before after = after ∙ ap drained before

pub ends : (seed steps : ℕ) (v w : WorldState) → v ≡ (drilled seed steps).world → w ≡ drained v → IsSoundWorld w → All (IsDrained (length w.log)) w.performers → EndsEqual seed steps
ends seed steps v w before after sound all = ends_at seed steps w (drill_world_is seed steps v w before after) sound all

-- its summary's line
pub line_is : (seed steps unfit : ℕ) (v w : WorldState) (summary : DrillSummary) (line : List ℕ) → v ≡ (drilled seed steps).world → unfit ≡ (drilled seed steps).unfit → w ≡ drained v
    → summary ≡ summary_of seed steps unfit w → line ≡ printed_line (drill_data summary) → line ≡ drill_line seed steps
unfolding drill_line
line_is seed steps unfit v w summary line before counted after is printed =
    printed
    ∙ ap (λ s. printed_line (drill_data s))
    (is ∙ ap (λ n. summary_of seed steps n w) counted ∙ ap (summary_of seed steps (drilled seed steps).unfit) (drill_world_is seed steps v w before after))

-- where the output counted no fault, the run is complete
pub complete : (seed steps code : ℕ) (o : Outcome) (out : Port) → SaysDrilled seed steps o out → code ≡ code_of o → IsCompleteDrill seed steps code out
complete seed steps code outcome.Done out says is calm other = (is, says.1)
complete seed steps code outcome.Usage out says is calm other = absurd says
complete seed steps code outcome.Memory out says is calm other = absurd (other is)
complete seed steps code outcome.ReadFault out says is calm other = absurd says
complete seed steps code outcome.WriteFault out says is calm other = absurd (calm says.0)
complete seed steps code outcome.NetFault out says is calm other = absurd says
complete seed steps code (outcome.BadLine n) out says is calm other = absurd says
complete seed steps code outcome.TooMuch out says is calm other = absurd says

-- a part of the line was written
pub took_part : (n : ℕ) (line whole : List ℕ) (p : Port) → line ≡ whole → p.after ≡ at_end p.before (take n line) → TookPrefix p whole
took_part n line whole p is wrote = (take n line, drop n line, sym is ∙ sym (take-append-drop n line), wrote)
