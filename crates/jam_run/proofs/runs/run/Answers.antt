use Rattle.std.proofs.Common.{◌≡◌, take, drop, sym, ap, ◌∙◌}
use Rattle.std.proofs.lemmas.List.{take-append-drop}
use Rattle.troop_ports.specs.Bytes.{at_end}
use Rattle.jam_run.specs.Jams.{jam_line}
use Rattle.jam_run.proofs.runs.run.Goals as goal

pub returns-in-All-clause-done : goal.returns-in-All-clause-done
returns-in-All-clause-done g c = (
  c.in-All.ensures.cause,
  c.in-All.ensures.bytes ∙ ap (at_end (g.O.Sink.taken c.args.out.now)) (c.deref.ensures.value ∙ c.in-Ok-sum_up.ensures c.args.seed c.in-Ok.ensures),
  c.in-Ok.ensures,
)

pub returns-in-Part-clause-otherwise : goal.returns-in-Part-clause-otherwise
returns-in-Part-clause-otherwise g c =
    let bytes = c.deref.result.now in
    let n = c.in-Part.field-0 in
    let line : bytes ≡ jam_line c.args.performers c.args.calls = c.deref.ensures.value ∙ c.in-Ok-sum_up.ensures c.args.seed c.in-Ok.ensures in (
      c.in-Part.ensures.cause,
      (take n bytes, drop n bytes, sym line ∙ sym (take-append-drop n bytes), c.in-Part.ensures.bytes.1),
    )
