use Rattle.std.proofs.Common.{◌∙◌}
use Rattle.wire_lines.proofs.InReading.{goes_on}
use Rattle.wire_lines.proofs.reader.LineReader.next.Goals as goal

pub loop-line-preserved : goal.loop-line-preserved
loop-line-preserved g c = record {
  reading = goes_on c.args.self.now c.loop-line.self c.look.new.self c.fill.new.self _ _ _ c.loop-line.invariant.reading c.in_default.ensures.looked c.in_default.ensures.limit c.in_default-fill.ensures.fills c.in_default-fill.ensures.limit;
  beside = c.in_default-fill.ensures.beside ∙ c.loop-line.invariant.beside;
  faults = c.in_default-fill.ensures.cause ∙ c.loop-line.invariant.faults;
  still_open = c.in_default-fill.ensures.still_open;
}
