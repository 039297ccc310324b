use Rattle.std.proofs.Common.{◌≡◌, ◌+◌, ◌-◌, length, false}
use Rattle.wire_lines.specs.Reader.{held_bytes}
use Rattle.wire_lines.proofs.InReading.{InReading}
use Rattle.wire_lines.proofs.reader.LineReader.next.Given as goal

-- what was taken so far is held_bytes
abbrev pub invariant-loop-line : goal.invariant-loop-line
invariant-loop-line g l = record {
  reading : InReading l.fn.self l.self (g.S.Source.remaining l.fn.source) (g.S.Source.remaining l.source);
  beside : g.S.Source.taken_beside l.source ≡ g.S.Source.taken_beside l.fn.source;
  faults : g.S.Source.faults l.source ≡ g.S.Source.faults l.fn.source;
  still_open : g.S.Source.closed l.source ≡ false;
}

abbrev pub decreases-loop-line : goal.decreases-loop-line
decreases-loop-line g l = l.self.limit + 1 - length (held_bytes l.self)
