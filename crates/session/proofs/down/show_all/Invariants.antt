use Rattle.std.proofs.Common.{◌≡◌, take, false}
use Rattle.troop_ports.specs.Bytes.{at_end}
use Rattle.session.specs.DownLines.{tells_leave_of, printed_entries}
use Rattle.session.proofs.down.show_all.Given as goal

abbrev pub invariant-loop-entry : goal.invariant-loop-entry
invariant-loop-entry g l = record {
  none : tells_leave_of l.who (take l.entry-index l.entries) ≡ false;
  bytes : g.L.Sink.taken l.link ≡ at_end (g.L.Sink.taken l.initial.link) (printed_entries (take l.entry-index l.entries));
  remaining : g.L.Source.remaining l.link ≡ g.L.Source.remaining l.initial.link;
  count : g.L.Source.faults l.link ≡ g.L.Source.faults l.initial.link;
  still_open : g.L.Source.closed l.link ≡ false;
}
