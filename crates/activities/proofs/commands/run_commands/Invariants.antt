use Rattle.std.proofs.Common.{◌≡◌, false}
use Rattle.activities.specs.Commands.{longest_command}
use Rattle.activities.specs.Lines.{coming, MayRead, GoesWhole}
use Rattle.activities.specs.Memory.{KeepsSeat, origin_at}
use Rattle.activities.proofs.RanCommands.{RunSoFar}
use Rattle.activities.proofs.commands.run_commands.Given as goal

abbrev pub invariant-loop : goal.invariant-loop
invariant-loop g l = record {
  seat : KeepsSeat l.hall l.initial.seat l.seat;
  open_still : (g.C.Source.closed l.commands ≡ false) × (g.O.Sink.closed l.out ≡ false) × MayRead l.reader (g.C.Source.remaining l.commands) × (l.reader.limit ≡ longest_command);
  run : RunSoFar (origin_at l.hall) l.name l.who (coming l.initial.reader (g.C.Source.remaining l.initial.commands)) (coming l.reader (g.C.Source.remaining l.commands))
      (g.O.Sink.taken l.initial.out) (g.O.Sink.taken l.out) l.initial.seat l.seat l.count.number l.count.size;
  whole : GoesWhole l.initial.reader (coming l.initial.reader (g.C.Source.remaining l.initial.commands)) l.reader (coming l.reader (g.C.Source.remaining l.commands));
  read_faults : g.C.Source.faults l.commands ≡ g.C.Source.faults l.initial.commands;
  write_faults : g.O.Sink.faults l.out ≡ g.O.Sink.faults l.initial.out;
}
