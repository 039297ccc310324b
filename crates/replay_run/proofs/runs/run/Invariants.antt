use Rattle.std.proofs.Common.{◌≡◌, ◌+◌, false}
use Rattle.wire_lines.proofs.IsNextLine.{MayGoOn}
use Rattle.world_core.specs.Values.{state_of}
use Rattle.replay_run.proofs.InPlay.{InPlay}
use Rattle.replay_run.proofs.runs.run.Given as goal

-- how far the run has come
abbrev pub invariant-loop-number : goal.invariant-loop-number
invariant-loop-number g l = record {
  in_play : InPlay l.limit (g.I.Source.remaining l.fn.input) l.reader (g.I.Source.remaining l.input) (g.O.Sink.taken l.fn.out) (g.O.Sink.taken l.out) (state_of l.world) l.room (l.played + 1);
  may : MayGoOn l.reader (g.I.Source.remaining l.input);
  line_limit : l.reader.limit ≡ 1048576;
  input_faults : g.I.Source.faults l.input ≡ g.I.Source.faults l.fn.input;
  out_faults : g.O.Sink.faults l.out ≡ g.O.Sink.faults l.fn.out;
  input_open : g.I.Source.closed l.input ≡ false;
  out_open : g.O.Sink.closed l.out ≡ false;
}

abbrev pub decreases-loop-number : goal.decreases-loop-number
decreases-loop-number g l = l.room
