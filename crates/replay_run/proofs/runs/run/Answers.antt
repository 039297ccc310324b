use Rattle.std.proofs.Common.{◌≡◌, ◌+◌, ◌-◌, ◌≤◌, length, Some, None, refl, sym, ap, ◌∙◌, subst, arith, inl}
use Rattle.troop_ports.specs.Faults.{Counted}
use Rattle.wire_lines.specs.Reader.{held_bytes}
use Rattle.wire_lines.proofs.IsNextLine.{ends_state}
use Rattle.world_core.specs.Values.{state_of}
use Rattle.replay_run.specs.Turns.{PlaysLine}
use Rattle.replay_run.specs.Ports.{port_of}
use Rattle.replay_run.proofs.InPlay.{InPlay, starts, next_in_play, stops_long, faults, within_limits}
use Rattle.replay_run.proofs.Says.{no_number, no_line, stopped, ended, fault_counted}
use Rattle.replay_run.proofs.runs.run.Goals as goal

pub loop-number-init : goal.loop-number-init
loop-number-init g c = record {
  in_play = starts c.args.limit (g.I.Source.remaining c.args.input.now) (g.O.Sink.taken c.args.out.now) c.new-reader.result (state_of c.new-world.result) c.new-world.ensures.state (ap held_bytes c.new-reader.ensures);
  may = inl (ap (λ r. r.state) c.new-reader.ensures);
  line_limit = ap (λ r. r.limit) c.new-reader.ensures;
  input_faults = refl;
  out_faults = refl;
  input_open = c.requires.input_open;
  out_open = c.requires.out_open;
}

pub returns-in_default-clause-says : goal.returns-in_default-clause-says
returns-in_default-clause-says g c =
    no_number c.args.limit _ _ _ _ c.loop-number.reader (state_of c.loop-number.world) c.loop-number.room (c.loop-number.played + 1) _ _ _ _ c.loop-number.invariant.in_play c.loop-number.invariant.may (λ below. omega (arith, below, c.in_default.ensures))
    c.loop-number.invariant.input_faults c.loop-number.invariant.out_faults

pub returns-in-End-clause-says : goal.returns-in-End-clause-says
returns-in-End-clause-says g c =
    ended c.finish.result c.args.limit _ _ _ _ _ _ c.loop-number.reader c.next.new.self (state_of c.loop-number.world) c.loop-number.room (c.loop-number.played + 1) _ _ _ _ _ c.loop-number.invariant.in_play c.loop-number.invariant.may c.in-End.ensures.line
    (c.in-End.ensures.cause ∙ c.loop-number.invariant.input_faults) c.loop-number.invariant.out_faults c.finish.ensures.ends

pub returns-in-Long-clause-says : goal.returns-in-Long-clause-says
returns-in-Long-clause-says g c =
    let play = subst (λ k. InPlay c.args.limit (g.I.Source.remaining c.args.input.now) c.loop-number.reader (g.I.Source.remaining c.loop-number.input) (g.O.Sink.taken c.args.out.now) (g.O.Sink.taken c.loop-number.out) (state_of c.loop-number.world) c.loop-number.room k) (sym c.in-Some.ensures.1) c.loop-number.invariant.in_play in (
      c.in-Long.ensures.cause ∙ c.loop-number.invariant.input_faults,
      c.loop-number.invariant.out_faults,
      stops_long c.args.limit _ _ _ _ _ c.loop-number.reader c.next.new.self (state_of c.loop-number.world) c.loop-number.room c.in-Some.number 0 0 play c.loop-number.invariant.may c.in-Long.ensures.line c.loop-number.invariant.line_limit,
    )

pub returns-in-Fault-clause-says : goal.returns-in-Fault-clause-says
returns-in-Fault-clause-says g c = (
  subst (λ f. Counted f (g.I.Source.faults c.next.new.source)) c.loop-number.invariant.input_faults (fault_counted c.loop-number.reader (g.I.Source.remaining c.loop-number.input) _ _ c.loop-number.invariant.may c.in-Fault.ensures.cause),
  c.loop-number.invariant.out_faults,
  faults c.args.limit _ _ _ _ _ c.loop-number.reader c.next.new.self (state_of c.loop-number.world) c.loop-number.room (c.loop-number.played + 1) 0 0 0 0 c.loop-number.invariant.in_play c.loop-number.invariant.may c.in-Fault.ensures.line,
)

pub returns-in-Memory-clause-says : goal.returns-in-Memory-clause-says
returns-in-Memory-clause-says g c =
    no_line c.args.limit _ _ _ _ _ c.loop-number.reader c.next.new.self (state_of c.loop-number.world) c.loop-number.room (c.loop-number.played + 1) _ _ _ _ c.loop-number.invariant.in_play c.in-Memory.ensures.line c.loop-number.invariant.line_limit
    (c.in-Memory.ensures.cause ∙ c.loop-number.invariant.input_faults) c.loop-number.invariant.out_faults

pub returns-in-Some-play_line-clause-says : goal.returns-in-Some-play_line-clause-says
returns-in-Some-play_line-clause-says g c =
    let play = subst (λ k. InPlay c.args.limit (g.I.Source.remaining c.args.input.now) c.loop-number.reader (g.I.Source.remaining c.loop-number.input) (g.O.Sink.taken c.args.out.now) (g.O.Sink.taken c.loop-number.out) (state_of c.loop-number.world) c.loop-number.room k) (sym c.in-Some.ensures.1) c.loop-number.invariant.in_play in
    let r = c.in-Text.ensures.line in
    let short : length c.in-Text.line.items ≤ 1048576 = omega (arith, r.gives.2, c.loop-number.invariant.line_limit) in
    let played = subst (λ t. PlaysLine (Some c.in-Some-play_line.outcome) c.loop-number.room c.in-Some.number t (state_of c.loop-number.world) (state_of c.play_line.new.world) (port_of (g.O.Sink.taken c.loop-number.out) (g.O.Sink.taken c.play_line.new.out) (g.O.Sink.faults c.loop-number.out) (g.O.Sink.faults c.play_line.new.out))) c.deref.ensures.value c.in-Some-play_line.ensures.plays in
    stopped c.in-Some-play_line.outcome c.args.limit _ _ _ _ _ _ c.loop-number.reader c.next.new.self c.in-Text.line.items r.taken (state_of c.loop-number.world) (state_of c.play_line.new.world) c.loop-number.room c.in-Some.number _ _ _ _ _ play
    r.given r.gives.1 r.gives.3 r.gives.0 short (c.in-Text.ensures.cause ∙ c.loop-number.invariant.input_faults) c.loop-number.invariant.out_faults played

pub loop-number-preserved : goal.loop-number-preserved
loop-number-preserved g c =
    let play = subst (λ k. InPlay c.args.limit (g.I.Source.remaining c.args.input.now) c.loop-number.reader (g.I.Source.remaining c.loop-number.input) (g.O.Sink.taken c.args.out.now) (g.O.Sink.taken c.loop-number.out) (state_of c.loop-number.world) c.loop-number.room k) (sym c.in-Some.ensures.1) c.loop-number.invariant.in_play in
    let r = c.in-Text.ensures.line in
    let short : length c.in-Text.line.items ≤ 1048576 = omega (arith, r.gives.2, c.loop-number.invariant.line_limit) in
    let size : length c.in-Text.line.items ≡ c.len.result = omega (arith, c.len.ensures, c.in-Text.line.ok.0) in
    let played : PlaysLine None c.loop-number.room c.in-Some.number c.in-Text.line.items (state_of c.loop-number.world) (state_of c.play_line.new.world) (port_of (g.O.Sink.taken c.loop-number.out) (g.O.Sink.taken c.play_line.new.out) (g.O.Sink.faults c.loop-number.out) (g.O.Sink.faults c.play_line.new.out)) =
    subst (λ t. PlaysLine None c.loop-number.room c.in-Some.number t (state_of c.loop-number.world) (state_of c.play_line.new.world) (port_of (g.O.Sink.taken c.loop-number.out) (g.O.Sink.taken c.play_line.new.out) (g.O.Sink.faults c.loop-number.out) (g.O.Sink.faults c.play_line.new.out))) c.deref.ensures.value c.in_default-play_line.ensures.plays in
    let goes = within_limits c.loop-number.room c.in-Some.number c.in-Text.line.items short played.4 ∙ played.0 in
    let next = next_in_play c.args.limit _ _ _ _ _ _ c.loop-number.reader c.next.new.self c.in-Text.line.items r.taken (state_of c.loop-number.world) c.loop-number.room c.in-Some.number play r.given r.gives.0 r.gives.1 r.gives.3 goes played.3 in
    record {
      in_play = subst (λ n. InPlay c.args.limit (g.I.Source.remaining c.args.input.now) c.next.new.self (g.I.Source.remaining c.next.new.source) (g.O.Sink.taken c.args.out.now) (g.O.Sink.taken c.play_line.new.out) (state_of c.play_line.new.world) (c.loop-number.room - (n + 1)) (c.in-Some.number + 1)) size
          (subst (λ w. InPlay c.args.limit (g.I.Source.remaining c.args.input.now) c.next.new.self (g.I.Source.remaining c.next.new.source) (g.O.Sink.taken c.args.out.now) (g.O.Sink.taken c.play_line.new.out) w (c.loop-number.room - (length c.in-Text.line.items + 1)) (c.in-Some.number + 1)) (sym played.1) next);
      may = ends_state c.in-Text.line.items _ c.next.new.self (g.I.Source.remaining c.next.new.source) r.gives.3;
      line_limit = r.limit ∙ c.loop-number.invariant.line_limit;
      input_faults = c.in-Text.ensures.cause ∙ c.loop-number.invariant.input_faults;
      out_faults = played.2 ∙ c.loop-number.invariant.out_faults;
      input_open = c.in-Text.ensures.still_open;
      out_open = c.in_default-play_line.ensures.still_open;
    }
