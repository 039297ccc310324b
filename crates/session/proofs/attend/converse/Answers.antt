use Rattle.std.proofs.Common.{rules, true, false, ap, ◌∙◌, ◌≡◌, refl}
use Rattle.wire_lines.specs.Reader.{held_bytes}
use Rattle.wire_lines.specs.declared.reader.Line.TheVariants as line
use Rattle.session.specs.Ends.{stream}
use Rattle.session.proofs.ReadsOn.{next_if_told, goes_behind, line_cut, fault_held}
use Rattle.session.proofs.HasTalked.{came_whole, memory_is_no_fault, opens, turn_failed, turn_parts, turn_done, long_sent, long_cut, no_line, at_end_of_bytes, run_out}
use Rattle.session.proofs.attend.converse.Goals as goal

pub loop-number-init : goal.loop-number-init
loop-number-init g c = record {
  hall = search rules;
  legal = search rules;
  talk = opens c.args.reader.now.limit c.args.who c.args.seat.now _ _ _;
  going = search rules;
  limit = search rules;
  count = search rules;
  still_open = search rules;
}

pub returns-in-Ok-true-clause-talk : goal.returns-in-Ok-true-clause-talk
returns-in-Ok-true-clause-talk g c =
    let inv = c.loop-number.invariant in
    let reads = c.in-Text.ensures.line in
    let untouched : g.L.Sink.taken c.next.new.source ≡ g.L.Sink.taken c.loop-number.link = search rules in
    let parts : c.in-Ok-true.field-0 ≡ true = search rules in
    let next = next_if_told (line.Text c.in-Text.line) c.loop-number.reader c.next.new.self _ _ inv.going reads in
    turn_parts c.args.reader.now.limit c.args.who c.args.over c.args.seat.now _ _ c.loop-number.seat _ _ _ c.loop-number.number inv.talk c.take_turn.new.seat _ _ _ _ c.in-Text.line.items c.deref.result.now
    c.take_turn.ensures.hall.1 (rw inv.limit at next) (rw inv.limit at reads.gives.2) (ap (λ o. stream c.next.new.self o) c.take_turn.ensures.remaining) c.deref.ensures.value untouched _ (rw parts at c.in-Ok-true.ensures.turn)

pub returns-in-Err-clause-talk : goal.returns-in-Err-clause-talk
returns-in-Err-clause-talk g c =
    let inv = c.loop-number.invariant in
    let reads = c.in-Text.ensures.line in
    let untouched : g.L.Sink.taken c.next.new.source ≡ g.L.Sink.taken c.loop-number.link = search rules in
    let next = next_if_told (line.Text c.in-Text.line) c.loop-number.reader c.next.new.self _ _ inv.going reads in
    turn_failed c.args.reader.now.limit c.args.who c.args.over c.args.seat.now _ _ c.loop-number.seat _ _ _ c.loop-number.number inv.talk c.take_turn.new.seat _ _ _ _ c.in-Text.line.items c.deref.result.now
    c.take_turn.ensures.hall.1 (rw inv.limit at next) (rw inv.limit at reads.gives.2) (ap (λ o. stream c.next.new.self o) c.take_turn.ensures.remaining) c.deref.ensures.value untouched _ c.in-Err.end c.in-Err.ensures.turn

pub returns-in-End-clause-talk : goal.returns-in-End-clause-talk
returns-in-End-clause-talk g c =
    let inv = c.loop-number.invariant in
    let untouched : g.L.Sink.taken c.next.new.source ≡ g.L.Sink.taken c.loop-number.link = search rules in
    at_end_of_bytes c.args.reader.now.limit c.args.who c.args.over c.args.seat.now _ _ c.loop-number.seat _ _ _ c.loop-number.number inv.talk _ _ _ _ untouched c.requires.whole (next_if_told line.End c.loop-number.reader c.next.new.self _ _ inv.going c.in-End.ensures.line) refl

pub returns-in-Ok-clause-talk : goal.returns-in-Ok-clause-talk
returns-in-Ok-clause-talk g c =
    let inv = c.loop-number.invariant in
    let untouched : g.L.Sink.taken c.next.new.source ≡ g.L.Sink.taken c.loop-number.link = search rules in
    let long = next_if_told line.Long c.loop-number.reader c.next.new.self _ _ inv.going c.in-Long.ensures.line in
    long_sent c.args.reader.now.limit c.args.who c.args.over c.args.seat.now _ _ c.loop-number.seat _ _ _ c.loop-number.number inv.talk _ _ _ _ untouched (rw inv.limit at long) c.in-Ok.ensures.bytes

pub returns-in-Err-send-clause-talk : goal.returns-in-Err-send-clause-talk
returns-in-Err-send-clause-talk g c =
    let inv = c.loop-number.invariant in
    let untouched : g.L.Sink.taken c.next.new.source ≡ g.L.Sink.taken c.loop-number.link = search rules in
    let long = next_if_told line.Long c.loop-number.reader c.next.new.self _ _ inv.going c.in-Long.ensures.line in
    long_cut c.args.reader.now.limit c.args.who c.args.over c.args.seat.now _ _ c.loop-number.seat _ _ _ c.loop-number.number inv.talk _ _ _ _ untouched c.in-Err-send.end (rw inv.limit at long) c.in-Err-send.ensures.bytes

pub returns-in-Fault-clause-talk : goal.returns-in-Fault-clause-talk
returns-in-Fault-clause-talk g c =
    let inv = c.loop-number.invariant in
    let untouched : g.L.Sink.taken c.next.new.source ≡ g.L.Sink.taken c.loop-number.link = search rules in
    no_line c.args.reader.now.limit c.args.who c.args.over c.args.seat.now _ _ c.loop-number.seat _ _ _ c.loop-number.number inv.talk _ _ _ _ untouched _ tt (next_if_told line.Fault c.loop-number.reader c.next.new.self _ _ inv.going c.in-Fault.ensures.line) refl
    (λ _. (let f = fault_held c.loop-number.reader c.next.new.self _ _ inv.going c.in-Fault.ensures.line in came_whole _ (held_bytes c.next.new.self) _ _ _ (inv.talk.cut f.0) f.1 f.2))

pub returns-in-Memory-clause-talk : goal.returns-in-Memory-clause-talk
returns-in-Memory-clause-talk g c =
    let inv = c.loop-number.invariant in
    let untouched : g.L.Sink.taken c.next.new.source ≡ g.L.Sink.taken c.loop-number.link = search rules in
    no_line c.args.reader.now.limit c.args.who c.args.over c.args.seat.now _ _ c.loop-number.seat _ _ _ c.loop-number.number inv.talk _ _ _ _ untouched _ tt (next_if_told line.Memory c.loop-number.reader c.next.new.self _ _ inv.going c.in-Memory.ensures.line) refl (λ is. absurd (memory_is_no_fault is))

pub returns-clause-talk : goal.returns-clause-talk
returns-clause-talk g c = run_out c.args.reader.now.limit c.args.who c.args.over c.args.seat.now _ _ c.loop-number.seat _ _ _ c.loop-number.number c.loop-number.invariant.talk _

pub loop-number-preserved : goal.loop-number-preserved
loop-number-preserved g c =
    let inv = c.loop-number.invariant in
    let reads = c.in-Text.ensures.line in
    let untouched : g.L.Sink.taken c.next.new.source ≡ g.L.Sink.taken c.loop-number.link = search rules in
    let stays : c.in-Ok-false.field-0 ≡ false = search rules in
    let next = next_if_told (line.Text c.in-Text.line) c.loop-number.reader c.next.new.self _ _ inv.going reads in
    record {
      hall = search rules;
      legal = search rules;
      talk = turn_done c.args.reader.now.limit c.args.who c.args.over c.args.seat.now _ _ c.loop-number.seat _ _ _ c.loop-number.number inv.talk c.take_turn.new.seat _ _ _ _ c.in-Text.line.items c.deref.result.now
          c.take_turn.ensures.hall.1 (rw inv.limit at next) (rw inv.limit at reads.gives.2) (ap (λ o. stream c.next.new.self o) c.take_turn.ensures.remaining) c.deref.ensures.value untouched c.next.new.self.state (line_cut c.in-Text.line c.deref.result.now c.loop-number.reader c.next.new.self _ _ _ reads c.take_turn.ensures.remaining c.deref.ensures.value) (rw stays at c.in-Ok-false.ensures.turn);
      going = goes_behind c.in-Text.line c.loop-number.reader c.next.new.self _ _ _ reads c.take_turn.ensures.remaining;
      limit = reads.limit ∙ inv.limit;
      count = search rules;
      still_open = search rules;
    }
