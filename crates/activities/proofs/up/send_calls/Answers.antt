use Rattle.std.proofs.Common.{rules, refl, ◌∙◌}
use Rattle.wire_lines.specs.Reader.{held_bytes}
use Rattle.activities.specs.Lines.{coming}
use Rattle.activities.specs.Memory.{origin_at}
use Rattle.activities.proofs.GaveLines.{begins_on, begins_same}
use Rattle.activities.proofs.Remembers.{same_card}
use Rattle.activities.proofs.IsCutOff.{whole_none, whole_more}
use Rattle.activities.proofs.SentUp.{up_none, up_looked, up_sent, up_waits, up_failed, up_done, up_starved}
use Rattle.activities.proofs.up.send_calls.Goals as goal

pub loop-init : goal.loop-init
loop-init g c = record {
  seat = (c.requires.seat.0, search rules, begins_same c.args.seat.now.seen);
  open_still = c.requires.is_open;
  up = up_none (origin_at c.args.hall.now) _ _ c.args.seat.now c.requires.seat.1 c.requires.seat.2;
  whole = whole_none c.args.reader.now _;
  faults = search rules;
}

pub returns-in-Err-send_call-clause-sent : goal.returns-in-Err-send_call-clause-sent
returns-in-Err-send_call-clause-sent g c =
    let i = c.loop.invariant in
    let l = c.count_acts-acts.ensures in
    let up = up_looked (origin_at c.args.hall.now) _ _ _ _ c.args.seat.now c.loop.seat c.count_acts-acts.new.seat _ i.up l.seat.2 l.own l.seat.1.number in
    let acts = rw (c.in-Ok-Next-Send.field-0-is, c.in-Ok-Next-Send.field-0-0-is) at c.in-Ok-Next-Send.ensures.ok in
    up_failed (origin_at c.args.hall.now) c.args.reader.now c.loop.reader _ _ (coming c.send_call.new.reader (g.L.Source.remaining c.send_call.new.link)) _ _ _ _ c.args.seat.now c.count_acts-acts.new.seat c.play.new.seat _ _ c.in-Ok-Next-Send.call c.in-Err-send_call.error
    i.whole up acts c.in-Ok-Next-Send.ensures.seat.1.number c.in-Err-send_call.ensures.sent

pub loop-preserved-in-Ok-send_call : goal.loop-preserved-in-Ok-send_call
loop-preserved-in-Ok-send_call g c =
    let i = c.loop.invariant in
    let l = c.count_acts-acts.ensures in
    let up = up_looked (origin_at c.args.hall.now) _ _ _ _ c.args.seat.now c.loop.seat c.count_acts-acts.new.seat _ i.up l.seat.2 l.own l.seat.1.number in
    let s = c.in-Ok-Next-Send.ensures.seat in
    let acts = rw (c.in-Ok-Next-Send.field-0-is, c.in-Ok-Next-Send.field-0-0-is) at c.in-Ok-Next-Send.ensures.ok in
    record {
      seat = (s.0, same_card _ _ _ i.seat.1 (same_card _ _ _ l.seat.1 s.1), begins_on _ _ _ i.seat.2 (begins_on _ _ _ l.seat.2 s.2));
      open_still = c.in-Ok-send_call.ensures.still_open;
      up = up_sent (origin_at c.args.hall.now) _ _ _ (g.L.Source.remaining c.send_call.new.link) _ _ _ c.args.seat.now c.count_acts-acts.new.seat c.play.new.seat _ _ _ c.in-Ok-Next-Send.call _ c.loop.reader.state up acts s.1.number
          c.in-Ok-send_call.ensures.sent c.saturating_add-number.ensures;
      whole = whole_more c.args.reader.now c.loop.reader c.send_call.new.reader _ _ _ i.whole c.in-Ok-send_call.ensures.whole;
      faults = c.in-Ok-send_call.ensures.faults ∙ i.faults;
    }

pub loop-preserved : goal.loop-preserved
loop-preserved g c =
    let i = c.loop.invariant in
    let l = c.count_acts-acts.ensures in
    let up = up_looked (origin_at c.args.hall.now) _ _ _ _ c.args.seat.now c.loop.seat c.count_acts-acts.new.seat _ i.up l.seat.2 l.own l.seat.1.number in
    let s = c.in-Ok-Next-NotYet.ensures.seat in
    let w = c.wait_past.ensures in
    let acts = rw (c.in-Ok-Next-NotYet.field-0-is, c.in-Ok-Next-NotYet.field-0-0-is) at c.in-Ok-Next-NotYet.ensures.ok in
    let waits = up_waits (origin_at c.args.hall.now) _ _ _ _ c.args.seat.now c.count_acts-acts.new.seat c.play.new.seat _ up acts s.1.number in
    record {
      seat = (w.seat.0, same_card _ _ _ i.seat.1 (same_card _ _ _ l.seat.1 (same_card _ _ _ s.1 w.seat.1)), begins_on _ _ _ i.seat.2 (begins_on _ _ _ l.seat.2 (begins_on _ _ _ s.2 w.seat.2)));
      open_still = i.open_still;
      up = up_looked (origin_at c.args.hall.now) _ _ _ _ c.args.seat.now c.play.new.seat c.wait_past.new.seat _ waits w.seat.2 w.own w.seat.1.number;
      whole = i.whole;
      faults = i.faults;
    }

pub returns-in-Ok-Next-Done-clause-sent : goal.returns-in-Ok-Next-Done-clause-sent
returns-in-Ok-Next-Done-clause-sent g c =
    let i = c.loop.invariant in
    let l = c.count_acts-acts.ensures in
    let up = up_looked (origin_at c.args.hall.now) _ _ _ _ c.args.seat.now c.loop.seat c.count_acts-acts.new.seat _ i.up l.seat.2 l.own l.seat.1.number in
    let acts = rw (c.in-Ok-Next-Done.field-0-is, c.in-Ok-Next-Done.field-0-0-is) at c.in-Ok-Next-Done.ensures.ok in
    up_done (origin_at c.args.hall.now) _ _ _ _ _ c.args.seat.now c.count_acts-acts.new.seat c.play.new.seat _ up acts c.in-Ok-Next-Done.ensures.seat.1.number
    (held_bytes c.loop.reader, refl)

pub returns-in-Err-clause-sent : goal.returns-in-Err-clause-sent
returns-in-Err-clause-sent g c =
    let i = c.loop.invariant in
    let l = c.count_acts-acts.ensures in
    let up = up_looked (origin_at c.args.hall.now) _ _ _ _ c.args.seat.now c.loop.seat c.count_acts-acts.new.seat _ i.up l.seat.2 l.own l.seat.1.number in
    let e = c.in-Err.ensures in
    up_starved (origin_at c.args.hall.now) _ _ _ _ _ c.args.seat.now c.count_acts-acts.new.seat c.play.new.seat _ up e.seat.2 e.memory e.seat.1.number (held_bytes c.loop.reader, refl) e.wanting
