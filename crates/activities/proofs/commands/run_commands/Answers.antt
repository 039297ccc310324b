use Rattle.std.proofs.Common.{rules, refl, ◌∙◌}
use Rattle.wire_lines.specs.Reader.{held_bytes}
use Rattle.activities.specs.Memory.{origin_at}
use Rattle.activities.proofs.GaveLines.{begins_on, begins_same}
use Rattle.activities.proofs.Remembers.{same_card}
use Rattle.activities.proofs.IsCutOff.{whole_none, whole_more, cut_off}
use Rattle.activities.proofs.RanCommands.{run_none, run_more, run_ended}
use Rattle.activities.proofs.commands.run_commands.Goals as goal

pub loop-init : goal.loop-init
loop-init g c = record {
  seat = (c.requires.seat.0, search rules, begins_same c.args.seat.now.seen);
  open_still = c.requires.is_open;
  run = run_none (origin_at c.args.hall.now) c.args.name.now c.args.who _ _ c.args.seat.now c.requires.seat.1 c.requires.seat.2;
  whole = whole_none c.args.reader.now _;
  read_faults = search rules;
  write_faults = search rules;
}

pub loop-preserved : goal.loop-preserved
loop-preserved g c =
    let i = c.loop.invariant in
    let e = c.in-Ok-On.ensures in
    let did = rw c.in-Ok-On.field-0-is at (e.did i.run.k i.run.remembers) in
    let o = e.still_open in
    record {
      seat = (e.seat.0, same_card _ _ _ i.seat.1 e.seat.1, begins_on _ _ _ i.seat.2 e.seat.2);
      open_still = (o.0, o.1, o.2 c.in-Ok-On.field-0-is, o.3);
      run = run_more (origin_at c.args.hall.now) c.args.name.now c.args.who _ _ _ _ _ _ _ c.args.seat.now c.loop.seat c.do_line.new.seat _ _ _ _ i.run i.seat.1.number (e.number c.in-Ok-On.field-0-is) did;
      whole = whole_more c.args.reader.now c.loop.reader c.do_line.new.reader _ _ _ i.whole (e.whole c.in-Ok-On.field-0-is);
      read_faults = e.read_faults ∙ i.read_faults;
      write_faults = e.write_faults ∙ i.write_faults;
    }

pub returns-in-Err-clause-ran : goal.returns-in-Err-clause-ran
returns-in-Err-clause-ran g c =
    let i = c.loop.invariant in
    run_ended (origin_at c.args.hall.now) c.args.name.now c.args.who _ _ _ _ _ _ _ c.args.seat.now c.loop.seat c.do_line.new.seat _ _ _ _ i.run tt
    (held_bytes c.do_line.new.reader, refl)
    (λ is. cut_off c.args.reader.now c.loop.reader _ _ _ i.run.given i.whole i.run.gave (c.in-Err.ensures.bare (cc is))) (c.in-Err.ensures.did i.run.k i.run.remembers)

pub returns-in-Ok-Ended-clause-ran : goal.returns-in-Ok-Ended-clause-ran
returns-in-Ok-Ended-clause-ran g c =
    let i = c.loop.invariant in
    run_ended (origin_at c.args.hall.now) c.args.name.now c.args.who _ _ _ _ _ _ _ c.args.seat.now c.loop.seat c.do_line.new.seat _ _ _ _ i.run tt
    (held_bytes c.do_line.new.reader, refl) (λ is. absurd cc) (rw c.in-Ok-Ended.field-0-is at (c.in-Ok-Ended.ensures.did i.run.k i.run.remembers))

pub returns-in-Ok-Closed-clause-ran : goal.returns-in-Ok-Closed-clause-ran
returns-in-Ok-Closed-clause-ran g c =
    let i = c.loop.invariant in
    run_ended (origin_at c.args.hall.now) c.args.name.now c.args.who _ _ _ _ _ _ _ c.args.seat.now c.loop.seat c.do_line.new.seat _ _ _ _ i.run tt
    (held_bytes c.do_line.new.reader, refl) (λ is. absurd cc) (rw c.in-Ok-Closed.field-0-is at (c.in-Ok-Closed.ensures.did i.run.k i.run.remembers))
