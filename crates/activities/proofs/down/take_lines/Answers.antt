use Rattle.std.proofs.Common.{rules, ℕ, refl, sym, subst, ◌∙◌}
use Rattle.activities.specs.Counts.{CountsActivity}
use Rattle.wire_lines.specs.Reader.{held_bytes}
use Rattle.activities.specs.Lines.{coming}
use Rattle.activities.specs.Memory.{origin_at}
use Rattle.activities.proofs.GaveLines.{begins_on, begins_same}
use Rattle.activities.proofs.Remembers.{same_card}
use Rattle.activities.proofs.IsCutOff.{whole_none, whole_more, cut_off}
use Rattle.activities.proofs.TookDown.{down_none, down_more, down_wrong, down_left}
use Rattle.activities.proofs.down.take_lines.Goals as goal

pub loop-init : goal.loop-init
loop-init g c = record {
  seat = (c.requires.seat.0, search rules, begins_same c.args.seat.now.seen);
  open_still = c.requires.is_open;
  queue = c.requires.queue;
  down = down_none (origin_at c.args.hall.now) _ c.args.seat.now c.args.feeder.now.items;
  whole = whole_none c.args.reader.now _;
  written = search rules;
  faults = search rules;
}

pub returns-then-taken-clause-took : goal.returns-then-taken-clause-took
returns-then-taken-clause-took g c =
    let i = c.loop.invariant in
    down_left (origin_at c.args.hall.now) _ _ _ _ c.args.seat.now c.loop.seat c.take_line.new.seat c.left.new.seat _ _ _ _ c.in-Ok.taken _
    i.down i.seat.1.number c.in-Ok.ensures.took (search rules) c.push_block.ensures.pushed c.left.ensures.seat.2 c.left.ensures.own c.left.ensures.end
    (held_bytes c.take_line.new.reader, refl)

pub loop-preserved : goal.loop-preserved
loop-preserved g c =
    let i = c.loop.invariant in
    let s = c.in-Ok.ensures.seat in
    let e = c.in-Ok.ensures.still_open in
    record {
      seat = (s.0, same_card _ _ _ i.seat.1 s.1, begins_on _ _ _ i.seat.2 s.2);
      open_still = e;
      queue = c.push_block.ensures.queue;
      down = down_more (origin_at c.args.hall.now) _ _ _ (g.L.Source.remaining c.take_line.new.link) c.args.seat.now c.loop.seat c.take_line.new.seat _ _ _ _ _ c.in-Ok.taken i.down i.seat.1.number c.in-Ok.ensures.took c.push_block.ensures.pushed c.saturating_add-number.ensures;
      whole = whole_more c.args.reader.now c.loop.reader c.take_line.new.reader _ _ _ i.whole c.in-Ok.ensures.whole;
      written = c.in-Ok.ensures.written ∙ i.written;
      faults = c.in-Ok.ensures.faults ∙ i.faults;
    }

pub returns-in-Err-clause-took : goal.returns-in-Err-clause-took
returns-in-Err-clause-took g c =
    let i = c.loop.invariant in
    down_wrong (origin_at c.args.hall.now) _ _ (coming c.take_line.new.reader (g.L.Source.remaining c.take_line.new.link)) _ c.args.seat.now c.loop.seat c.take_line.new.seat _ _ _ c.in-Err.error i.down
    (λ is. cut_off c.args.reader.now c.loop.reader _ _ _ i.down.given i.whole i.down.gave (c.in-Err.ensures.bare is)) c.in-Err.ensures.took

pub returns-then-taken-clause-faults : goal.returns-then-taken-clause-faults
returns-then-taken-clause-faults g c =
    let before = g.L.Source.faults c.args.link.now in
    subst (λ (n : ℕ). CountsActivity c.left.result before n) (sym (c.in-Ok.ensures.faults ∙ c.loop.invariant.faults)) (c.left.ensures.faults before)
