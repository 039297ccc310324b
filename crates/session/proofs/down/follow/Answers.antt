use Rattle.std.proofs.Common.{rules, ap, ◌∙◌, ◌≡◌, length, refl, true, false, arith}
use Rattle.session.proofs.HasSaid.{later_same, later_then}
use Rattle.session.proofs.Follows.{show_opens, starved_show, last_show, cut_show, more_show, found_length}
use Rattle.session.proofs.down.follow.Goals as goal

pub loop-init : goal.loop-init
loop-init g c = record {
  hall = search rules;
  later = later_same c.args.seat.now;
  legal = search rules;
  own = refl;
  show = show_opens c.args.start c.args.who c.args.seat.now.seen _ c.requires.start c.requires.stays;
  remaining = refl;
  count = refl;
  still_open = search rules;
}

pub returns-in_default-clause-follows : goal.returns-in_default-clause-follows
returns-in_default-clause-follows g c =
    starved_show c.args.start c.args.who c.loop.next c.loop.seat.seen c.wait_past.new.seat.seen _ _ _ c.loop.invariant.show c.wait_past.ensures.hall.1.seen _ refl refl

pub returns-in-Ok-true-clause-follows : goal.returns-in-Ok-true-clause-follows
returns-in-Ok-true-clause-follows g c =
    let left : c.in-Ok-true.field-0 ≡ true = search rules in
    last_show c.args.start c.args.who c.loop.next c.loop.seat.seen c.wait_past.new.seat.seen _ _ _ c.loop.invariant.show c.wait_past.ensures.hall.1.seen c.deref.result.now (c.deref.ensures.value ∙ c.in-Ok.ensures.entries)
    (rw left at c.in-Ok-true.ensures.bytes)

pub overflow_add-next : goal.overflow_add-next
overflow_add-next g c =
    let past = c.wait_past.ensures.past in
    let all = found_length c.args.start c.args.who c.loop.next c.loop.seat.seen c.wait_past.new.seat.seen _ _ (g.L.Sink.taken c.args.link.now) c.loop.invariant.show c.wait_past.ensures.hall.1.seen c.in-Ok.found.items c.in-Ok.ensures.entries (omega (arith, past)) in
    let fits = c.wait_past.ensures.fits in
    let count = c.len.ensures in
    omega (arith, all, fits, count)

pub returns-in-Err-clause-follows : goal.returns-in-Err-clause-follows
returns-in-Err-clause-follows g c =
    cut_show c.args.start c.args.who c.loop.next c.loop.seat.seen c.wait_past.new.seat.seen _ _ _ c.loop.invariant.show c.wait_past.ensures.hall.1.seen c.deref.result.now (c.deref.ensures.value ∙ c.in-Ok.ensures.entries) c.in-Err.end c.in-Err.ensures.bytes

pub loop-preserved : goal.loop-preserved
loop-preserved g c =
    let stays : c.in-Ok-false.field-0 ≡ false = search rules in
    let past = c.wait_past.ensures.past in
    record {
      hall = search rules;
      later = later_then c.args.seat.now c.loop.seat c.wait_past.new.seat c.loop.invariant.later c.wait_past.ensures.hall.1;
      legal = search rules;
      own = search rules;
      show = more_show c.args.start c.args.who c.loop.next c.loop.seat.seen c.wait_past.new.seat.seen _ _ _ c.loop.invariant.show c.wait_past.ensures.hall.1.seen c.deref.result.now (c.deref.ensures.value ∙ c.in-Ok.ensures.entries)
          _ (let count = c.len.ensures in let same = ap length c.deref.ensures.value in omega (arith, count, same)) (omega (arith, past)) (rw stays at c.in-Ok-false.ensures.bytes);
      remaining = search rules;
      count = search rules;
      still_open = search rules;
    }
