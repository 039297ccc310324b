use Rattle.activities.proofs.down.take_down.Goals as goal

pub returns-clause-done : goal.returns-clause-done
returns-clause-done g c = record {
  u = c.take_lines-end.new.seat;
  items = c.take_lines-end.new.feeder.items;
  took = c.take_lines-end.ensures.took;
  pushed = c.push.ensures.pushed;
  number = c.take_lines-end.ensures.seat.1.number;
  later = c.halt_at.ensures.seat.2;
  halts = c.halt_at.ensures.own;
}
