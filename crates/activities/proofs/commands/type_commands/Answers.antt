use Rattle.activities.proofs.commands.type_commands.Goals as goal

pub returns-clause-done : goal.returns-clause-done
returns-clause-done g c =
    let ran = c.run_commands-end.ensures.ran in
    let m = c.finish_at.ensures.memory ran.k ran.remembers in
    record {
      u = c.run_commands-end.new.seat;
      ran = ran;
      k = m.0;
      behind = m.1;
      remembers = m.2;
      number = c.run_commands-end.ensures.seat.1.number;
      later = c.finish_at.ensures.seat.2;
      finishes = c.finish_at.ensures.own;
    }
