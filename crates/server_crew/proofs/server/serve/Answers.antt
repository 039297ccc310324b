use Rattle.std.proofs.Common.{rules, ◌≡◌, ◌++◌, ◌∙◌, ap, sym, subst, List, length, arith, inr, All, option_map}
use Rattle.std.proofs.lemmas.List.{with_items_is}
use Rattle.server_crew.specs.Accepting.{HasEnough}
use Rattle.server_crew.specs.Workers.{IsAtWork, indexes}
use Rattle.server_crew.specs.Crews.{IsServedInPart}
use Rattle.server_crew.proofs.SameSeats.{indexes_same}
use Rattle.server_crew.proofs.IsRun.{run_from}
use Rattle.server_crew.proofs.server.serve.Goals as goal

pub close_down-closed-requires-clause-ready : goal.close_down-closed-requires-clause-ready
close_down-closed-requires-clause-ready g c =
    let ready = c.in-Ok-form.ensures in
    let moved = c.run-failed.ensures.taken.moved in
    let before : c.as_mut_slice-workers.result.now ≡ c.in-Ok-form.crew.workers.items = c.as_mut_slice-workers.ensures.value in
    let same_length : length c.run-failed.new.workers ≡ length c.as_mut_slice-workers.result.now = c.run-failed.auto.workers in
    let same : length c.run-failed.new.workers ≡ length c.in-Ok-form.crew.workers.items = same_length ∙ ap length before in
    let items = with_items_is c.in-Ok-form.crew.workers c.run-failed.new.workers (same_length ∙ c.as_mut_slice-workers.ensures.len) in
    let count = ap length items in
    let parts = ready.parts in
    let part = ready.part in
    let kept = moved.parts in
    let shifts = ready.shifts.2 in
    let seats = ready.seats.2 in
    record {
      seat = ready.seat;
      index = ready.index;
      own = ready.own;
      made = ready.made ∙ sym (indexes_same c.as_mut_slice-workers.result.now c.run-failed.new.workers same_length c.run-failed.ensures.worked ∙ ap indexes before) ∙ ap indexes (sym items);
      work = subst (All (IsAtWork g.D.L.Source.remaining g.D.L.Sink.taken g.D.L.Source.faults g.D.L.Source.closed c.in-Ok.hall c.in-Ok-new.queue.table)) (sym items) c.run-failed.ensures.workers;
      queue_is = moved.queue ∙ ready.queue_is;
      parts = omega (arith, parts, kept, same, count);
      part = omega (arith, part, kept);
      put = search rules;
      taken = moved.taken ∙ ready.taken;
      shifts = (ready.shifts.0, ready.shifts.1, omega (arith, shifts, same, count));
      seats = (ready.seats.0, ready.seats.1, omega (arith, seats, same, count));
    }

pub returns-then-failed-clause-fault : goal.returns-then-failed-clause-fault
returns-then-failed-clause-fault g c = λ _.
    let taking = c.run-failed.ensures.taken in
    let put : c.run-failed.new.end.put ≡ taking.links = taking.moved.put ∙ ap (λ l. l ++ taking.links) c.in-Ok-form.ensures.put in (
      taking.links,
      c.close_down-closed.result.desk,
      c.close_down-closed.ensures.legal,
      run_from g.D.L.Source.remaining g.D.L.Sink.taken g.D.L.Source.faults g.D.L.Source.closed taking.links c.run-failed.new.end.put c.close_down-closed.result.desk _ _ _ _ _ _ (c.close_down-closed.ensures.run c.if-closed.false) put taking.moved.from c.close_down-closed.ensures.links c.run-failed.ensures.retired,
      taking.within,
    )

pub returns-clause-served : goal.returns-clause-served
returns-clause-served g c =
    let taking = c.run-failed.ensures.taken in
    let put : c.run-failed.new.end.put ≡ taking.links = taking.moved.put ∙ ap (λ l. l ++ taking.links) c.in-Ok-form.ensures.put in (
      taking.links,
      run_from g.D.L.Source.remaining g.D.L.Sink.taken g.D.L.Source.faults g.D.L.Source.closed taking.links c.run-failed.new.end.put c.close_down-closed.result.desk _ _ _ _ _ _ (c.close_down-closed.ensures.run c.if-closed.false) put taking.moved.from c.close_down-closed.ensures.links c.run-failed.ensures.retired,
      subst (HasEnough c.args.sessions (length taking.links)) (sym c.close_down-closed.ensures.links) (taking.enough c.if-failed.false),
    )

pub returns-then-closed-clause-wanting : goal.returns-then-closed-clause-wanting
returns-then-closed-clause-wanting g c = λ _.
    let taking = c.run-failed.ensures.taken in
    let is : c.run-failed.new.end.put ≡ taking.links = taking.moved.put ∙ ap (λ l. l ++ taking.links) c.in-Ok-form.ensures.put in
    let put = ap (λ (l : List g.row.D-L.Denot). length l) is in
    let before = taking.moved.places_are in
    let lost = c.close_down-closed.ensures.lost c.if-closed.true in
    let back = c.close_down-closed.ensures.back in
    let places = back.3 in
    inr (record {
      taken = taking.links;
      returned = back.0;
      log = c.close_down-closed.result.desk;
      legal = c.close_down-closed.ensures.legal;
      served = subst (λ (l : List g.row.D-L.Denot). IsServedInPart g.D.L.Source.remaining g.D.L.Sink.taken g.D.L.Source.faults g.D.L.Source.closed l back.0 c.close_down-closed.result.desk) is back.1;
      from = taking.moved.from ∙ ap (option_map (λ others. taking.links ++ others)) (sym c.close_down-closed.ensures.links);
      within = taking.within;
      back = back.2 ∙ ap (option_map (λ others. others ++ back.0)) c.run-failed.ensures.retired;
      fewer = omega (arith, put, lost, places);
      left = omega (arith, before, places);
    })
