use Rattle.std.proofs.Common.{rules, arith, ◌≡◌, ◌++◌, ◌∷◌, [], ◌∙◌, ap, sym, append_assoc, length}
use Rattle.std.proofs.lemmas.List.{map-append, length-append}
use Rattle.std.proofs.lemmas.List.Elements.{All-append}
use Rattle.server_crew.specs.Workers.{IsAtWork, indexes}
use Rattle.server_crew.proofs.hire.hire.Goals as goal

pub hire_one-worker-requires-clause-parts : goal.hire_one-worker-requires-clause-parts
hire_one-worker-requires-clause-parts g c = let inv = c.loop-hired.invariant.parts in let most = c.requires.parts in let more = c.loop-hired-test.true in omega (arith, inv, most, more)

pub loop-hired-preserved : goal.loop-hired-preserved
loop-hired-preserved g c =
    let inv = c.loop-hired.invariant in
    let items : c.push.new.self.items ≡ c.loop-hired.workers.items ++ c.hire_one-worker.result ∷ [] = search rules in
    let one = length-append c.loop-hired.workers.items (c.hire_one-worker.result ∷ []) in
    let counted = ap length items in
    let before = inv.count in
    let parts = inv.parts in
    let fewer = c.hire_one-worker.ensures.queue.1 in
    record {
      seat = search rules;
      same = search rules;
      queue = search rules;
      parts = omega (arith, parts, fewer);
      count = omega (arith, one, counted, before);
      workers = rw items (All-append (IsAtWork g.L.Source.remaining g.L.Sink.taken g.L.Source.faults g.L.Source.closed c.args.hall.now c.args.queue.now.table) c.loop-hired.workers.items (c.hire_one-worker.result ∷ []) inv.workers (search rules));
      made = c.hire_one-worker.ensures.made ∙ (ap (λ l. l ++ c.hire_one-worker.result.shift.seat.index ∷ []) inv.made
          ∙ (append_assoc c.args.first.now.made (indexes c.loop-hired.workers.items) (c.hire_one-worker.result.shift.seat.index ∷ []) ∙ ap (λ l. c.args.first.now.made ++ l) (sym (ap indexes items ∙ map-append (λ w. w.shift.seat.index) c.loop-hired.workers.items (c.hire_one-worker.result ∷ [])))));
    }
