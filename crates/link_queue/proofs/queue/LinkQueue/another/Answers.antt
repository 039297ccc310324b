use Rattle.std.proofs.Common.{◌≡◌, ap, arith, false}
use Rattle.crossbeam_queue.specs.Passes.{view}
use Rattle.link_queue.specs.Ends.{LinkEndValue}
use Rattle.link_queue.proofs.Balanced.{forks}
use Rattle.link_queue.proofs.queue.LinkQueue.another.Goals as goal

pub another-pass-requires-clause-rule : goal.another-pass-requires-clause-rule
another-pass-requires-clause-rule g c =
    let same = ap (λ (e : LinkEndValue g.row.L.Denot). e.parts) c.end.view_is in
    let some_parts = c.requires.parts in
    forks (λ link. g.L.Source.closed link ≡ false) c.end.inside.pass.id (view c.end.inside.pass) (omega (arith, same, some_parts))
