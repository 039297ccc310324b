use Rattle.std.proofs.Common.{◌≡◌, ap, arith, false}
use Rattle.crossbeam_queue.specs.Passes.{view}
use Rattle.link_queue.specs.Ends.{LinkEndValue}
use Rattle.link_queue.proofs.Balanced.{merges}
use Rattle.link_queue.proofs.queue.LinkQueue.absorb.Goals as goal

pub absorb-requires-clause-rule : goal.absorb-requires-clause-rule
absorb-requires-clause-rule g c =
    let same = ap (λ (e : LinkEndValue g.row.L.Denot). e.parts) c.end.view_is in
    let part = c.requires.part in
    merges (λ link. g.L.Source.closed link ≡ false) c.end.inside.pass.id (view c.end.inside.pass) c.into_pass-pass.result.id (view c.into_pass-pass.result) (omega (arith, same, part))
