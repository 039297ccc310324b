use Rattle.std.proofs.Common.{ap, arith}
use Rattle.ot_text.specs.Change.{target}
use Rattle.ot_text.specs.Parts.{norm}
use Rattle.ot_text.proofs.Then.{target-retain_then}
use Rattle.ot_transform.proofs.GoesOn.{places_kept, places_gone}
use Rattle.ot_transform.proofs.composite.Composer.add_places_run.Goals as goal

pub retain-requires-clause-target : goal.retain-requires-clause-target
retain-requires-clause-target c =
    let so_far = c.in_ok-put_text.ensures.goes_on in
    omega (arith, so_far.room, ap target c.if-skip.ensures, target-retain_then c.min-run.result (norm c.skip.new.self))

pub returns-in_ok-retain-clause-goes_on : goal.returns-in_ok-retain-clause-goes_on
returns-in_ok-retain-clause-goes_on c =
    let so_far = c.in_ok-put_text.ensures.goes_on in
    places_kept _ _ _ _ c.min-run.result (omega arith) so_far c.if-skip.ensures c.in_ok-retain.ensures.ok

pub returns-in_ok-delete-clause-goes_on : goal.returns-in_ok-delete-clause-goes_on
returns-in_ok-delete-clause-goes_on c =
    let so_far = c.in_ok-put_text.ensures.goes_on in
    places_gone _ _ _ _ c.min-run.result (omega arith) so_far c.if-skip.ensures c.in_ok-delete.ensures.ok
