use Rattle.std.proofs.Common.{◌≤◌, length, refl, ap, arith}
use Rattle.std.proofs.lemmas.List.{length-take-le}
use Rattle.ot_text.specs.Change.{target}
use Rattle.ot_text.specs.Parts.{norm}
use Rattle.ot_text.proofs.Then.{target-retain_then}
use Rattle.ot_transform.proofs.GoesOn.{characters_kept, characters_gone}
use Rattle.ot_transform.proofs.composite.Composer.add_text_run.Goals as goal

pub insert_chars-requires : goal.insert_chars-requires
insert_chars-requires c =
    let so_far = c.in_ok-put_text.ensures.goes_on in
    let within : c.min-count.result ≤ length c.args.chars.now = omega arith in
    omega (
      arith,
      so_far.room,
      ap target c.if-skip.ensures,
      target-retain_then c.min-count.result (norm c.skip.new.self),
      length-take-le c.min-count.result c.args.chars.now within,
    )

pub returns-in_ok-insert_chars-clause-goes_on : goal.returns-in_ok-insert_chars-clause-goes_on
returns-in_ok-insert_chars-clause-goes_on c =
    let so_far = c.in_ok-put_text.ensures.goes_on in
    characters_kept _ _ _ _ c.min-count.result (omega arith) so_far c.if-skip.ensures c.in_ok-insert_chars.ensures.ok

pub returns-else-skip-clause-goes_on : goal.returns-else-skip-clause-goes_on
returns-else-skip-clause-goes_on c =
    let so_far = c.in_ok-put_text.ensures.goes_on in
    characters_gone _ _ _ _ c.min-count.result (omega arith) so_far c.if-skip.ensures refl
