use Rattle.std.proofs.Common.{refl}
use Rattle.std.proofs.lemmas.Result.{on_ok_weaker}
use Rattle.ot_transform.proofs.GoesOn.{places_removed}
use Rattle.ot_transform.proofs.composite.Composer.add_part.Goals as goal

pub returns-in-Delete : goal.returns-in-Delete
returns-in-Delete c =
    rw c.in-Delete.is (on_ok_weaker c.delete.result (places_removed _ _ c.in-Delete.count refl) c.delete.ensures.ok)
