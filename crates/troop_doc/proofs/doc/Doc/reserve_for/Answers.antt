use Rattle.std.proofs.Common.{◌∙◌}
use Rattle.troop_doc.proofs.ArePaired.{length-pairs}
use Rattle.troop_doc.proofs.doc.Doc.reserve_for.Goals as goal

pub reserve_for-requires : goal.reserve_for-requires
reserve_for-requires c =
    let base_is = rw (← c.self.view_is) at c.requires in
    base_is ∙ length-pairs c.self.invariant ∙ c.self.invariant.even
