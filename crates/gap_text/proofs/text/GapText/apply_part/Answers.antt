use Rattle.std.proofs.Common.{sym}
use Rattle.ot_text.specs.Change.{plain}
use Rattle.ot_text.proofs.AppliedInPlace.{list_after_part-Retain}
use Rattle.gap_text.proofs.text.GapText.apply_part.Goals as goal

pub returns-in-Retain-clause-chars : goal.returns-in-Retain-clause-chars
returns-in-Retain-clause-chars c =
    rw c.in-Retain.is (sym (list_after_part-Retain plain c.in-Retain.count c.args.place c.args.self.now.chars))
