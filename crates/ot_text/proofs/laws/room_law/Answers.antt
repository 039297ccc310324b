use Rattle.ot_text.proofs.InsertCount.{insert_count-le-inserted}
use Rattle.ot_text.proofs.Then.{target-le}
use Rattle.ot_text.proofs.laws.room_law.Goals as goal

pub returns-clause-texts : goal.returns-clause-texts
returns-clause-texts c = insert_count-le-inserted

pub returns-clause-target : goal.returns-clause-target
returns-clause-target c = target-le
