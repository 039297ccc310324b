use Rattle.troop_doc.proofs.ArePaired.{text_of-pairs}
use Rattle.troop_doc.proofs.doc.Doc.text.Goals as goal

pub returns : goal.returns
returns c = rw (← c.self.view_is, text_of-pairs c.self.invariant) c.to_text.ensures
