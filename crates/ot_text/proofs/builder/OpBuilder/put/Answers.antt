use Rattle.ot_text.proofs.IsKept.{room_with_part}
use Rattle.ot_text.proofs.builder.OpBuilder.put.Goals as goal

pub retain-requires-clause-base : goal.retain-requires-clause-base
retain-requires-clause-base c = rw c.in-Retain.is at (room_with_part c.args.self.now c.args.part.now c.requires).0

pub retain-requires-clause-target : goal.retain-requires-clause-target
retain-requires-clause-target c = rw c.in-Retain.is at (room_with_part c.args.self.now c.args.part.now c.requires).1

pub insert-requires : goal.insert-requires
insert-requires c = rw c.in-Insert.is at (room_with_part c.args.self.now c.args.part.now c.requires).1

pub delete-requires : goal.delete-requires
delete-requires c = rw c.in-Delete.is at (room_with_part c.args.self.now c.args.part.now c.requires).0
