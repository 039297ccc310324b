use Rattle.std.proofs.lemmas.List.{take_rest}
use Rattle.revision_log.proofs.MovedSoFar.{runs_behind}
use Rattle.revision_log.proofs.SeenRefusal.{placed_edit}
use Rattle.revision_log.proofs.desk.Desk.served.Goals as goal

pub moved_through-requires : goal.moved_through-requires
moved_through-requires c =
    let none = rw (← c.self.view_is) at c.requires in
    let edit = placed_edit c.self.inside.rows.items c.args.who c.args.num c.in-Edit.seen c.in-Edit.op c.args.call.now none c.in-Edit.is in
    rw (take_rest, c.deref.ensures.value, edit.1) (runs_behind c.in-Edit.seen c.self.inside.rows.items c.self.invariant.0.legal)
