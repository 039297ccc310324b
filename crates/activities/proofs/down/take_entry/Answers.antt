use Rattle.std.proofs.Common.{◌≡◌, Err, refl, sym, ap, ◌∙◌, subst}
use Rattle.troop_entry.specs.Told.{is_leave_of}
use Rattle.activities.specs.declared.errors.PerformError.{PerformError}
use Rattle.activities.specs.Counts.{CountsLink}
use Rattle.activities.specs.Down.{TookEntry}
use Rattle.activities.specs.Memory.{origin_at}
use Rattle.activities.proofs.TookDown.{takes_block, refuses, refusal_counts, entry_wants}
use Rattle.activities.proofs.down.take_entry.Goals as goal

pub returns-in-Ok-Take-Ok-clause-took : goal.returns-in-Ok-Take-Ok-clause-took
returns-in-Ok-Take-Ok-clause-took g c =
    let o = origin_at c.args.hall.now in
    let e = c.args.entry in
    let acts = rw (c.in-Ok-Take-Ok.field-0-is, c.in-Ok-Take-Ok.field-0-0-is) at c.in-Ok-Take-Ok.ensures.ok in
    let t = takes_block o e c.in-Ok-Take-Ok.block c.args.seat.now c.play.new.seat acts in
    let own = c.is_leave_of-gone.ensures ∙ ap (λ who. is_leave_of who e) (sym c.requires.seat.1) in
    (t.own, t.block_is, refl, own, λ gone. t.left (sym own ∙ gone))

pub returns-in-Ok-Take-Err-clause-took : goal.returns-in-Ok-Take-Err-clause-took
returns-in-Ok-Take-Err-clause-took g c =
    let o = origin_at c.args.hall.now in
    let e = c.args.entry in
    let acts = rw (c.in-Ok-Take-Err.field-0-is, c.in-Ok-Take-Err.field-0-0-is) at c.in-Ok-Take-Err.ensures.ok in
    subst (λ (x : PerformError). TookEntry o c.args.number e c.args.seat.now c.play.new.seat (Err x)) (sym c.refused.ensures)
    (refuses o e c.args.number c.in-Ok-Take-Err.refusal c.args.seat.now c.play.new.seat acts)

pub returns-in-Ok-Take-Err-clause-faults : goal.returns-in-Ok-Take-Err-clause-faults
returns-in-Ok-Take-Err-clause-faults g c count =
    subst (λ (x : PerformError). CountsLink x count count) (sym c.refused.ensures) (refusal_counts c.args.number c.in-Ok-Take-Err.refusal count)

pub returns-clause-took : goal.returns-clause-took
returns-clause-took g c =
    let e = c.in-Err.ensures in
    entry_wants (origin_at c.args.hall.now) c.args.entry c.args.number c.args.seat.now c.play.new.seat e.memory e.wanting
