use Rattle.std.proofs.Common.{◌≡◌, ◌∙◌, ap, subst, sym, true, arith}
use Rattle.std.specs.Vec.{vec_len, vec_capacity}
use Rattle.log_model.specs.Log.{doc_after}
use Rattle.revision_log.specs.DeskInvariant.{IsDesk, has_stayed, departed_after}
use Rattle.revision_log.proofs.IsDesk.{row_op_fits, leaver_stays, some_stay, desk_more, room_more}
use Rattle.revision_log.proofs.desk.Desk.append.Goals as goal

pub make_ready-requires : goal.make_ready-requires
make_ready-requires c =
    row_op_fits c.self.inside.rows.items c.args.row c.self.inside.doc.pairs c.self.inside.lengths.items c.self.invariant.0.legal c.self.invariant.0.document (rw (← c.self.view_is) at c.requires)

pub returns-in_err-reserve-clause-calm : goal.returns-in_err-reserve-clause-calm
returns-in_err-reserve-clause-calm c = λ leave none.
    let there = leaver_stays c.self.inside.rows.items c.args.row c.self.inside.departed.items c.self.invariant.0.legal c.self.invariant.0.members (rw (← c.self.view_is) at c.requires) leave in
    absurd (omega (arith, c.in_err-reserve.ensures.full, c.room_for-room.ensures.leave leave, some_stay c.self.inside.departed.items c.args.row.who there, c.self.invariant.1.lengths))

pub returns-in_err-reserve-2-clause-calm : goal.returns-in_err-reserve-2-clause-calm
returns-in_err-reserve-2-clause-calm c = λ leave none.
    let there = leaver_stays c.self.inside.rows.items c.args.row c.self.inside.departed.items c.self.invariant.0.legal c.self.invariant.0.members (rw (← c.self.view_is) at c.requires) leave in
    absurd (omega (arith, c.in_err-reserve-2.ensures.full, c.room_for-room.ensures.leave leave, some_stay c.self.inside.departed.items c.args.row.who there, c.self.invariant.1.rows))

pub change-requires-clause-fits : goal.change-requires-clause-fits
change-requires-clause-fits c =
    rw c.make_ready.ensures.pairs
    (row_op_fits c.self.inside.rows.items c.args.row c.self.inside.doc.pairs c.self.inside.lengths.items c.self.invariant.0.legal c.self.invariant.0.document (rw (← c.self.view_is) at c.requires))

pub follow-requires-clause-there : goal.follow-requires-clause-there
follow-requires-clause-there c = λ leave.
    subst (λ l. has_stayed l c.args.row.who ≡ true) (sym c.reserve-3.ensures.items)
    (leaver_stays c.self.inside.rows.items c.args.row c.self.inside.departed.items c.self.invariant.0.legal c.self.invariant.0.members (rw (← c.self.view_is) at c.requires) leave)

desk : (c : goal.After-push_reserved-2) → IsDesk c.push_reserved-2.new.self.items c.change.new.doc.pairs c.push_reserved.new.self.items c.follow.new.departed.items c.note.new.self
desk c =
    desk_more c.self.inside.rows.items c.push_reserved-2.new.self.items c.args.row c.self.inside.doc.pairs c.change.new.doc.pairs c.self.inside.lengths.items c.push_reserved.new.self.items
    c.self.inside.departed.items c.follow.new.departed.items c.self.inside.numbers c.note.new.self c.len-at.result c.len-2.result
    c.self.invariant.0 (rw (← c.self.view_is) at c.requires)
    (c.change.ensures ∙ ap (doc_after c.args.row.who c.args.row.op) c.make_ready.ensures.pairs)
    c.len-2.ensures.value
    (c.push_reserved-2.ensures.items ∙ rw c.reserve-2.ensures.items) (c.push_reserved.ensures.items ∙ rw c.reserve.ensures.items)
    (c.follow.ensures ∙ ap (departed_after c.args.row.who c.args.row.call) c.reserve-3.ensures.items)
    (omega (arith, c.self.inside.rows.ok.0)) c.in_ok-note.ensures.ok

pub invariant_of-self-2 : goal.invariant_of-self-2
invariant_of-self-2 c =
    let there = leaver_stays c.self.inside.rows.items c.args.row c.self.inside.departed.items c.self.invariant.0.legal c.self.invariant.0.members (rw (← c.self.view_is) at c.requires) in
    let follows = c.follow.ensures ∙ ap (departed_after c.args.row.who c.args.row.call) c.reserve-3.ensures.items in (
      desk c,
      record {
        rows = room_more c.args.row.call c.args.row.who c.self.inside.departed.items c.follow.new.departed.items (vec_len c.self.inside.rows) (vec_len c.push_reserved-2.new.self) c.room_for-room.result
            (vec_capacity c.self.inside.rows) (vec_capacity c.push_reserved-2.new.self) follows there (λ other. omega (arith, c.room_for-room.ensures.others other, c.self.inside.departed.ok.0))
            (omega (arith, c.push_reserved-2.ensures.len, c.reserve-2.ensures.len)) c.self.invariant.1.rows (omega (arith, c.push_reserved-2.ensures.capacity, c.reserve-2.ensures.capacity))
            (omega (arith, c.push_reserved-2.ensures.capacity, c.in_ok-reserve-2.ensures.ok, c.reserve-2.ensures.len));
        lengths = room_more c.args.row.call c.args.row.who c.self.inside.departed.items c.follow.new.departed.items (vec_len c.self.inside.lengths) (vec_len c.push_reserved.new.self) c.room_for-room.result
            (vec_capacity c.self.inside.lengths) (vec_capacity c.push_reserved.new.self) follows there (λ other. omega (arith, c.room_for-room.ensures.others other, c.self.inside.departed.ok.0))
            (omega (arith, c.push_reserved.ensures.len, c.reserve.ensures.len)) c.self.invariant.1.lengths (omega (arith, c.push_reserved.ensures.capacity, c.reserve.ensures.capacity))
            (omega (arith, c.push_reserved.ensures.capacity, c.in_ok-reserve.ensures.ok, c.reserve.ensures.len));
      },
    )

pub returns-clause-legal : goal.returns-clause-legal
returns-clause-legal c = (desk c).legal
