use Rattle.std.proofs.Common.{rules, ◌≡◌, ◌<◌, ◌++◌, [], length, map, ap, sym, ◌∙◌, subst}
use Rattle.std.proofs.lemmas.List.{append-nil}
use Rattle.seat_lock.specs.Lists.{AllOf}
use Rattle.seat_lock.specs.Told.{with_others}
use Rattle.seat_lock.specs.Values.{card_of}
use Rattle.seat_lock.proofs.WithOthers.{joins_next}
use Rattle.seat_lock.proofs.AllOf.{all_front, nil_of}
use Rattle.seat_lock.proofs.hall.join_all.Goals as goal

pub join-requires-clause-board : goal.join-requires-clause-board
join-requires-clause-board g c = let inv = c.loop-inner.invariant in let some : 0 < length c.loop-inner.seats.items = search rules in
    let of = all_front (λ s. s.table ≡ c.args.board.now.shared.table_id) c.loop-inner.seats.items c.remove.result some c.remove.ensures.value inv.3 in
    (search rules, search rules, ap (λ s. s.table) (sym c.into_inner.ensures.1) ∙ of.0)

pub loop-inner-preserved : goal.loop-inner-preserved
loop-inner-preserved g c = let inv = c.loop-inner.invariant in let e = c.join.ensures.joined in let from = c.into_inner.ensures in
    let some : 0 < length c.loop-inner.seats.items = search rules in
    let n = joins_next card_of c.args.inner.now.me.0 c.loop-inner.inner.me.0 c.into_inner.result.me.0 c.join.new.inner.me.0 c.loop-inner.seats.items c.remove.result _ (ap (λ m. m.0) e) (ap (λ m. m.0) inv.1) from.0.1 (ap card_of (sym from.1)) some c.remove.ensures.value inv.2 in (
      search rules,
      (λ i. (n.0 i, (ap (λ m. m.1) e ∙ ap (λ m. m.1) inv.1) i)),
      ap (λ l. c.join.new.inner.me.0.others ++ map card_of l) c.remove.ensures.items ∙ n.1,
      subst (AllOf (λ s. s.table ≡ c.args.board.now.shared.table_id)) (sym c.remove.ensures.items) (all_front (λ s. s.table ≡ c.args.board.now.shared.table_id) c.loop-inner.seats.items c.remove.result some c.remove.ensures.value inv.3).1,
    )

pub returns-clause-joined : goal.returns-clause-joined
returns-clause-joined g c = let inv = c.loop-inner.invariant in let none : c.loop-inner.seats.items ≡ [] = nil_of c.loop-inner.seats.items (search rules) in
    let total = sym (append-nil c.loop-inner.inner.me.0.others) ∙ (ap (λ l. c.loop-inner.inner.me.0.others ++ map card_of l) (sym none) ∙ inv.2) in
    inv.1 ∙ ap (λ l. (with_others c.args.inner.now.me.0 l, c.args.inner.now.me.1)) total
