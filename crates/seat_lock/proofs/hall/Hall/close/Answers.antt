use Rattle.std.proofs.Common.{rules, ◌≡◌, ◌%◌, ◌^◌, ◌<◌, ◌++◌, ◌∷◌, length, map, ap, sym, ◌∙◌, subst}
use Rattle.seat_lock.specs.Told.{with_others, slot_rows}
use Rattle.seat_lock.specs.Values.{IsSeatOf, card_of}
use Rattle.seat_lock.specs.Settled.{IsSettled}
use Rattle.seat_lock.proofs.AllOf.{all_map}
use Rattle.seat_lock.proofs.AccountFor.{whole}
use Rattle.seat_lock.proofs.AllOf.{front_is, all_front}
use Rattle.seat_lock.proofs.WithOthers.{closes}
use Rattle.seat_lock.proofs.hall.Hall.close.Goals as goal

pub returns-clause-settled : goal.returns-clause-settled
returns-clause-settled g c = let s = c.reveal.ensures.settled in let w = c.wait_turn.ensures.turn in let o = c.take_out-state.ensures.out in let from = c.into_inner-inner.ensures in
    let p = c.into_inner-inner.result in let n : 0 < length c.args.seats.items = c.requires.some in
    let of = all_front (IsSeatOf g.S.Played.rows g.S.Played.fixed c.args.self) c.args.seats.items c.remove.result n c.remove.ensures.value c.requires.hall in
    let log : g.S.Played.rows w.0 ≡ g.S.Played.rows c.take_out-state.result = ap (slot_rows g.S.Played.rows) (sym (ap (λ m. m.1) w.1) ∙ o.0) in
    let r = closes g.S.Played.seat_of p.me.0 c.take_ticket-ticket.new.inner.me.0 c.wait_turn.new.inner.me.0 c.join_all.new.inner.me.0 (g.S.Played.rows w.0) c.take_ticket-ticket.result (map card_of c.remove.new.self.items)
    (ap (λ m. m.0) c.take_ticket-ticket.ensures.ticket) (ap (λ m. m.0) w.1)
    (ap (λ m. m.0) c.join_all.ensures.joined ∙ ap (λ v. with_others v (v.others ++ map card_of c.remove.new.self.items)) (ap (λ m. m.0) o.1)) from.0.1 w.2 s in
    let start = ap (λ (z : _). z.start) (sym from.1) ∙ of.0.2 in
    let cards = ap (λ q. card_of q ∷ map card_of c.remove.new.self.items) (sym from.1) ∙ ap (λ l. card_of c.remove.result ∷ map card_of l) c.remove.ensures.items in
    let cards' = cards ∙ ap (map card_of) (front_is c.args.seats.items c.remove.result n c.remove.ensures.value) in
    let r1 = subst (λ l. IsSettled g.S.Played.seat_of p.me.0.start (g.S.Played.rows w.0) l) cards' r in
    let r2 = subst (λ l. IsSettled g.S.Played.seat_of p.me.0.start l (map card_of c.args.seats.items)) log r1 in
    subst (λ l. IsSettled g.S.Played.seat_of l (g.S.Played.rows c.take_out-state.result) (map card_of c.args.seats.items)) start r2

pub returns-clause-whole : goal.returns-clause-whole
returns-clause-whole g c = λ closed. whole g.S.Played.seat_of (g.S.Played.rows c.args.self.first) (g.S.Played.rows c.take_out-state.result) c.args.seats.items (search rules)
    (all_map (IsSeatOf g.S.Played.rows g.S.Played.fixed c.args.self) (λ s. s.number ≡ s.index % 2 ^ 64) (λ s of. of.3) c.args.seats.items c.requires.hall) (returns-clause-settled g c) closed
