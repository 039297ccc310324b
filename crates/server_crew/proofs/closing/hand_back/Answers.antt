use Rattle.std.proofs.Common.{rules, ◌≡◌, ◌++◌, ◌∷◌, [], ◌∙◌, ap, sym, subst, length, length-append, append_assoc, map, false, inl, inr, arith}
use Rattle.seat_lock.specs.Lists.{AllOf}
use Rattle.server_crew.specs.Shifts.{all_links, HaveLost}
use Rattle.server_crew.proofs.Back.{back_many}
use Rattle.server_crew.proofs.closing.hand_back.Goals as goal

pub loop-shift-preserved-then-is_spoiled : goal.loop-shift-preserved-then-is_spoiled
loop-shift-preserved-then-is_spoiled g c =
    let inv = c.loop-shift.invariant in
    let places = inv.places in
    let room = inv.room in
    let fewer = c.retire_all.ensures.places in
    let items = c.in-Some.ensures.items in
    let count = ap length items in
    let links = ap (λ l. length (all_links l)) items in
    let both = length-append c.in-Some.shift.links.items (all_links c.pop_front.new.self.items) in
    let len = c.push_reserved.ensures.len in
    let cap = c.push_reserved.ensures.capacity in
    record {
      retired = back_many _ _ c.in-Some.shift.links.items _ _ c.retire_all.ensures.retired (ap all_links items) ∙ inv.retired;
      links = search rules;
      places = omega (arith, places, fewer, links, both);
      count = search rules;
      seats = ap (λ l. l ++ map (λ s. s.seat) c.pop_front.new.self.items) c.push_reserved.ensures.items
          ∙ (append_assoc c.loop-shift.seats.items (c.in-Some.shift.seat ∷ []) (map (λ s. s.seat) c.pop_front.new.self.items) ∙ (ap (λ l. c.loop-shift.seats.items ++ map (λ s. s.seat) l) (sym items) ∙ inv.seats));
      room = omega (arith, room, count, len, cap);
      lost = λ _. inv.lost c.if-is_spoiled.true;
      left = λ some. inv.left (subst HaveLost (sym items) (inr some));
      spoiled = λ e. absurd (let is = c.if-is_spoiled.true in cc);
    }

pub loop-shift-preserved : goal.loop-shift-preserved
loop-shift-preserved g c =
    let inv = c.loop-shift.invariant in
    let places = inv.places in
    let room = inv.room in
    let fewer = c.retire_all.ensures.places in
    let items = c.in-Some.ensures.items in
    let count = ap length items in
    let links = ap (λ l. length (all_links l)) items in
    let both = length-append c.in-Some.shift.links.items (all_links c.pop_front.new.self.items) in
    let len = c.push_reserved.ensures.len in
    let cap = c.push_reserved.ensures.capacity in
    record {
      retired = back_many _ _ c.in-Some.shift.links.items _ _ c.retire_all.ensures.retired (ap all_links items) ∙ inv.retired;
      links = search rules;
      places = omega (arith, places, fewer, links, both);
      count = search rules;
      seats = ap (λ l. l ++ map (λ s. s.seat) c.pop_front.new.self.items) c.push_reserved.ensures.items
          ∙ (append_assoc c.loop-shift.seats.items (c.in-Some.shift.seat ∷ []) (map (λ s. s.seat) c.pop_front.new.self.items) ∙ (ap (λ l. c.loop-shift.seats.items ++ map (λ s. s.seat) l) (sym items) ∙ inv.seats));
      room = omega (arith, room, count, len, cap);
      lost = λ e. inv.left (subst HaveLost (sym items) (inl e));
      left = λ some. inv.left (subst HaveLost (sym items) (inr some));
      spoiled = λ e rest. inv.spoiled c.if-is_spoiled.false (subst (AllOf (λ s. s.is_spoiled ≡ false)) (sym items) (e, rest));
    }
