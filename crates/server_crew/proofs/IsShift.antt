-- One link more in a shift.
use Rattle.std.proofs.Common.{◌≡◌, ℕ, ◌+◌, ◌<◌, ◌≤◌, List, [], ◌∷◌, ◌++◌, length, sym, ap, ◌∙◌, subst, Option, Bool, true, false, arith, length-append}
use Rattle.std.proofs.lemmas.List.{append-nil, map-append}
use Rattle.std.proofs.lemmas.Grind.{flat_map-append}
use Rattle.seat_lock.specs.Lists.{Begins, AllOf}
use Rattle.seat_lock.proofs.AllOf.{all_map, all_append}
use Rattle.troop_entry.specs.declared.row.Row.{Row}
use Rattle.troop_ports.specs.Bytes.{in_front}
use Rattle.troop_hall.specs.Seats.{IsLater}
use Rattle.link_queue.specs.Balance.{weigh}
use Rattle.session.specs.declared.session_end.SessionEnd.{SessionEnd}
use Rattle.session.specs.Ends.{CountsEnd, wires}
use Rattle.session.specs.Sessions.{Session, HasServed}
use Rattle.session.proofs.Session.{session_later}
use Rattle.server_crew.specs.declared.shift.Shift.{Shift}
use Rattle.server_crew.specs.Shifts.{ServedLink, returned_links, gained_rows, IsServedLink, IsShift}

-- links weigh as much as both parts of them
pub weigh_both : {L : Type 0} (f : L → ℕ) (xs ys : List L) → weigh f (xs ++ ys) ≡ weigh f xs + weigh f ys
weigh_both f [] ys = omega arith
weigh_both f (x ∷ xs) ys = let e = weigh_both f xs ys in omega (arith, e)

module _ {L : Type 0} (remaining written : L → Option (List ℕ)) (faults : L → ℕ) (closed : L → Bool) where
  -- what was served with a log was served with a longer one
  pub served_later : (seat : ℕ) (log log' : List Row) → Begins log log' → (ks : List (ServedLink L)) → AllOf (IsServedLink remaining written faults closed seat log) ks → AllOf (IsServedLink remaining written faults closed seat log') ks
  served_later seat log log' grows ks h = all_map (IsServedLink remaining written faults closed seat log) (IsServedLink remaining written faults closed seat log') (λ k s. record {
    seen = s.seen;
    first = s.first;
    end = s.end;
    held = s.held;
    session = session_later seat s.seen log log' k.gained grows s.first s.end _ s.session;
    count = s.count;
    is_closed = s.is_closed;
  }) ks h

  -- a link that was served behind the others, and is kept unless memory was wanting
  pub one_more : (s t : Shift L) (taken : List L) (a y z : L) (end : SessionEnd) → IsLater s.seat t.seat → HasServed s.seat t.seat end (remaining a) (remaining y) (written a) (written y) → CountsEnd end (faults a) (faults y)
      → remaining z ≡ remaining y → written z ≡ written y → faults z ≡ faults y → closed z ≡ true
      → (t.is_spoiled ≡ false → (s.is_spoiled ≡ false) × (t.links.items ≡ s.links.items ++ z ∷ [])) → ((f : L → ℕ) → weigh f t.links.items ≤ weigh f s.links.items + f z) → length t.links.items ≤ length s.links.items + 1 → (t.is_spoiled ≡ true → length t.links.items < length taken + 1) → IsShift remaining written faults closed s taken → IsShift remaining written faults closed t (taken ++ a ∷ [])
  one_more s t taken a y z end later sat counts same_left same_written same_count shut kept part few less h =
      let k : ServedLink L = record { taken = a; returned = z; gained = sat.gained } in
      let served : IsServedLink remaining written faults closed s.seat.number t.seat.seen k = record {
        seen = s.seat.seen;
        first = sat.first;
        end = end;
        held = sat.held;
        session = subst (λ (x : Option (List ℕ) × Option (List ℕ)). Session sat.first s.seat.number s.seat.seen t.seat.seen sat.gained end (wires (remaining a) (in_front sat.held x.0) x.0 (written a) x.1))
            (sym (λ i. (same_left i, same_written i))) sat.session;
        count = subst (λ n. CountsEnd end (faults a) n) (sym same_count) counts;
        is_closed = shut;
      } in
      let longer = length-append taken (a ∷ []) in let before = h.few in
      record {
        served = h.served ++ k ∷ [];
        taken_are = map-append (λ (x : ServedLink L). x.taken) h.served (k ∷ []) ∙ ap (λ l. l ++ a ∷ []) h.taken_are;
        returned_are = λ e. let both = kept e in map-append (λ (x : ServedLink L). x.returned) h.served (k ∷ []) ∙ (ap (λ l. l ++ z ∷ []) (h.returned_are both.0) ∙ sym both.1);
        part = λ f.
            let more = part f in
            let before = h.part f in
            let all = ap (weigh f) (map-append (λ (x : ServedLink L). x.returned) h.served (k ∷ [])) in
            let both = weigh_both f (returned_links h.served) (z ∷ []) in
            omega (arith, more, before, all, both);
        few = omega (arith, longer, before, few);
        lost = λ e. let fewer = less e in omega (arith, longer, fewer);
        own = sat.own ∙ (ap (λ l. l ++ sat.gained) h.own ∙ sym (flat_map-append (λ (x : ServedLink L). x.gained) h.served (k ∷ []) ∙ ap (λ l. gained_rows h.served ++ l) (append-nil sat.gained)));
        sessions = subst (λ n. AllOf (IsServedLink remaining written faults closed n t.seat.seen) (h.served ++ k ∷ [])) (sym later.number)
            (all_append (IsServedLink remaining written faults closed s.seat.number t.seat.seen) h.served (k ∷ []) (served_later s.seat.number s.seat.seen t.seat.seen later.seen h.served h.sessions) (served, tt));
      }
