-- What a server did, from what its workers did and what closed seats know.
use Rattle.std.proofs.Common.{◌≡◌, ◌≢◌, ℕ, ◌%◌, ◌^◌, ◌<◌, ◌≤◌, List, [], ◌∷◌, ◌++◌, length, map, suc, refl, sym, ap, ◌∙◌, subst, Bool, Option, false, arith, length-append, All, inl, inr, ⊎_elim, option_map}
use Rattle.std.proofs.lemmas.List.Elements.{All-head, All-tail}
use Rattle.atomic_table.specs.Seated.{TableId}
use Rattle.seat_lock.specs.declared.board.Card.{Card}
use Rattle.seat_lock.specs.Lists.{Begins, AllOf, IsIn, rows_of}
use Rattle.seat_lock.specs.Settled.{AreAllSeats, IsSettled, card_indexes}
use Rattle.seat_lock.specs.Turns.{AreDistinct}
use Rattle.seat_lock.specs.Values.{AccountFor, card_of}
use Rattle.seat_lock.proofs.AllOf.{all_map}
use Rattle.seat_lock.proofs.Updated.{small_mod}
use Rattle.troop_entry.specs.declared.row.Row.{Row}
use Rattle.troop_hall.specs.Seats.{DeskHallValue, DeskSeatValue, IsDeskSeat}
use Rattle.link_queue.specs.Balance.{weigh}
use Rattle.server_crew.specs.declared.shift.Shift.{Shift}
use Rattle.server_crew.specs.declared.worker.Worker.{Worker}
use Rattle.server_crew.specs.Shifts.{ServedLink, taken_links, returned_links, all_links, HaveLost, IsShift, AreShifts}
use Rattle.server_crew.specs.Workers.{IsAtWork, indexes, all_taken}
use Rattle.server_crew.specs.Crews.{Hand, AreDifferent, taken_by, returned_by, IsCrewOf, IsRun, IsServedInPart}
use Rattle.server_crew.proofs.AreShifts.{shifts_of, shifts_at_work, shifts_last, links_few, links_fewer, hands_of}

module _ {A B : Type 0} where
  -- what holds of each image holds of what it is the image of
  of_images : (P : B → Type 0) (f : A → B) (xs : List A) → AllOf P (map f xs) → AllOf (λ x. P (f x)) xs
  of_images P f [] h = tt
  of_images P f (x ∷ xs) h = (h.0, of_images P f xs h.1)

  -- and the other way round
  to_images : (P : B → Type 0) (f : A → B) (xs : List A) → AllOf (λ x. P (f x)) xs → AllOf P (map f xs)
  to_images P f [] h = tt
  to_images P f (x ∷ xs) h = (h.0, to_images P f xs h.1)

-- what holds at each place holds of each element
each_of : {A : Type 0} (P : A → Type 0) (xs : List A) → All P xs → AllOf P xs
each_of P [] h = tt
each_of P (x ∷ xs) h = (All-head P x xs h, each_of P xs (All-tail P x xs h))

-- below 2 ^ 64 seats, a seat with another index than these has another number
other_number : (n : ℕ) (seat : DeskSeatValue) (seats : List DeskSeatValue) → n < 2 ^ 64 → seat.index < n → seat.number ≡ seat.index % 2 ^ 64 → AllOf (λ (c : Card Row). c.index < n) (map card_of seats) → AllOf (λ (s : DeskSeatValue). s.number ≡ s.index % 2 ^ 64) seats
    → AllOf (λ (c : Card Row). c.index ≢ seat.index) (map card_of seats) → AllOf (λ k. k ≢ seat.number) (map (λ (s : DeskSeatValue). s.number) seats)
other_number n seat [] few mine of below numbered apart = tt
other_number n seat (s ∷ ss) few mine of below numbered apart =
    let is = of ∙ small_mod seat.index (omega (arith, few, mine)) in
    let least = below.0 in
    let other = numbered.0 ∙ small_mod s.index (omega (arith, few, least)) in
    ((λ same. apart.0 (sym other ∙ (same ∙ is))), other_number n seat ss few mine of below.1 numbered.1 apart.1)

-- so seats with different indexes have different numbers
numbers_differ : (n : ℕ) (seats : List DeskSeatValue) → n < 2 ^ 64 → AllOf (λ (c : Card Row). c.index < n) (map card_of seats) → AllOf (λ (s : DeskSeatValue). s.number ≡ s.index % 2 ^ 64) seats
    → AreDistinct (map card_of seats) → AreDifferent (map (λ (s : DeskSeatValue). s.number) seats)
numbers_differ n [] few below numbered apart = tt
numbers_differ n (s ∷ ss) few below numbered apart = (other_number n s ss few below.0 numbered.0 below.1 numbered.1 apart.0, numbers_differ n ss few below.1 numbered.1 apart.1)

-- as many cards as seats
length-cards : (seats : List DeskSeatValue) → length (map card_of seats) ≡ length seats
length-cards [] = refl
length-cards (s ∷ ss) = ap suc (length-cards ss)

-- what was made nowhere is anywhere
none_in : (k : ℕ) (made : List ℕ) (is : List ℕ) → made ≡ [] → IsIn k made → IsIn k is
none_in k made is e h = let nothing : ⊥ = subst (IsIn k) e h in absurd nothing

module _ {L : Type 0} where
  -- the seats of these shifts
  abbrev pub seats_of : List (Shift L) → List DeskSeatValue
  seats_of ss = map (λ (s : Shift L). s.seat) ss

  -- their indexes
  abbrev pub seat_indexes : List (Shift L) → List ℕ
  seat_indexes ss = card_indexes (map card_of (seats_of ss))

  -- the last seat's index is there
  last_in : (k : ℕ) (ws : List (Worker L)) (last : Shift L) → last.seat.index ≡ k → IsIn k (seat_indexes (shifts_of ws ++ last ∷ []))
  last_in k [] last e = inl e
  last_in k (w ∷ ws) last e = inr (last_in k ws last e)

  -- so is each worker's
  worker_in : (k : ℕ) (ws : List (Worker L)) (last : Shift L) → IsIn k (indexes ws) → IsIn k (seat_indexes (shifts_of ws ++ last ∷ []))
  worker_in k [] last h = absurd h
  worker_in k (w ∷ ws) last h = ⊎_elim (λ (e : w.shift.seat.index ≡ k). inl e) (λ (i : IsIn k (indexes ws)). inr (worker_in k ws last i)) h

  made_in : (ws : List (Worker L)) (last : Shift L) (is : List ℕ) → AllOf (λ (w : Worker L). w.shift.seat.made ≡ []) ws → ((k : ℕ) → IsIn k last.seat.made → IsIn k is)
      → AllOf (λ (c : Card Row). (k : ℕ) → IsIn k c.made → IsIn k is) (map card_of (seats_of (shifts_of ws ++ last ∷ [])))
  made_in [] last is none all = (all, tt)
  made_in (w ∷ ws) last is none all = (λ k. none_in k w.shift.seat.made is none.0, made_in ws last is none.1 all)

  -- as many as they are, by weights
  count_weigh : (xs : List L) → weigh (λ _. 1) xs ≡ length xs
  count_weigh [] = refl
  count_weigh (x ∷ xs) = let r = count_weigh xs in omega (arith, r)

  -- a link came out of its session for each that was taken
  same_length : (ks : List (ServedLink L)) → length (returned_links ks) ≡ length (taken_links ks)
  same_length [] = refl
  same_length (k ∷ ks) = let r = same_length ks in omega (arith, r)

-- A crew that served these links in these shifts: all came out of their sessions into the shifts, unless one was lost, and what is in the shifts came out of a session.
pub record CrewAtEnd {L : Type 0} (remaining written : L → Option (List ℕ)) (faults : L → ℕ) (closed : L → Bool) (shifts : List (Shift L)) (links : List L) (log : List Row) : Type 0 where
  pub hands : List (Hand L)
  pub crew : IsCrewOf remaining written faults closed log hands
  pub once : (f : L → ℕ) → weigh f links ≡ weigh f (taken_by hands)
  pub whole : AllOf (λ (s : Shift L). s.is_spoiled ≡ false) shifts → returned_by hands ≡ all_links shifts
  pub part : (f : L → ℕ) → weigh f (all_links shifts) ≤ weigh f (returned_by hands)

module _ {L : Type 0} (remaining written : L → Option (List ℕ)) (faults : L → ℕ) (closed : L → Bool) (hall : DeskHallValue) (queue : TableId) where
  -- what the workers' ends are
  pub ends_at_work : (ws : List (Worker L)) → All (IsAtWork remaining written faults closed hall queue) ws → AllOf (λ (w : Worker L). (w.end.queue ≡ queue) × (w.end.parts ≡ 1) × (w.end.put ≡ [])) ws
  ends_at_work ws h = all_map (IsAtWork remaining written faults closed hall queue) (λ (w : Worker L). (w.end.queue ≡ queue) × (w.end.parts ≡ 1) × (w.end.put ≡ [])) (λ w a. (a.queue_is, a.part, a.put)) ws (each_of (IsAtWork remaining written faults closed hall queue) ws h)

  -- all seats are of the hall
  pub seats_at_work : (ws : List (Worker L)) (last : Shift L) → All (IsAtWork remaining written faults closed hall queue) ws → IsDeskSeat hall last.seat → AllOf (IsDeskSeat hall) (seats_of (shifts_of ws ++ last ∷ []))
  seats_at_work [] last h own = (own, tt)
  seats_at_work (w ∷ ws) last h own = ((All-head (IsAtWork remaining written faults closed hall queue) w ws h).seat, seats_at_work ws last (All-tail (IsAtWork remaining written faults closed hall queue) w ws h) own)

  -- and they are all its seats
  pub all_at_work : (ws : List (Worker L)) (last : Shift L) → All (IsAtWork remaining written faults closed hall queue) ws → last.seat.index ≡ 0 → last.seat.made ≡ indexes ws → AreAllSeats (map card_of (seats_of (shifts_of ws ++ last ∷ [])))
  all_at_work ws last h first made = record {
    first = last_in 0 ws last first;
    made = made_in ws last (seat_indexes (shifts_of ws ++ last ∷ [])) (all_map (IsAtWork remaining written faults closed hall queue) (λ (w : Worker L). w.shift.seat.made ≡ []) (λ w a. a.made) ws (each_of (IsAtWork remaining written faults closed hall queue) ws h))
        (λ k i. worker_in k ws last (subst (IsIn k) made i));
  }

  -- the shifts of all
  pub shifts_at_end : (ws : List (Worker L)) (last : Shift L) (mine : List L) → All (IsAtWork remaining written faults closed hall queue) ws → IsShift remaining written faults closed last mine → AreShifts remaining written faults closed (shifts_of ws ++ last ∷ []) (all_taken ws ++ mine)
  shifts_at_end ws last mine h own = shifts_last remaining written faults closed (shifts_of ws) (all_taken ws) last mine (shifts_at_work remaining written faults closed hall queue ws h) own

  -- no more links are kept than were put in
  pub few_at_end : (ws : List (Worker L)) (last : Shift L) (mine links : List L) → All (IsAtWork remaining written faults closed hall queue) ws → IsShift remaining written faults closed last mine
      → ((f : L → ℕ) → weigh f links ≡ weigh f (all_taken ws ++ mine)) → length (all_links (shifts_of ws ++ last ∷ [])) ≤ length links
  few_at_end ws last mine links h own once =
      let few = links_few remaining written faults closed (shifts_of ws ++ last ∷ []) (all_taken ws ++ mine) (shifts_at_end ws last mine h own) in
      let same = once (λ _. 1) in
      let left = count_weigh links in
      let right = count_weigh (all_taken ws ++ mine) in
      omega (arith, few, same, left, right)

  -- where one was lost, fewer are
  pub lost_at_end : (ws : List (Worker L)) (last : Shift L) (mine links : List L) → All (IsAtWork remaining written faults closed hall queue) ws → IsShift remaining written faults closed last mine
      → ((f : L → ℕ) → weigh f links ≡ weigh f (all_taken ws ++ mine)) → HaveLost (shifts_of ws ++ last ∷ []) → length (all_links (shifts_of ws ++ last ∷ [])) < length links
  lost_at_end ws last mine links h own once some =
      let fewer = links_fewer remaining written faults closed (shifts_of ws ++ last ∷ []) (all_taken ws ++ mine) (shifts_at_end ws last mine h own) some in
      let same = once (λ _. 1) in
      let left = count_weigh links in
      let right = count_weigh (all_taken ws ++ mine) in
      omega (arith, fewer, same, left, right)

  -- where no link was lost, all came back
  pub kept_at_end : (ws : List (Worker L)) (last : Shift L) (mine links : List L) → All (IsAtWork remaining written faults closed hall queue) ws → IsShift remaining written faults closed last mine
      → ((f : L → ℕ) → weigh f links ≡ weigh f (all_taken ws ++ mine)) → AllOf (λ (s : Shift L). s.is_spoiled ≡ false) (shifts_of ws ++ last ∷ []) → length (all_links (shifts_of ws ++ last ∷ [])) ≡ length links
  kept_at_end ws last mine links h own once kept =
      let few = kept_all (shifts_of ws ++ last ∷ []) (all_taken ws ++ mine) (shifts_at_end ws last mine h own) kept in
      let same = once (λ _. 1) in
      let left = count_weigh links in
      let right = count_weigh (all_taken ws ++ mine) in
      omega (arith, few, same, left, right)
    where
      kept_all : (ss : List (Shift L)) (taken : List L) → AreShifts remaining written faults closed ss taken → AllOf (λ (s : Shift L). s.is_spoiled ≡ false) ss → length (all_links ss) ≡ length taken
      kept_all [] taken h kept = ap (λ (l : List L). length l) (sym h)
      kept_all (s ∷ ss) taken h kept =
          let rest = kept_all ss h.1 h.4 kept.1 in
          let mine = h.3 in
          let out = ap (λ (l : List L). length l) (mine.returned_are kept.0) in
          let into = ap (λ (l : List L). length l) mine.taken_are in
          let images = same_length mine.served in
          let both = length-append s.links.items (all_links ss) in
          let all = length-append h.0 h.1 in
          let same = ap (λ (l : List L). length l) h.2 in
          omega (arith, rest, out, into, images, both, all, same)

  -- the crew, and what came of its sessions
  pub crew_at_end : (ws : List (Worker L)) (last : Shift L) (mine links : List L) (start log : List Row) → All (IsAtWork remaining written faults closed hall queue) ws → IsDeskSeat hall last.seat → length (seats_of (shifts_of ws ++ last ∷ [])) < 2 ^ 64
      → IsShift remaining written faults closed last mine → ((f : L → ℕ) → weigh f links ≡ weigh f (all_taken ws ++ mine)) → last.seat.index ≡ 0 → last.seat.made ≡ indexes ws → start ≡ []
      → IsSettled (λ (r : Row). r.seat) start log (map card_of (seats_of (shifts_of ws ++ last ∷ []))) → (AreAllSeats (map card_of (seats_of (shifts_of ws ++ last ∷ []))) → AccountFor (λ (r : Row). r.seat) start log (seats_of (shifts_of ws ++ last ∷ [])))
      → CrewAtEnd remaining written faults closed (shifts_of ws ++ last ∷ []) links log
  crew_at_end ws last mine links start log h seat fits own once first made empty settled account =
      let ss : List (Shift L) = shifts_of ws ++ last ∷ [] in
      let closed_all = all_at_work ws last h first made in
      let whole = account closed_all in
      let most = settled.few closed_all in
      let cards = length-cards (seats_of ss) in
      let few : settled.seats < 2 ^ 64 = omega (arith, fits, most, cards) in
      let numbered = all_map (IsDeskSeat hall) (λ (s : DeskSeatValue). s.number ≡ s.index % 2 ^ 64) (λ s of. of.3) (seats_of ss) (seats_at_work ws last h seat) in
      let begins = of_images (λ (s : DeskSeatValue). Begins s.seen log) (λ (s : Shift L). s.seat) ss (of_images (λ (c : Card Row). Begins c.seen log) card_of (seats_of ss) settled.begins) in
      let rows = of_images (λ (s : DeskSeatValue). rows_of (λ (r : Row). r.seat) s.number log ≡ s.own) (λ (s : Shift L). s.seat) ss whole.own in
      let hands = hands_of remaining written faults closed ss (all_taken ws ++ mine) log (shifts_at_end ws last mine h own) begins rows in
      let all : whole.behind ≡ log = ap (λ l. l ++ whole.behind) (sym empty) ∙ whole.splits in
      record {
        hands = hands.hands;
        crew = record {
          served = hands.served;
          apart = subst AreDifferent (numbers_are ss ∙ sym hands.numbers) (numbers_differ settled.seats (seats_of ss) few settled.below numbered settled.distinct);
          own = hands.own;
          every = subst (λ numbers. AllOf (λ (r : Row). IsIn r.seat numbers) log) (numbers_are ss ∙ sym hands.numbers) (subst (AllOf (λ (r : Row). IsIn r.seat (map (λ (s : DeskSeatValue). s.number) (seats_of ss)))) all whole.every);
        };
        once = λ f. once f ∙ ap (weigh f) (sym hands.taken_are);
        whole = hands.returned_are;
        part = hands.part;
      }
    where
      numbers_are : (ss : List (Shift L)) → map (λ (s : DeskSeatValue). s.number) (seats_of ss) ≡ map (λ (s : Shift L). s.seat.number) ss
      numbers_are [] = refl
      numbers_are (s ∷ ss) = ap (λ l. s.seat.number ∷ l) (numbers_are ss)

  -- where no link was lost, the run
  pub run_at_end : (ss : List (Shift L)) (links : List L) (log : List Row) (old new retired retired' : Option (List L)) → CrewAtEnd remaining written faults closed ss links log → AllOf (λ (s : Shift L). s.is_spoiled ≡ false) ss
      → old ≡ option_map (λ others. links ++ others) new → retired' ≡ option_map (λ others. others ++ all_links ss) retired → IsRun remaining written faults closed links log old new retired retired'
  run_at_end ss links log old new retired retired' end kept from back = record {
    hands = end.hands;
    from = from;
    crew = end.crew;
    once = end.once;
    back = back ∙ ap (λ l. option_map (λ others. others ++ l) retired) (sym (end.whole kept));
  }

  -- the links that came back are among those that came out of the sessions
  pub part_at_end : (ss : List (Shift L)) (links returned : List L) (log : List Row) → CrewAtEnd remaining written faults closed ss links log → returned ≡ all_links ss → IsServedInPart remaining written faults closed links returned log
  part_at_end ss links returned log end same = record { hands = end.hands; crew = end.crew; once = end.once; part = λ f. let weight = ap (weigh f) same in let part = end.part f in omega (arith, weight, part) }

module _ {L : Type 0} where
  -- what was put in weighs as much as what was taken, by the workers and then by who swept
  pub weighed : (links put taken mine gathered : List L) (ws vs : List (Worker L)) (none : List L) → ((f : L → ℕ) → weigh f put ≡ weigh f taken) → put ≡ links → taken ≡ gathered ++ mine → gathered ≡ none ++ all_taken vs → none ≡ [] → vs ≡ ws
      → (f : L → ℕ) → weigh f links ≡ weigh f (all_taken ws ++ mine)
  weighed links put taken mine gathered ws vs none all is into from empty same f =
      ap (weigh f) (sym is) ∙ (all f ∙ ap (weigh f) (into ∙ ap (λ l. l ++ mine) (from ∙ (λ i. empty i ++ all_taken (same i)))))

  -- the shifts that were gathered, and then the last one
  pub gathered_are : (items gathered none : List (Shift L)) (ws vs : List (Worker L)) (last : Shift L) → items ≡ gathered ++ last ∷ [] → gathered ≡ none ++ shifts_of vs → none ≡ [] → vs ≡ ws → items ≡ shifts_of ws ++ last ∷ []
  gathered_are items gathered none ws vs last is from empty same = is ∙ ap (λ l. l ++ last ∷ []) (from ∙ (λ i. empty i ++ shifts_of (same i)))

module _ {L : Type 0} (remaining written : L → Option (List ℕ)) (faults : L → ℕ) (closed : L → Bool) where
  -- a run from the door as it was at first
  pub run_from : (taken put : List L) (log : List Row) (old mid new retired retired_then retired' : Option (List L)) → ((links : Option (List L)) → links ≡ option_map (λ others. put ++ others) new → IsRun remaining written faults closed put log links new retired_then retired')
      → put ≡ taken → old ≡ option_map (λ others. taken ++ others) mid → new ≡ mid → retired_then ≡ retired → IsRun remaining written faults closed taken log old new retired retired'
  run_from taken put log old mid new retired retired_then retired' run is from left same =
      subst (λ l. IsRun remaining written faults closed l log old new retired retired') is (subst (λ r. IsRun remaining written faults closed put log old new r retired') same
      (run old (from ∙ (λ i. option_map (λ others. sym is i ++ others) (sym left i)))))
