-- Shifts one behind another.
use Rattle.std.proofs.Common.{◌≡◌, ℕ, ◌<◌, ◌≤◌, List, [], ◌∷◌, ◌++◌, length, map, refl, sym, ap, ◌∙◌, Bool, Option, true, false, ⊎_elim, arith, length-append, append_assoc, All}
use Rattle.std.proofs.lemmas.List.{append-nil}
use Rattle.std.proofs.lemmas.List.Elements.{All-head, All-tail}
use Rattle.atomic_table.specs.Seated.{TableId}
use Rattle.seat_lock.specs.Lists.{Begins, AllOf, rows_of}
use Rattle.troop_entry.specs.declared.row.Row.{Row}
use Rattle.troop_hall.specs.Seats.{DeskHallValue}
use Rattle.link_queue.specs.Balance.{weigh}
use Rattle.server_crew.specs.declared.shift.Shift.{Shift}
use Rattle.server_crew.specs.declared.worker.Worker.{Worker}
use Rattle.server_crew.specs.Shifts.{returned_links, gained_rows, all_links, HaveLost, IsServedLink, IsShift, AreShifts}
use Rattle.server_crew.specs.Workers.{IsAtWork, all_taken}
use Rattle.server_crew.specs.Crews.{Hand, taken_by, returned_by}
use Rattle.server_crew.proofs.IsShift.{served_later, weigh_both}

module _ {L : Type 0} where
  -- the shifts of workers
  abbrev pub shifts_of : List (Worker L) → List (Shift L)
  shifts_of ws = map (λ (w : Worker L). w.shift) ws

-- what these shifts come to at the end: a hand for each, with the same number
pub record AreHands {L : Type 0} (remaining written : L → Option (List ℕ)) (faults : L → ℕ) (closed : L → Bool) (shifts : List (Shift L)) (taken : List L) (log : List Row) : Type 0 where
  pub hands : List (Hand L)
  pub numbers : map (λ (h : Hand L). h.number) hands ≡ map (λ (s : Shift L). s.seat.number) shifts
  pub taken_are : taken_by hands ≡ taken
  pub returned_are : AllOf (λ (s : Shift L). s.is_spoiled ≡ false) shifts → returned_by hands ≡ all_links shifts
  pub part : (f : L → ℕ) → weigh f (all_links shifts) ≤ weigh f (returned_by hands)
  pub served : AllOf (λ (h : Hand L). AllOf (IsServedLink remaining written faults closed h.number log) h.served) hands
  pub own : AllOf (λ (h : Hand L). rows_of (λ (r : Row). r.seat) h.number log ≡ gained_rows h.served) hands

module _ {L : Type 0} (remaining written : L → Option (List ℕ)) (faults : L → ℕ) (closed : L → Bool) where
  -- of workers
  pub shifts_at_work : (hall : DeskHallValue) (queue : TableId) (ws : List (Worker L)) → All (IsAtWork remaining written faults closed hall queue) ws → AreShifts remaining written faults closed (shifts_of ws) (all_taken ws)
  shifts_at_work hall queue [] h = refl
  shifts_at_work hall queue (w ∷ ws) h = (w.end.taken, all_taken ws, refl, (All-head (IsAtWork remaining written faults closed hall queue) w ws h).shift, shifts_at_work hall queue ws (All-tail (IsAtWork remaining written faults closed hall queue) w ws h))

  -- with one shift more
  pub shifts_last : (ss : List (Shift L)) (taken : List L) (s : Shift L) (mine : List L) → AreShifts remaining written faults closed ss taken → IsShift remaining written faults closed s mine → AreShifts remaining written faults closed (ss ++ s ∷ []) (taken ++ mine)
  shifts_last [] taken s mine h last = (mine, [], append-nil mine ∙ ap (λ l. l ++ mine) (sym h), last, refl)
  shifts_last (x ∷ ss) taken s mine h last = (h.0, h.1 ++ mine, sym (append_assoc h.0 h.1 mine) ∙ ap (λ l. l ++ mine) h.2, h.3, shifts_last ss h.1 s mine h.4 last)

  -- no more links are kept than were taken
  pub links_few : (ss : List (Shift L)) (taken : List L) → AreShifts remaining written faults closed ss taken → length (all_links ss) ≤ length taken
  links_few [] taken h = omega arith
  links_few (s ∷ ss) taken h =
      let rest = links_few ss h.1 h.4 in
      let mine = h.3.few in
      let kept = length-append s.links.items (all_links ss) in
      let all = length-append h.0 h.1 in
      let same = ap (λ (l : List L). length l) h.2 in
      omega (arith, rest, mine, kept, all, same)

  -- where one was lost, fewer are kept
  pub links_fewer : (ss : List (Shift L)) (taken : List L) → AreShifts remaining written faults closed ss taken → HaveLost ss → length (all_links ss) < length taken
  links_fewer [] taken h some = absurd some
  links_fewer (s ∷ ss) taken h some =
      let kept = length-append s.links.items (all_links ss) in
      let all = length-append h.0 h.1 in
      let same = ap (λ (l : List L). length l) h.2 in
      ⊎_elim (λ (e : s.is_spoiled ≡ true). let mine = h.3.lost e in let rest = links_few ss h.1 h.4 in omega (arith, rest, mine, kept, all, same))
      (λ (r : HaveLost ss). let mine = h.3.few in let rest = links_fewer ss h.1 h.4 r in omega (arith, rest, mine, kept, all, same)) some

  -- where the seats' own rows are the log's
  pub hands_of : (ss : List (Shift L)) (taken : List L) (log : List Row) → AreShifts remaining written faults closed ss taken → AllOf (λ (s : Shift L). Begins s.seat.seen log) ss → AllOf (λ (s : Shift L). rows_of (λ (r : Row). r.seat) s.seat.number log ≡ s.seat.own) ss
      → AreHands remaining written faults closed ss taken log
  hands_of [] taken log h begins own = record { hands = []; numbers = refl; taken_are = sym h; returned_are = λ _. refl; part = λ f. omega arith; served = tt; own = tt }
  hands_of (s ∷ ss) taken log h begins own =
      let shift = h.3 in
      let rest = hands_of ss h.1 log h.4 begins.1 own.1 in
      let hand : Hand L = record { number = s.seat.number; served = shift.served } in
      record {
        hands = hand ∷ rest.hands;
        numbers = ap (λ l. s.seat.number ∷ l) rest.numbers;
        taken_are = (λ i. shift.taken_are i ++ rest.taken_are i) ∙ h.2;
        returned_are = λ kept i. shift.returned_are kept.0 i ++ rest.returned_are kept.1 i;
        part = λ f.
            let mine = shift.part f in
            let others = rest.part f in
            let kept = weigh_both f s.links.items (all_links ss) in
            let out = weigh_both f (returned_links shift.served) (returned_by rest.hands) in
            omega (arith, mine, others, kept, out);
        served = (served_later remaining written faults closed s.seat.number s.seat.seen log begins.0 shift.served shift.sessions, rest.served);
        own = (own.0 ∙ shift.own, rest.own);
      }
