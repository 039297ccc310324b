-- A join keeps the rule, and what it shows at the end.
use Rattle.std.proofs.Common.{◌≡◌, ◌≢◌, ℕ, ◌<◌, eqb, eq-eqb, ne_eqb, cond, true, false, List, [], ◌∷◌, ◌++◌, length, set, sym, refl, ap, ◌∙◌, subst, ⊎_elim, arith, Option, zero, suc}
use mathlib.Core.Logic.{dite}
use mathlib.Core.Option.{some}
use mathlib.Core.Option as maybe
use native.Mathlib.Decide.{ℕ_discrete}
use lib.ListN.{get_elem?}
use Rattle.atomic_table.specs.Table.{State, Me, step, keeps, Allows, Joins}
use Rattle.atomic_table.proofs.Lists.{set_else}
use Rattle.seat_lock.specs.declared.board.Card.{Card}
use Rattle.seat_lock.specs.declared.board.View.{View}
use Rattle.seat_lock.specs.declared.board.Phase.{Phase}
use Rattle.seat_lock.specs.declared.board.Phase.TheVariants.{Idle, Giving, Waiting, Playing}
use Rattle.seat_lock.specs.Lists.{Begins, AllOf, IsIn, rows_of}
use Rattle.seat_lock.specs.Turns.{AreDistinct, Book, Tickets, IsCardOf, IsPhaseOf, Knows, KeepsTurns}
use Rattle.seat_lock.specs.Told.{joined_view, spent_view}
use Rattle.seat_lock.specs.Settled.{card_indexes, AreAllSeats, Reveals}
use Rattle.seat_lock.proofs.IsIn.{all_fit}
use Rattle.seat_lock.proofs.AllOf.{all_map, all_append}
use Rattle.seat_lock.proofs.Updated.{seats_stay, true_false}
use Rattle.seat_lock.proofs.Tickets.{unmoved}
use Rattle.seat_lock.proofs.Book.{book_moves}

module _ {R : Type 0} where
  distinct_append : (xs ys : List (Card R)) → AreDistinct xs → AreDistinct ys → AllOf (λ (c : Card R). AllOf (λ (d : Card R). d.index ≢ c.index) ys) xs → AreDistinct (xs ++ ys)
  distinct_append [] ys p q cross = q
  distinct_append (x ∷ xs) ys p q cross = (all_append (λ (d : Card R). d.index ≢ x.index) xs ys p.0 cross.0, distinct_append xs ys p.1 q cross.1)

  both_of : (P Q : Card R → Type 0) (cs : List (Card R)) → AllOf P cs → AllOf Q cs → AllOf (λ c. P c × Q c) cs
  both_of P Q [] p q = tt
  both_of P Q (c ∷ cs) p q = ((p.0, q.0), both_of P Q cs p.1 q.1)

  length-numbers : (cs : List (Card R)) → length (card_indexes cs) ≡ length cs
  length-numbers [] = refl
  length-numbers (c ∷ cs) = ap suc (length-numbers cs)

  find : (P : Card R → Type 0) (cs : List (Card R)) (k : ℕ) → AllOf P cs → IsIn k (card_indexes cs) → (c : Card R) × P c × (c.index ≡ k)
  find P [] k p i = absurd i
  find P (c ∷ cs) k p i = ⊎_elim (λ e. (c, p.0, e)) (λ t. find P cs k p.1 t) i

module _ {S R F : Type 0} (rows : S → List R) (fixed : S → F) (number : R → ℕ) (legal : F → List R → Type 0) (start : S) where
  abbrev View' : Type 0
  View' = View R F

  abbrev State' : Type 0
  State' = State (Option S) View'

  abbrev Me' : Type 0
  Me' = Me (Option S) View'

  abbrev Rule' : State' → Type 0
  Rule' = KeepsTurns rows fixed number legal start

  abbrev Known : Book R → Tickets → ℕ → View' → Type 0
  Known b q j v = v.live ≡ true → Knows number b j q (fixed start) (rows start) v

  abbrev moved : Book R → ℕ → ℕ → Book R
  moved b from to = record { log = b.log; seats = b.seats; keeper = λ n. cond (eqb (b.keeper n) from) to (b.keeper n); maker = b.maker }

  moved_here : (b : Book R) (from to n : ℕ) → b.keeper n ≡ from → (moved b from to).keeper n ≡ to
  moved_here b from to n e = ap (λ z. cond z to (b.keeper n)) (eq-eqb (b.keeper n) from e)

  moved_else : (b : Book R) (from to n : ℕ) → b.keeper n ≢ from → (moved b from to).keeper n ≡ b.keeper n
  moved_else b from to n e = ap (λ z. cond z to (b.keeper n)) (ne_eqb (b.keeper n) from e)

  card_moved : (b : Book R) (from to j j' : ℕ) (c : Card R) → ((n : ℕ) → b.keeper n ≡ j → (moved b from to).keeper n ≡ j') → IsCardOf number b j c → IsCardOf number (moved b from to) j' c
  card_moved b from to j j' c go h = record { begins = h.begins; below = h.below; kept = go c.index h.kept; own = h.own; made = h.made; sound = h.sound }

  phase_moved : (b : Book R) (q : Tickets) (from to j : ℕ) (c : Card R) → ((n : ℕ) → b.keeper n ≡ j → (moved b from to).keeper n ≡ j) → (st : Phase) → IsPhaseOf number b j q c st → IsPhaseOf number (moved b from to) j q c st
  phase_moved b q from to j c go Idle h = tt
  phase_moved b q from to j c go (Giving m) h = record { below = h.below; kept = go m h.kept; other = h.other; unused = h.unused; childless = h.childless }
  phase_moved b q from to j c go (Waiting t) h = h
  phase_moved b q from to j c go (Playing t) h = h

  -- joining a seat keeps the rule
  pub joins : (id : ℕ) (v : View') (other : ℕ) (u : View') → v.live ≡ true → u.live ≡ true → Joins Rule' id v other u (joined_view v u) spent_view
  joins id v other u live lives s r at apart there = let w : View' = joined_view v u in let known = r.each_seat id v at live in
      let there' : get_elem? s.views other ≡ some u = sym (set_else s.views id other w apart) ∙ there in let known' = r.each_seat other u there' lives in let b' : Book R = moved r.b other id in
      let stay : (j : ℕ) → j ≢ other → (n : ℕ) → r.b.keeper n ≡ j → b'.keeper n ≡ j = λ j not n e. moved_else r.b other id n (λ f. not (sym e ∙ f)) ∙ e in
      let apart' : id ≢ other = λ e. apart (sym e) in
      let go : (n : ℕ) → r.b.keeper n ≡ other → b'.keeper n ≡ id = λ n e. moved_here r.b other id n e in
      let mine : Known b' r.q id w = λ _. record {
        card = card_moved r.b other id id id v.card (stay id apart') known.card;
        others = all_append (IsCardOf number b' id) v.others (u.card ∷ u.others) (all_map (IsCardOf number r.b id) (IsCardOf number b' id) (λ c h. card_moved r.b other id id id c (stay id apart') h) v.others known.others)
            (card_moved r.b other id other id u.card go known'.card, all_map (IsCardOf number r.b other) (IsCardOf number b' id) (λ c h. card_moved r.b other id other id c go h) u.others known'.others);
        phase = phase_moved r.b r.q other id id v.card (stay id apart') v.phase known.phase;
        apart = distinct_append (v.card ∷ v.others) (u.card ∷ u.others) known.apart known'.apart (all_map (IsCardOf number r.b id) (λ (c : Card R). AllOf (λ (d : Card R). d.index ≢ c.index) (u.card ∷ u.others))
            (λ c h. all_map (IsCardOf number r.b other) (λ (d : Card R). d.index ≢ c.index) (λ d i e. apart (sym i.kept ∙ (ap r.b.keeper e ∙ h.kept))) (u.card ∷ u.others) (known'.card, known'.others)) (v.card ∷ v.others) (known.card, known.others));
        fixed = known.fixed;
        start_is = known.start_is;
      } in
      book_moves rows fixed number legal start s r record { words = s.words; homes = s.homes; views = set (set s.views id w) other spent_view } b' r.behind r.words refl (λ _. refl) r.lawful r.splits r.late r.makers
      (seats_stay (Known b' r.q) (set s.views id w) other spent_view (λ l. true_false false l refl)
      (λ j d not e. seats_stay (λ i z. i ≢ other → Known b' r.q i z) s.views id w (λ _. mine)
      (λ i z _ e' not' l. let h = r.each_seat i z e' l in record {
        card = card_moved r.b other id i i z.card (stay i not') h.card;
        others = all_map (IsCardOf number r.b i) (IsCardOf number b' i) (λ c k. card_moved r.b other id i i c (stay i not') k) z.others h.others;
        phase = phase_moved r.b r.q other id i z.card (stay i not') z.phase h.phase;
        apart = h.apart;
        fixed = h.fixed;
        start_is = h.start_is;
      }) j d e not))

  -- each number below n is one of the seats'
  all_below : (s : State') (r : Rule' s) (j : ℕ) (cs : List (Card R)) → AllOf (IsCardOf number r.b j) cs → AreAllSeats cs → (n : ℕ) → (k : ℕ) → k < n → k < r.b.seats → IsIn k (card_indexes cs)
  all_below s r j cs known closed zero k less below = absurd (omega arith)
  all_below s r j cs known closed (suc n) k less below = dite (ℕ_discrete k n)
      (λ is. dite (ℕ_discrete k 0) (λ z. subst (λ m. IsIn m (card_indexes cs)) (sym z) closed.first)
      (λ pos. let m : ℕ = r.b.maker k in let smaller : m < k = r.makers k (omega arith) below in let before = all_below s r j cs known closed n m (omega arith) (omega arith) in
      let P : Card R → Type 0 = λ c. IsCardOf number r.b j c × ((i : ℕ) → IsIn i c.made → IsIn i (card_indexes cs)) in
      let c = find P cs m (both_of (IsCardOf number r.b j) (λ (c : Card R). (i : ℕ) → IsIn i c.made → IsIn i (card_indexes cs)) cs known closed.made) before in
      c.1.1 k (c.1.0.made k (omega arith) below (sym c.2))))
      (λ not. all_below s r j cs known closed n k (omega arith) below)

  -- with the turn, what the joined seats know together is told
  pub reveals : (slots id : ℕ) (me : Me') → me.0.live ≡ true → Allows Rule' slots id me 0 (λ x. x) (Reveals number (step slots 0 0 0 maybe.none) me)
  reveals slots id me live s r _ at _ = let known = r.each_seat id me.0 at live in let cs : List (Card R) = me.0.card ∷ me.0.others in let all : AllOf (IsCardOf number r.b id) cs = (known.card, known.others) in (
    me.0,
    keeps,
    tt,
    unmoved rows fixed number legal start s r 0 id me.1 me.0 (λ _. known),
    (
      refl,
      λ t is. let phase = subst (IsPhaseOf number r.b id r.q me.0.card) is known.phase in let seen_is : me.0.card.seen ≡ r.b.log = phase.4 in record {
        seats = r.b.seats;
        behind = r.behind;
        begins = subst (λ l. AllOf (λ (c : Card R). Begins c.seen l) cs) (sym seen_is) (all_map (IsCardOf number r.b id) (λ (c : Card R). Begins c.seen r.b.log) (λ c h. h.begins) cs all);
        below = all_map (IsCardOf number r.b id) (λ (c : Card R). c.index < r.b.seats) (λ c h. h.below) cs all;
        distinct = known.apart;
        own = λ few. subst (λ l. AllOf (λ (c : Card R). rows_of number c.index l ≡ c.own) cs) (sym seen_is) (all_map (IsCardOf number r.b id) (λ (c : Card R). rows_of number c.index r.b.log ≡ c.own) (λ c h. h.own few) cs all);
        splits = subst (λ (z : List R × List R). z.0 ++ r.behind ≡ z.1) (λ i. (sym known.start_is i, sym seen_is i)) r.splits;
        late = r.late;
        maker = r.b.maker;
        makers = r.makers;
        made = all_map (IsCardOf number r.b id) (λ (c : Card R). (k : ℕ) → IsIn k c.made → (0 < k) × (k < r.b.seats) × (r.b.maker k ≡ c.index)) (λ c h. h.sound) cs all;
        all = λ closed k below. all_below s r id cs all closed r.b.seats k below below;
        few = λ closed. let h = all_fit r.b.seats (card_indexes cs) (λ k below. all_below s r id cs all closed r.b.seats k below below) in let l = length-numbers cs in omega arith;
      },
    ),
  )
