-- The steps that change what is seen, made or kept of the history keep the rule.
use Rattle.std.proofs.Common.{◌≡◌, ◌≢◌, ℕ, ◌+◌, ◌-◌, ◌%◌, ◌^◌, ◌<◌, true, false, List, [], ◌∷◌, ◌++◌, length, length-append, length-set, drop, set, get_or, sym, refl, ap, ◌∙◌, subst, ⊎_elim, arith, append_assoc, Option, Some}
use Rattle.std.proofs.Math.Seq.{drop-append_seam}
use Rattle.std.proofs.lemmas.List.{append-nil}
use mathlib.Core.Logic.{dite}
use mathlib.Core.Option.{some}
use mathlib.Core.Option as maybe
use native.Mathlib.Decide.{ℕ_discrete}
use lib.ListN.{get_elem?}
use Rattle.atomic_table.specs.Table.{State, Me, step, keeps, stepped, Allows, Splits}
use Rattle.seat_lock.specs.declared.board.Card.{Card}
use Rattle.seat_lock.specs.declared.board.View.{View}
use Rattle.seat_lock.specs.declared.board.Phase.{Phase}
use Rattle.seat_lock.specs.declared.board.Phase.TheVariants.{Idle, Giving, Waiting, Playing}
use Rattle.seat_lock.specs.Lists.{AllOf, IsIn, rows_of}
use Rattle.seat_lock.specs.Turns.{Book, Tickets, IsCardOf, IsGiftOf, IsPhaseOf, Knows, KeepsTurns}
use Rattle.seat_lock.specs.Told.{in_phase, having_seen, having_index, having_gained, given_view, index_to_give, slot_rows, IsLegalBy, DrawsNumber, Publishes, LooksAtCount}
use Rattle.seat_lock.proofs.Begins.{begins_same, begins_more}
use Rattle.seat_lock.proofs.AllOf.{all_map, all_append}
use Rattle.seat_lock.proofs.Updated.{at_end, seats_stay, updated, updated_here, updated_else, small_mod, next_mod, true_false}
use Rattle.seat_lock.proofs.IsIn.{is_in_more, is_in_last, is_in_snoc}
use Rattle.seat_lock.proofs.RowsOf.{rows_of-append, rows_of_one, rows_of_other, rows_of_none}
use Rattle.seat_lock.proofs.Tickets.{unmoved, card_sees}

module _ {S R F : Type 0} (rows : S → List R) (fixed : S → F) (number : R → ℕ) (legal : F → List R → Type 0) (start : S) where
  -- what a seat knows
  abbrev pub View' : Type 0
  View' = View R F

  -- a state of the table
  abbrev pub State' : Type 0
  State' = State (Option S) View'

  -- a seat, with what is in its hands
  abbrev pub Me' : Type 0
  Me' = Me (Option S) View'

  -- the rule of a hall that was made of this state
  abbrev pub Rule' : State' → Type 0
  Rule' = KeepsTurns rows fixed number legal start

  -- what a seat knows is so, unless it was joined away
  abbrev pub Known : Book R → Tickets → ℕ → View' → Type 0
  Known b q j v = v.live ≡ true → Knows number b j q (fixed start) (rows start) v

  -- what is seen of the phase does not change where it is not that of the seat with the turn
  phase_sees : (b : Book R) (q : Tickets) (j : ℕ) (c : Card R) (log : List R) → log ≡ b.log → (st : Phase) → IsPhaseOf number b j q c st → IsPhaseOf number b j q (record c { seen = log }) st
  phase_sees b q j c log e Idle k = tt
  phase_sees b q j c log e (Giving n) k = record { below = k.below; kept = k.kept; other = k.other; unused = k.unused; childless = k.childless }
  phase_sees b q j c log e (Waiting t) k = k
  phase_sees b q j c log e (Playing t) k = (k.0, k.1, k.2, k.3, e)

  -- looking at the count keeps the rule
  pub counts : (slots id : ℕ) (me : Me') → me.0.live ≡ true → Allows Rule' slots id me 0 (λ x. x) (LooksAtCount legal (step slots 0 0 0 maybe.none) me)
  counts slots id me live s r _ at _ = let known = r.each_seat id me.0 at live in let log : List R = r.b.log in let w : View' = having_seen me.0 log in (
    w,
    keeps,
    tt,
    unmoved rows fixed number legal start s r 0 id me.1 w
        (λ _. record { card = card_sees rows fixed number legal start r.b id me.0.card log (begins_same log log refl) known.card; others = known.others; phase = phase_sees r.b r.q id me.0.card log refl me.0.phase known.phase; apart = known.apart; fixed = known.fixed; start_is = known.start_is }),
    (refl, (log, ap (λ ws. get_or ws 0 0) r.words, known.card.begins, subst (λ (f : Option F). IsLegalBy legal f log) (sym known.fixed) r.lawful, refl)),
  )

  -- a rule with another book
  pub book_moves : (s : State') (r : Rule' s) (s' : State') (b : Book R) (behind : List R) → s'.words ≡ length b.log ∷ r.q.drawn ∷ r.q.turn ∷ b.seats % 2 ^ 64 ∷ [] → s'.homes ≡ s.homes
      → (r.q.busy ≡ false → b.log ≡ r.b.log) → legal (fixed start) b.log → rows start ++ behind ≡ b.log → (b.seats < 2 ^ 64 → AllOf (λ r. number r < b.seats) behind)
      → ((k : ℕ) → 0 < k → k < b.seats → b.maker k < k) → ((j : ℕ) (v : View') → get_elem? s'.views j ≡ some v → Known b r.q j v) → Rule' s'
  book_moves s r s' b behind words homes still lawful splits late makers each_seat = record {
    b = b;
    q = r.q;
    home = r.home;
    behind = behind;
    words = words;
    homes = homes ∙ r.homes;
    ordered = r.ordered;
    small = r.small;
    taken = r.taken;
    rested = λ f. let h = r.rested f in (h.0, h.1, h.2 ∙ sym (still f), h.3);
    lawful = lawful;
    splits = splits;
    early = r.early;
    late = late;
    makers = makers;
    each_seat = each_seat;
  }

  -- a number that no seat has yet
  abbrev drawn : Book R → ℕ → ℕ → Book R
  drawn b id k = record { log = b.log; seats = b.seats + 1; keeper = updated b.keeper b.seats id; maker = updated b.maker b.seats k }

  card_drawn : (b : Book R) (id k j : ℕ) (c : Card R) → c.index ≢ k → IsCardOf number b j c → IsCardOf number (drawn b id k) j c
  card_drawn b id k j c other h = record {
    begins = h.begins;
    below = let l = h.below in omega arith;
    kept = updated_else b.keeper b.seats id c.index (λ e. let l = h.below in omega arith) ∙ h.kept;
    own = λ l. h.own (omega arith);
    made = λ m pos l e. dite (ℕ_discrete m b.seats) (λ is. absurd (other (sym e ∙ updated_here b.maker b.seats k m is)))
        (λ not. h.made m pos (omega arith) (sym (updated_else b.maker b.seats k m not) ∙ e));
    sound = λ m i. let t = h.sound m i in let l = t.1 in (t.0, omega arith, updated_else b.maker b.seats k m (λ is. omega arith) ∙ t.2);
  }

  gift_drawn : (b : Book R) (id k j : ℕ) (c : Card R) (n : ℕ) → n ≢ k → IsGiftOf number b j c n → IsGiftOf number (drawn b id k) j c n
  gift_drawn b id k j c n other h = record {
    below = let l = h.below in omega arith;
    kept = updated_else b.keeper b.seats id n (λ e. let l = h.below in omega arith) ∙ h.kept;
    other = h.other;
    unused = λ l. h.unused (omega arith);
    childless = λ m pos l e. dite (ℕ_discrete m b.seats) (λ is. other (sym e ∙ updated_here b.maker b.seats k m is))
        (λ not. h.childless m pos (omega arith) (sym (updated_else b.maker b.seats k m not) ∙ e));
  }

  phase_drawn : (b : Book R) (q : Tickets) (id k j : ℕ) (c : Card R) → b.keeper k ≡ id → j ≢ id → (st : Phase) → IsPhaseOf number b j q c st → IsPhaseOf number (drawn b id k) j q c st
  phase_drawn b q id k j c mine other Idle h = tt
  phase_drawn b q id k j c mine other (Giving n) h = gift_drawn b id k j c n (λ e. other (sym h.kept ∙ (ap b.keeper e ∙ mine))) h
  phase_drawn b q id k j c mine other (Waiting t) h = h
  phase_drawn b q id k j c mine other (Playing t) h = h

  -- a number that no seat has stands in no row
  unused_rows : (s : State') (r : Rule' s) → r.b.seats + 1 < 2 ^ 64 → rows_of number r.b.seats r.b.log ≡ []
  unused_rows s r few = let k : ℕ = r.b.seats in ap (rows_of number k) (sym r.splits) ∙ (rows_of-append number k (rows start) r.behind
      ∙ (ap (λ l. l ++ rows_of number k r.behind) (rows_of_none number k (rows start) (all_map (λ x. number x ≡ 2 ^ 64 - 1) (λ x. number x ≢ k) (λ x e f. omega arith) (rows start) r.early))
      ∙ rows_of_none number k r.behind (all_map (λ x. number x < k) (λ x. number x ≢ k) (λ x l f. omega arith) r.behind (r.late (omega arith)))))

  -- drawing an index keeps the rule
  pub numbers : (slots id : ℕ) (me : Me') → me.0.live ≡ true → me.0.phase ≡ Idle → me.0.others ≡ [] → Allows Rule' slots id me 3 (λ x. (x + 1) % 2 ^ 64) (DrawsNumber (step slots 3 1 0 maybe.none) me)
  numbers slots id me live idle alone s r _ at _ = let x : ℕ = get_or s.words 3 0 in let found : x ≡ r.b.seats % 2 ^ 64 = ap (λ ws. get_or ws 3 0) r.words in let known = r.each_seat id me.0 at live in
      let n : ℕ = r.b.seats in let k : ℕ = me.0.card.index in let b' : Book R = drawn r.b id k in let w : View' = having_index me.0 n in let card = known.card in let below = card.below in
      let up : (x + 1) % 2 ^ 64 ≡ (n + 1) % 2 ^ 64 = ap (λ (y : ℕ). (y + 1) % 2 ^ 64) found ∙ next_mod n in (
        w,
        keeps,
        tt,
        book_moves s r (stepped s 3 ((x + 1) % 2 ^ 64) id me.1 w keeps) b' r.behind (ap (λ ws. set ws 3 ((x + 1) % 2 ^ 64)) r.words ∙ ap (λ y. length r.b.log ∷ r.q.drawn ∷ r.q.turn ∷ y ∷ []) up) refl (λ _. refl) r.lawful r.splits
            (λ few. all_map (λ y. number y < n) (λ y. number y < n + 1) (λ y l. omega arith) r.behind (r.late (omega arith)))
            (λ m pos l. dite (ℕ_discrete m n) (λ is. let e = updated_here r.b.maker n k m is in omega arith) (λ not. let e = updated_else r.b.maker n k m not in let h = r.makers m pos (omega arith) in omega arith))
            (seats_stay (Known b' r.q) s.views id w
            (λ _. record {
              card = record {
                begins = card.begins;
                below = omega arith;
                kept = updated_else r.b.keeper n id k (λ e. omega arith) ∙ card.kept;
                own = λ l. card.own (omega arith);
                made = λ m pos l e. dite (ℕ_discrete m n) (λ is. subst (λ (y : ℕ). IsIn m (me.0.card.made ++ y ∷ [])) is (is_in_last m me.0.card.made))
                    (λ not. is_in_more m me.0.card.made (n ∷ []) (card.made m pos (omega arith) (sym (updated_else r.b.maker n k m not) ∙ e)));
                sound = λ m i. ⊎_elim (λ old. let t = card.sound m old in let l = t.1 in (t.0, (omega arith), updated_else r.b.maker n k m (λ is. omega arith) ∙ t.2))
                    (λ (new : n ≡ m). ((omega arith), (omega arith), updated_here r.b.maker n k m (sym new))) (is_in_snoc m n me.0.card.made i);
              };
              others = subst (AllOf (IsCardOf number b' id)) (sym alone) tt;
              phase = record {
                below = omega arith;
                kept = updated_here r.b.keeper n id n refl;
                other = λ e. omega arith;
                unused = unused_rows s r;
                childless = λ m pos l e. dite (ℕ_discrete m n) (λ is. let f = updated_here r.b.maker n k m is in omega arith) (λ not. let f = updated_else r.b.maker n k m not in let h = r.makers m pos (omega arith) in omega arith);
              };
              apart = known.apart;
              fixed = known.fixed;
              start_is = known.start_is;
            })
            (λ j d other e lives. let h = r.each_seat j d e lives in record {
              card = card_drawn r.b id k j d.card (λ f. other (sym h.card.kept ∙ (ap r.b.keeper f ∙ card.kept))) h.card;
              others = all_map (IsCardOf number r.b j) (IsCardOf number b' j) (λ c i. card_drawn r.b id k j c (λ f. other (sym i.kept ∙ (ap r.b.keeper f ∙ card.kept))) i) d.others h.others;
              phase = phase_drawn r.b r.q id k j d.card card.kept other d.phase h.phase;
              apart = h.apart;
              fixed = h.fixed;
              start_is = h.start_is;
            })),
        (refl, (n, found, below, refl)),
      )

  abbrev grown : Book R → List R → Book R
  grown b log = record { log = log; seats = b.seats; keeper = b.keeper; maker = b.maker }

  rows_grown : (b : Book R) (log : List R) (r : R) (k : ℕ) → b.log ++ r ∷ [] ≡ log → number r ≢ k → rows_of number k log ≡ rows_of number k b.log
  rows_grown b log r k e other = ap (rows_of number k) (sym e) ∙ (rows_of-append number k b.log (r ∷ []) ∙ (ap (λ l. rows_of number k b.log ++ l) (rows_of_other number k r other) ∙ append-nil (rows_of number k b.log)))

  card_grown : (b : Book R) (log : List R) (r : R) (j : ℕ) (c : Card R) → b.log ++ r ∷ [] ≡ log → (b.seats < 2 ^ 64 → number r ≢ c.index) → IsCardOf number b j c → IsCardOf number (grown b log) j c
  card_grown b log r j c e other h = record {
    begins = begins_more c.seen b.log (r ∷ []) log h.begins e;
    below = h.below;
    kept = h.kept;
    own = λ few. rows_grown b log r c.index e (other few) ∙ h.own few;
    made = h.made;
    sound = h.sound;
  }

  phase_grown : (b : Book R) (q : Tickets) (log : List R) (r : R) (id t j : ℕ) (c : Card R) → b.log ++ r ∷ [] ≡ log → ((n : ℕ) → b.keeper n ≡ j → b.seats < 2 ^ 64 → number r ≢ n) → t ≡ q.turn → q.waiter t ≡ id → j ≢ id → (st : Phase)
      → IsPhaseOf number b j q c st → IsPhaseOf number (grown b log) j q c st
  phase_grown b q log r id t j c e apart now mine other Idle k = tt
  phase_grown b q log r id t j c e apart now mine other (Giving n) k = record { below = k.below; kept = k.kept; other = k.other; unused = λ few. rows_grown b log r n e (apart n k.kept few) ∙ k.unused few; childless = k.childless }
  phase_grown b q log r id t j c e apart now mine other (Waiting u) k = k
  phase_grown b q log r id t j c e apart now mine other (Playing u) k = absurd (other (sym k.2 ∙ (ap q.waiter (k.0 ∙ sym now) ∙ mine)))

  -- counting a row keeps the rule
  pub publishes : (slots id : ℕ) (me : Me') (t : ℕ) (y : S) (x : R) → me.0.live ≡ true → me.0.others ≡ [] → me.0.phase ≡ Playing t → me.1 ≡ (0, Some y) ∷ [] → rows y ≡ me.0.card.seen ++ x ∷ [] → number x ≡ me.0.card.index % 2 ^ 64
      → legal (fixed start) (rows y) → length (rows y) < 2 ^ 64 → Allows Rule' slots id me 0 (λ n. (n + 1) % 2 ^ 64) (Publishes rows (step slots 0 1 0 maybe.none) me)
  publishes slots id me t y x live alone is held same carries lawful small s r _ at _ = let n : ℕ = get_or s.words 0 0 in let found : n ≡ length r.b.log = ap (λ ws. get_or ws 0 0) r.words in let known = r.each_seat id me.0 at live in
      let phase = subst (IsPhaseOf number r.b id r.q me.0.card) is known.phase in let k : ℕ = me.0.card.index in let card = known.card in let below = card.below in
      let log : List R = slot_rows rows me.1 in let here : log ≡ rows y = ap (slot_rows rows) held in let b' : Book R = grown r.b log in let w : View' = having_gained me.0 log in
      let seen_is : me.0.card.seen ≡ r.b.log = phase.4 in
      let whole : me.0.card.seen ++ x ∷ [] ≡ log = sym (here ∙ same) in
      let e : r.b.log ++ x ∷ [] ≡ log = ap (λ l. l ++ x ∷ []) (sym seen_is) ∙ whole in
      let numbered' : r.b.seats < 2 ^ 64 → number x ≡ k = λ few. carries ∙ small_mod k (omega arith) in
      let apart : (j : ℕ) → j ≢ id → (m : ℕ) → r.b.keeper m ≡ j → r.b.seats < 2 ^ 64 → number x ≢ m = λ j other m theirs few f. other (sym theirs ∙ (ap r.b.keeper (sym f ∙ numbered' few) ∙ card.kept)) in
      let long : length log ≡ length r.b.log + 1 = ap length (sym e) ∙ length-append r.b.log (x ∷ []) in
      let fits : length log < 2 ^ 64 = subst (λ l. length l < 2 ^ 64) (sym here) small in
      let up : (n + 1) % 2 ^ 64 ≡ length log = small_mod (n + 1) (omega arith) ∙ (ap (λ (m : ℕ). m + 1) found ∙ sym long) in (
        w,
        keeps,
        tt,
        book_moves s r (stepped s 0 ((n + 1) % 2 ^ 64) id me.1 w keeps) b' (r.behind ++ x ∷ []) (ap (λ ws. set ws 0 ((n + 1) % 2 ^ 64)) r.words ∙ ap (λ m. m ∷ r.q.drawn ∷ r.q.turn ∷ r.b.seats % 2 ^ 64 ∷ []) up) refl
            (λ free. true_false r.q.busy phase.3 free) (subst (legal (fixed start)) (sym here) lawful) (sym (append_assoc (rows start) r.behind (x ∷ [])) ∙ (ap (λ l. l ++ x ∷ []) r.splits ∙ e))
            (λ few. all_append (λ z. number z < r.b.seats) r.behind (x ∷ []) (r.late few) ((let f = numbered' few in omega arith), tt)) r.makers
            (seats_stay (Known b' r.q) s.views id w
            (λ _. record {
              card = record {
                begins = begins_same log log refl;
                below = card.below;
                kept = card.kept;
                own = λ few. ap (rows_of number k) (sym e) ∙ (rows_of-append number k r.b.log (x ∷ []) ∙ ((λ i. card.own few i ++ rows_of_one number k x (numbered' few) i)
                    ∙ ap (λ l. me.0.card.own ++ l) (sym (ap (drop (length me.0.card.seen)) (sym whole) ∙ drop-append_seam me.0.card.seen (x ∷ [])))));
                made = card.made;
                sound = card.sound;
              };
              others = subst (AllOf (IsCardOf number b' id)) (sym alone) tt;
              phase = subst (IsPhaseOf number b' id r.q w.card) (sym is) (phase.0, phase.1, phase.2, phase.3, refl);
              apart = known.apart;
              fixed = known.fixed;
              start_is = known.start_is;
            })
            (λ j d other at' lives. let h = r.each_seat j d at' lives in record {
              card = card_grown r.b log x j d.card e (apart j other d.card.index h.card.kept) h.card;
              others = all_map (IsCardOf number r.b j) (IsCardOf number b' j) (λ c i. card_grown r.b log x j c e (apart j other c.index i.kept) i) d.others h.others;
              phase = phase_grown r.b r.q log x id t j d.card e (apart j other) phase.0 phase.2 other d.phase h.phase;
              apart = h.apart;
              fixed = h.fixed;
              start_is = h.start_is;
            })),
        (refl, refl),
      )

  -- the number k goes to the seat n
  abbrev handed : Book R → ℕ → ℕ → Book R
  handed b k n = record { log = b.log; seats = b.seats; keeper = updated b.keeper k n; maker = b.maker }

  card_handed : (b : Book R) (k n j : ℕ) (c : Card R) → c.index ≢ k → IsCardOf number b j c → IsCardOf number (handed b k n) j c
  card_handed b k n j c other h = record { begins = h.begins; below = h.below; kept = updated_else b.keeper k n c.index other ∙ h.kept; own = h.own; made = h.made; sound = h.sound }

  phase_handed : (b : Book R) (q : Tickets) (k n j : ℕ) (c : Card R) → ((m : ℕ) → b.keeper m ≡ j → m ≢ k) → (st : Phase) → IsPhaseOf number b j q c st → IsPhaseOf number (handed b k n) j q c st
  phase_handed b q k n j c other Idle h = tt
  phase_handed b q k n j c other (Giving m) h = record { below = h.below; kept = updated_else b.keeper k n m (other m h.kept) ∙ h.kept; other = h.other; unused = h.unused; childless = h.childless }
  phase_handed b q k n j c other (Waiting t) h = h
  phase_handed b q k n j c other (Playing t) h = h

  -- giving an index to a new seat keeps the rule
  pub gives : (id : ℕ) (v : View') (k : ℕ) → v.live ≡ true → v.others ≡ [] → v.phase ≡ Giving k → Splits Rule' id v (in_phase v Idle) (given_view v)
  gives id v k live alone is s r at = let known = r.each_seat id v at live in let gift' = subst (IsPhaseOf number r.b id r.q v.card) is known.phase in let n : ℕ = length s.views in let b' : Book R = handed r.b k n in
      let left : View' = in_phase v Idle in let right : View' = given_view v in let named : index_to_give v.phase ≡ k = ap index_to_give is in
      let apart : (j : ℕ) → j ≢ id → (m : ℕ) → r.b.keeper m ≡ j → m ≢ k = λ j other m theirs f. other (sym theirs ∙ (ap r.b.keeper f ∙ gift'.kept)) in
      let new : Known b' r.q n right = λ _. record {
        card = record {
          begins = known.card.begins;
          below = subst (λ (m : ℕ). m < r.b.seats) (sym named) gift'.below;
          kept = updated_here r.b.keeper k n (index_to_give v.phase) named;
          own = λ few. ap (λ m. rows_of number m r.b.log) named ∙ gift'.unused few;
          made = λ m pos l e. absurd (gift'.childless m pos l (e ∙ named));
          sound = λ m i. absurd i;
        };
        others = tt;
        phase = tt;
        apart = (tt, tt);
        fixed = known.fixed;
        start_is = known.start_is;
      } in
      book_moves s r record { words = s.words; homes = s.homes; views = set s.views id left ++ right ∷ [] } b' r.behind r.words refl (λ _. refl) r.lawful r.splits r.late r.makers
      (λ j u e. ⊎_elim (seats_stay (Known b' r.q) s.views id left
      (λ _. record { card = card_handed r.b k n id v.card (λ f. gift'.other (sym f)) known.card; others = subst (AllOf (IsCardOf number b' id)) (sym alone) tt; phase = tt; apart = known.apart; fixed = known.fixed; start_is = known.start_is })
      (λ i d other at' lives. let h = r.each_seat i d at' lives in record {
        card = card_handed r.b k n i d.card (apart i other d.card.index h.card.kept) h.card;
        others = all_map (IsCardOf number r.b i) (IsCardOf number b' i) (λ c z. card_handed r.b k n i c (apart i other c.index z.kept) z) d.others h.others;
        phase = phase_handed r.b r.q k n i d.card (apart i other) d.phase h.phase;
        apart = h.apart;
        fixed = h.fixed;
        start_is = h.start_is;
      }) j u)
      (λ (t : (j ≡ length (set s.views id left)) × (right ≡ u)). subst (λ (z : ℕ × View'). Known b' r.q z.0 z.1) (λ i. (sym (t.0 ∙ length-set s.views id left) i, t.1 i)) new)
      (at_end (set s.views id left) right u j e))
