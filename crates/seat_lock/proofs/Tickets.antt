-- The steps that change the queue alone keep the rule.
use Rattle.std.proofs.Common.{◌≡◌, ◌≢◌, ℕ, ◌+◌, ◌%◌, ◌^◌, ◌<◌, ◌≤◌, eqb, eq-eqb, ne_eqb, true, false, List, [], ◌∷◌, length, set, get_or, sym, refl, ap, ◌∙◌, subst, arith, Option, Some}
use mathlib.Core.Logic.{dite}
use mathlib.Core.Option.{some}
use mathlib.Core.Option as maybe
use native.Mathlib.Decide.{ℕ_discrete}
use lib.ListN.{get_elem?}
use lib.Seq.{set-get_or}
use prog.Atomic.{either}
use Rattle.atomic_table.specs.Table.{State, Me, step, keeps, takes, gives, stepped, put_back, Allows}
use Rattle.seat_lock.specs.declared.board.Card.{Card}
use Rattle.seat_lock.specs.declared.board.View.{View}
use Rattle.seat_lock.specs.declared.board.Phase.{Phase}
use Rattle.seat_lock.specs.declared.board.Phase.TheVariants.{Idle, Giving, Waiting, Playing}
use Rattle.seat_lock.specs.Lists.{Begins}
use Rattle.seat_lock.specs.Turns.{Book, Tickets, IsCardOf, IsPhaseOf, Knows, KeepsTurns}
use Rattle.seat_lock.specs.Told.{in_phase, having_turn, DrawsTicket, TakesTurn, PassesTurn}
use Rattle.seat_lock.proofs.Updated.{seats_stay, updated, updated_here, updated_else, small_mod, not_true, true_false}
use Rattle.seat_lock.proofs.Begins.{begins_same}

-- the ticket of a seat in this phase
abbrev pub ticket_of : Phase → ℕ
ticket_of (Waiting t) = t
ticket_of (Playing t) = t
ticket_of _ = 0

module _ {S R F : Type 0} (rows : S → List R) (fixed : S → F) (number : R → ℕ) (legal : F → List R → Type 0) (start : S) where
  -- what a seat knows
  abbrev pub V : Type 0
  V = View R F

  -- a state of the table
  abbrev pub St : Type 0
  St = State (Option S) V

  -- a seat, with what is in its hands
  abbrev pub M : Type 0
  M = Me (Option S) V

  -- the rule of a hall that was made of this state
  abbrev pub Rule : St → Type 0
  Rule = KeepsTurns rows fixed number legal start

  -- what a seat knows is so, unless it was joined away
  abbrev pub KnownBy : Book R → Tickets → ℕ → V → Type 0
  KnownBy b q j v = v.live ≡ true → Knows number b j q (fixed start) (rows start) v

  -- the rule holds with other tickets
  pub queue_moves : (s : St) (r : Rule s) (s' : St) (q : Tickets) (home : maybe.Option (Option S)) → s'.words ≡ length r.b.log ∷ q.drawn ∷ q.turn ∷ r.b.seats % 2 ^ 64 ∷ [] → s'.homes ≡ home ∷ []
      → q.turn ≤ q.drawn → q.drawn < 2 ^ 64 → (q.busy ≡ true → q.turn < q.drawn) → (q.busy ≡ false → (y : S) × (home ≡ some (Some y)) × (rows y ≡ r.b.log) × (fixed y ≡ fixed start))
      → ((j : ℕ) (v : V) → get_elem? s'.views j ≡ some v → KnownBy r.b q j v) → Rule s'
  queue_moves s r s' q home words homes ordered small taken rested each_seat = record {
    b = r.b;
    q = q;
    home = home;
    behind = r.behind;
    words = words;
    homes = homes;
    ordered = ordered;
    small = small;
    taken = taken;
    rested = rested;
    lawful = r.lawful;
    splits = r.splits;
    early = r.early;
    late = r.late;
    makers = r.makers;
    each_seat = each_seat;
  }

  -- a seat stays known beside other tickets
  pub phase_moves : (b : Book R) (q q' : Tickets) (j : ℕ) (v : V) → (IsPhaseOf number b j q v.card v.phase → IsPhaseOf number b j q' v.card v.phase) → KnownBy b q j v → KnownBy b q' j v
  phase_moves b q q' j v f k live = let h = k live in record { card = h.card; others = h.others; phase = f h.phase; apart = h.apart; fixed = h.fixed; start_is = h.start_is }

  -- the rule holds behind a step that changes one seat's view alone
  pub unmoved : (s : St) (r : Rule s) (i id : ℕ) (cs : List (ℕ × Option S)) (w : V) → KnownBy r.b r.q id w → Rule (stepped s i (get_or s.words i 0) id cs w keeps)
  unmoved s r i id cs w mine = subst (λ (ws : List ℕ). Rule record { words = ws; homes = s.homes; views = set s.views id w }) (sym (set-get_or s.words i 0))
      (queue_moves s r record { words = s.words; homes = s.homes; views = set s.views id w } r.q r.home r.words r.homes r.ordered r.small r.taken r.rested (seats_stay (KnownBy r.b r.q) s.views id w mine (λ j d _. r.each_seat j d)))

  abbrev drawn_by : Tickets → ℕ → Tickets
  drawn_by q id = record { drawn = q.drawn + 1; turn = q.turn; busy = q.busy; waiter = updated q.waiter q.drawn id }

  others_draw : (b : Book R) (q : Tickets) (id j : ℕ) (c : Card R) (st : Phase) → IsPhaseOf number b j q c st → IsPhaseOf number b j (drawn_by q id) c st
  others_draw b q id j c Idle k = tt
  others_draw b q id j c (Giving n) k = k
  others_draw b q id j c (Waiting t) k = (k.0, (let h = k.1 in omega arith), updated_else q.waiter q.drawn id t (λ e. let h = k.1 in omega arith) ∙ k.2, k.3)
  others_draw b q id j c (Playing t) k = (k.0, (let h = k.1 in omega arith), updated_else q.waiter q.drawn id t (λ e. let h = k.1 in omega arith) ∙ k.2, k.3, k.4)

  -- drawing a ticket keeps the rule
  pub draws : (slots id : ℕ) (me : M) (old new : ℕ) → me.0.live ≡ true → me.0.phase ≡ Idle → new ≡ old + 1 → old + 1 < 2 ^ 64
      → Allows Rule slots id me 1 (λ x. either (eqb x old) new x) (DrawsTicket (step slots 1 old new maybe.none) me)
  draws slots id me old new live idle up small s r _ at _ = let x : ℕ = get_or s.words 1 0 in let is : x ≡ r.q.drawn = ap (λ ws. get_or ws 1 0) r.words in
      let known = r.each_seat id me.0 at live in dite (ℕ_discrete x old)
      (λ hit. let w : V = in_phase me.0 (Waiting x) in let q' : Tickets = drawn_by r.q id in let ordered = r.ordered in let up' : new ≡ r.q.drawn + 1 = omega arith in (
        w,
        keeps,
        tt,
        subst (λ b. Rule (stepped s 1 (either b new x) id me.1 w keeps)) (sym (eq-eqb x old hit))
            (queue_moves s r (stepped s 1 new id me.1 w keeps) q' r.home (ap (λ ws. set ws 1 new) r.words ∙ ap (λ n. length r.b.log ∷ n ∷ r.q.turn ∷ r.b.seats % 2 ^ 64 ∷ []) up') r.homes (omega arith) (omega arith) (λ t. let h = r.taken t in omega arith) r.rested
            (seats_stay (KnownBy r.b q') s.views id w
            (λ _. record { card = known.card; others = known.others; phase = (omega arith, omega arith, updated_here r.q.waiter r.q.drawn id x is, λ e. not_true r.q.busy (λ t. let h = r.taken t in absurd (omega arith))); apart = known.apart; fixed = known.fixed; start_is = known.start_is })
            (λ j d other e. phase_moves r.b r.q q' j d (others_draw r.b r.q id j d.card d.phase) (r.each_seat j d e)))),
        (refl, (λ _. refl), λ miss. absurd (miss hit)),
      ))
      (λ miss. (
        me.0,
        keeps,
        tt,
        subst (λ b. Rule (stepped s 1 (either b new x) id me.1 me.0 keeps)) (sym (ne_eqb x old miss)) (unmoved s r 1 id me.1 me.0 (λ _. known)),
        (refl, (λ hit. absurd (miss hit)), λ _. refl),
      ))

  abbrev taken_by : Tickets → Tickets
  taken_by q = record { drawn = q.drawn; turn = q.turn; busy = true; waiter = q.waiter }

  others_turn : (b : Book R) (q : Tickets) (id t j : ℕ) (c : Card R) (st : Phase) → q.busy ≡ false → q.turn ≡ t → q.waiter t ≡ id → j ≢ id → IsPhaseOf number b j q c st → IsPhaseOf number b j (taken_by q) c st
  others_turn b q id t j c Idle free now mine other k = tt
  others_turn b q id t j c (Giving n) free now mine other k = k
  others_turn b q id t j c (Waiting u) free now mine other k = (k.0, k.1, k.2, λ e. absurd (other (sym k.2 ∙ (ap q.waiter (e ∙ now) ∙ mine))))
  others_turn b q id t j c (Playing u) free now mine other k = true_false q.busy k.3 free

  -- the card, with what is seen now
  pub card_sees : (b : Book R) (j : ℕ) (c : Card R) (log : List R) → Begins log b.log → IsCardOf number b j c → IsCardOf number b j record c { seen = log }
  card_sees b j c log begins k = record { begins = begins; below = k.below; kept = k.kept; own = k.own; made = k.made; sound = k.sound }

  -- looking at the turn keeps the rule
  pub turns : (slots id : ℕ) (me : M) (t : ℕ) → me.0.live ≡ true → me.0.phase ≡ Waiting t → Allows Rule slots id me 2 (λ x. x) (TakesTurn rows fixed legal (step slots 2 0 0 maybe.none) me)
  turns slots id me t live is s r _ at _ = let x : ℕ = get_or s.words 2 0 in let found : x ≡ r.q.turn = ap (λ ws. get_or ws 2 0) r.words in
      let known = r.each_seat id me.0 at live in let phase = subst (IsPhaseOf number r.b id r.q me.0.card) is known.phase in dite (ℕ_discrete x t)
      (λ hit. let now : r.q.turn ≡ t = sym found ∙ hit in let free = phase.3 (sym now) in let h = r.rested free in let y : S = h.0 in let w : V = having_turn me.0 t (rows y) in let q' : Tickets = taken_by r.q in (
        w,
        takes 0 (Some y),
        ap (λ hs. get_elem? hs 0) r.homes ∙ ap some h.1,
        subst (λ ws. Rule record { words = ws; homes = set s.homes 0 maybe.none; views = set s.views id w }) (sym (set-get_or s.words 2 0))
            (queue_moves s r record { words = s.words; homes = set s.homes 0 maybe.none; views = set s.views id w } q' maybe.none r.words (ap (λ hs. set hs 0 maybe.none) r.homes) r.ordered r.small
            (λ _. let less = phase.1 in omega arith) (λ f. true_false true refl f)
            (seats_stay (KnownBy r.b q') s.views id w
            (λ _. record { card = card_sees r.b id me.0.card (rows y) (begins_same (rows y) r.b.log h.2) known.card; others = known.others; phase = (sym now, phase.1, phase.2, refl, h.2); apart = known.apart; fixed = known.fixed; start_is = known.start_is })
            (λ j d other e. phase_moves r.b r.q q' j d (others_turn r.b r.q id t j d.card d.phase free now phase.2 other) (r.each_seat j d e)))),
        λ u is'. ((λ _. (y, refl, subst (λ l. Begins me.0.card.seen l) (sym h.2) known.card.begins, ap (λ (n : ℕ). having_turn me.0 n (rows y)) (ap ticket_of (sym is ∙ is')), known.fixed ∙ ap Some (sym h.3), subst (λ (z : F × List R). legal z.0 z.1) (λ i. (sym h.3 i, sym h.2 i)) r.lawful)), λ miss. absurd (miss (hit ∙ ap ticket_of (sym is ∙ is')))),
      ))
      (λ miss. (
        me.0,
        keeps,
        tt,
        unmoved s r 2 id me.1 me.0 (λ _. known),
        λ u is'. ((λ hit. absurd (miss (hit ∙ ap ticket_of (sym is' ∙ is)))), λ _. refl),
      ))

  abbrev passed_on : Tickets → Tickets
  passed_on q = record { drawn = q.drawn; turn = q.turn + 1; busy = false; waiter = q.waiter }

  others_pass : (b : Book R) (q : Tickets) (id t j : ℕ) (c : Card R) (st : Phase) → t ≡ q.turn → q.waiter t ≡ id → j ≢ id → IsPhaseOf number b j q c st → IsPhaseOf number b j (passed_on q) c st
  others_pass b q id t j c Idle now mine other k = tt
  others_pass b q id t j c (Giving n) now mine other k = k
  others_pass b q id t j c (Waiting u) now mine other k = let apart : u ≢ q.turn = λ e. other (sym k.2 ∙ (ap q.waiter (e ∙ sym now) ∙ mine)) in ((let h = k.0 in omega arith), k.1, k.2, λ _. refl)
  others_pass b q id t j c (Playing u) now mine other k = absurd (other (sym k.2 ∙ (ap q.waiter (k.0 ∙ sym now) ∙ mine)))

  -- passing the turn on keeps the rule
  pub passes : (slots id : ℕ) (me : M) (t : ℕ) (y : S) → me.0.live ≡ true → me.0.phase ≡ Playing t → me.1 ≡ (0, Some y) ∷ [] → rows y ≡ me.0.card.seen → fixed y ≡ fixed start
      → Allows Rule slots id me 2 (λ x. (x + 1) % 2 ^ 64) (PassesTurn (step slots 2 1 0 maybe.none) me)
  passes slots id me t y live is held same whose s r _ at _ = let x : ℕ = get_or s.words 2 0 in let found : x ≡ r.q.turn = ap (λ ws. get_or ws 2 0) r.words in
      let known = r.each_seat id me.0 at live in let phase = subst (IsPhaseOf number r.b id r.q me.0.card) is known.phase in let w : V = in_phase me.0 Idle in let q' : Tickets = passed_on r.q in
      let now = phase.0 in let less = phase.1 in let small = r.small in let up : (x + 1) % 2 ^ 64 ≡ r.q.turn + 1 = small_mod (x + 1) (omega arith) ∙ ap (λ (n : ℕ). n + 1) found in (
        w,
        gives,
        tt,
        queue_moves s r (stepped s 2 ((x + 1) % 2 ^ 64) id me.1 w gives) q' (some (Some y)) (ap (λ ws. set ws 2 ((x + 1) % 2 ^ 64)) r.words ∙ ap (λ n. length r.b.log ∷ r.q.drawn ∷ n ∷ r.b.seats % 2 ^ 64 ∷ []) up)
            (ap (put_back s.homes) held ∙ ap (λ hs. set hs 0 (some (Some y))) r.homes) (omega arith) small (λ f. true_false false f refl) (λ _. (y, refl, same ∙ phase.4, whose))
            (seats_stay (KnownBy r.b q') s.views id w (λ _. record { card = known.card; others = known.others; phase = tt; apart = known.apart; fixed = known.fixed; start_is = known.start_is })
            (λ j d other e. phase_moves r.b r.q q' j d (others_pass r.b r.q id t j d.card d.phase now phase.2 other) (r.each_seat j d e))),
        (refl, refl),
      )
