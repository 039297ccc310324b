-- A run, from what closing its log told and from what its stages took.
use Rattle.std.proofs.Common.{◌≡◌, inl, inr, ⊎_elim, ℕ, zero, suc, ◌+◌, ◌*◌, ◌<◌, eq-eqb, Bool, true, false, None, Some, List, [], ◌∷◌, ◌++◌, length, map, take, drop, slice_get, get_or, refl, sym, ap, ◌∙◌, subst, append-nil, All, arith}
use Rattle.std.proofs.lemmas.List.{length-map, take_all}
use Rattle.std.proofs.lemmas.List.Elements.{All-head, All-tail}
use Rattle.std.proofs.lemmas.Option.{get_or_from_slice_get, slice_get-get_or}
use Rattle.seat_lock.specs.declared.board.Card.{Card}
use Rattle.seat_lock.specs.Lists.{Begins, AllOf, IsIn, rows_of}
use Rattle.seat_lock.specs.Settled.{AreAllSeats, IsSettled, card_indexes}
use Rattle.seat_lock.specs.Values.{AccountFor, card_of}
use Rattle.troop_entry.specs.declared.row.Row.{Row}
use Rattle.log_model.specs.Legal.{IsLegal}
use Rattle.log_model.specs.Log.{doc, entries}
use Rattle.log_model.proofs.DocTold.{length-entries_from}
use Rattle.log_model.proofs.Lists.{slice_get-append, within_length}
use Rattle.stage_state.specs.Machine.{taken_count, held_text}
use Rattle.stage_state.specs.Staged.{Staged, StageValue, acts_of, first_machine, machine}
use Rattle.troop_hall.specs.Seats.{DeskHallValue, DeskSeatValue, IsDeskSeat}
use Rattle.agreement.specs.Agreement.{Agrees, is_own_join, pairs_by}
use Rattle.agreement.specs.Aligned.{IsAligned}
use Rattle.agreement.proofs.IsAligned.{aligned_agrees}
use Rattle.agreement.proofs.Document.{holds_all}
use Rattle.jam_run.specs.declared.player.Player.{Player}
use Rattle.jam_run.specs.Joins.{join_row, join_rows}
use Rattle.jam_run.specs.Drawing.{first_number, burst_steps, AreDrawn}
use Rattle.jam_run.specs.Taking.{TakesRest, TakeRests, IsWithin}
use Rattle.jam_run.specs.Playing.{IsAtRest, IsPlayer, AreSamePlayers, AreNumbered, indexes_of, IsCast}
use Rattle.wire_print.specs.Printed.{printed_line, jam_data}
use Rattle.jam_run.specs.Jams.{entry_count, HasJammed, IsJam, staged_of, jam_line}
use Rattle.jam_run.proofs.Owed.{none_outstanding}
use Rattle.jam_run.proofs.AreDrawn.{typed_of_bursts}
use Rattle.jam_run.proofs.IsPlaying.{sees_more, TookAll, taken_is, taken_within, rest_more}
use Rattle.jam_run.proofs.JoinRows.{length-join_rows, slice_get-join_rows}
use Rattle.jam_run.proofs.AreJamRows.{own_edits, own_count, numbers_of, AreInOrder, OwnRows, IsClosed, player_at, pairs_behind_join, jam_rows}

-- ---- lists

-- what holds at each place holds of each element
each_of : {A : Type 0} (P : A → Type 0) (xs : List A) → All P xs → AllOf P xs
each_of P [] h = tt
each_of P (x ∷ xs) h = (All-head P x xs h, each_of P xs (All-tail P x xs h))

all_at : {A : Type 0} (P : A → Type 0) (xs : List A) (i : ℕ) (x : A) → AllOf P xs → slice_get xs i ≡ Some x → P x
all_at P [] i x h e = absurd (cc)
all_at P (y ∷ xs) zero x h e = let same : y ≡ x = cc in subst P same h.0
all_at P (y ∷ xs) (suc i) x h e = all_at P xs i x h.1 e

of_images : {A B : Type 0} (P : B → Type 0) (f : A → B) (xs : List A) → AllOf P (map f xs) → AllOf (λ x. P (f x)) xs
of_images P f [] h = tt
of_images P f (x ∷ xs) h = (h.0, of_images P f xs h.1)

image_at : {A B : Type 0} (f : A → B) (xs : List A) (i : ℕ) (x : A) → slice_get xs i ≡ Some x → slice_get (map f xs) i ≡ Some (f x)
image_at f [] i x e = absurd (cc)
image_at f (y ∷ xs) zero x e = let same : y ≡ x = cc in ap (λ z. Some (f z)) same
image_at f (y ∷ xs) (suc i) x e = image_at f xs i x e

of_image_at : {A B : Type 0} (f : A → B) (xs : List A) (i : ℕ) (y : B) → slice_get (map f xs) i ≡ Some y → (x : A) × (slice_get xs i ≡ Some x) × (f x ≡ y)
of_image_at f [] i y e = absurd (cc)
of_image_at f (x ∷ xs) zero y e = (x, refl, cc)
of_image_at f (x ∷ xs) (suc i) y e = of_image_at f xs i y e

-- ---- performers

-- each is in its place
in_order : (ps : List Player) → AreNumbered ps → AreInOrder ps
in_order ps numbered = λ i p there. ap (λ (q : Player). q.who) (sym (get_or_from_slice_get ps i p p there)) ∙ numbered i p (within_length ps i p there)

-- the same performers later are numbered so too
pub still_numbered : (ps qs : List Player) → length qs ≡ length ps → AreSamePlayers ps qs → AreNumbered ps → AreNumbered qs
still_numbered ps qs count same numbered = λ i d below.
    let before : i < length ps = omega (arith, below, count) in
    (same i d before).who ∙ numbered i d before

-- and have the same seats
pub same_indexes : (ps qs : List Player) → length qs ≡ length ps → AreSamePlayers ps qs → indexes_of qs ≡ indexes_of ps
same_indexes [] [] e same = refl
same_indexes [] (q ∷ qs) e same = absurd (omega (arith, e))
same_indexes (p ∷ ps) [] e same = absurd (omega (arith, e))
same_indexes (p ∷ ps) (q ∷ qs) e same = λ i. (same 0 p (omega arith)).index i ∷ same_indexes ps qs (omega (arith, e)) (λ k d l. same (suc k) d (omega (arith, l))) i

-- ---- their seats are all seats

-- the first seat and theirs
abbrev pub seats_of : DeskSeatValue → List Player → List DeskSeatValue
seats_of first ps = first ∷ map (λ (p : Player). p.seat) ps

index_in : (k : ℕ) (ps : List Player) → IsIn k (indexes_of ps) → IsIn k (card_indexes (map card_of (map (λ (p : Player). p.seat) ps)))
index_in k [] h = absurd h
index_in k (p ∷ ps) h = ⊎_elim (λ (e : p.seat.index ≡ k). inl e) (λ (t : IsIn k (indexes_of ps)). inr (index_in k ps t)) h

none_in : (k : ℕ) (made is : List ℕ) → made ≡ [] → IsIn k made → IsIn k is
none_in k made is e h = let nothing : ⊥ = subst (IsIn k) e h in absurd nothing

none_made : (ps : List Player) (is : List ℕ) → AllOf (λ (p : Player). p.seat.made ≡ []) ps
    → AllOf (λ (c : Card Row). (k : ℕ) → IsIn k c.made → IsIn k is) (map card_of (map (λ (p : Player). p.seat) ps))
none_made [] is h = tt
none_made (p ∷ ps) is h = (λ k i. none_in k p.seat.made is h.0 i, none_made ps is h.1)

made_of : (hall : DeskHallValue) (seed calls : ℕ) (ps : List Player) → AllOf (IsPlayer hall seed calls) ps → AllOf (λ (p : Player). p.seat.made ≡ []) ps
made_of hall seed calls [] h = tt
made_of hall seed calls (p ∷ ps) h = (h.0.made, made_of hall seed calls ps h.1)

halls_of : (hall : DeskHallValue) (seed calls : ℕ) (ps : List Player) → AllOf (IsPlayer hall seed calls) ps → AllOf (IsDeskSeat hall) (map (λ (p : Player). p.seat) ps)
halls_of hall seed calls [] h = tt
halls_of hall seed calls (p ∷ ps) h = (h.0.seat, halls_of hall seed calls ps h.1)

module _ (hall : DeskHallValue) (calls seed : ℕ) (first : DeskSeatValue) (ps : List Player) (cast : IsCast hall calls seed first ps) where
  -- how many they are
  abbrev size : ℕ
  size = length ps

  players_are : AllOf (IsPlayer hall seed calls) ps
  players_are = each_of (IsPlayer hall seed calls) ps cast.played

  -- all seats are of the hall
  pub all_of_hall : AllOf (IsDeskSeat hall) (seats_of first ps)
  all_of_hall = (cast.seat, halls_of hall seed calls ps players_are)

  -- and they are all its seats
  pub are_all_seats : AreAllSeats (map card_of (seats_of first ps))
  are_all_seats = record {
    first = inl cast.index;
    made = (λ k i. inr (index_in k ps (subst (IsIn k) cast.made i)), none_made ps (card_indexes (map card_of (seats_of first ps))) (made_of hall seed calls ps players_are));
  }

  rests_at : (i : ℕ) (p : Player) → slice_get ps i ≡ Some p → (number : ℕ) × IsAtRest seed calls p.who p.seat.seen p.seat.own p.stage.staged number
  rests_at i p there =
      (all_at (IsPlayer hall seed calls) ps i p players_are there).rests
      (all_at (λ (q : Player). q.is_wanting ≡ false) ps i p (each_of (λ (q : Player). q.is_wanting ≡ false) ps cast.calm) there)

  module _ (log : List Row) (settled : IsSettled (λ (r : Row). r.seat) hall.first log (map card_of (seats_of first ps)))
      (account : AccountFor (λ (r : Row). r.seat) hall.first log (seats_of first ps)) where
    -- the log begins with what each has seen
    begins_at : (i : ℕ) (p : Player) → slice_get ps i ≡ Some p → Begins p.seat.seen log
    begins_at i p there =
        all_at (λ (q : Player). Begins q.seat.seen log) ps i p
        (of_images (λ (s : DeskSeatValue). Begins s.seen log) (λ (q : Player). q.seat) ps
        (of_images (λ (c : Card Row). Begins c.seen log) card_of (map (λ (q : Player). q.seat) ps) settled.begins.1)) there

    abbrev edits : List Row
    edits = settled.begins.0.0

    own_at : (i : ℕ) (p : Player) → slice_get ps i ≡ Some p → OwnRows calls log p
    own_at i p there =
        let rests = rests_at i p there in
        let h = rests.1.playing in
        record {
          edits = own_edits seed (burst_steps calls) (2 * calls) 0 p.who p.seat.seen p.seat.own p.stage.staged rests.0 h;
          count = ap length h.placed ∙ own_count seed (burst_steps calls) (2 * calls) 0 p.who p.seat.seen p.seat.own p.stage.staged rests.0 h;
          rows = all_at (λ (q : Player). rows_of (λ (r : Row). r.seat) q.seat.number log ≡ q.seat.own) ps i p
              (of_images (λ (s : DeskSeatValue). rows_of (λ (r : Row). r.seat) s.number log ≡ s.own) (λ (q : Player). q.seat) ps account.own.1) there;
        }

    closed : IsClosed size calls log edits first.number ps
    closed = record {
      begins = sym settled.begins.0.1 ∙ ap (λ l. l ++ settled.begins.0.0) cast.seen;
      number = cast.number;
      joins = ap (λ k. rows_of (λ (r : Row). r.seat) k log) (sym cast.number) ∙ account.own.0 ∙ cast.own;
      every = subst (AllOf (λ (r : Row). IsIn r.seat (first.number ∷ numbers_of ps))) behind_is account.every;
      count = refl;
      order = in_order ps cast.numbered;
      own = own_at;
    }
      where
        behind_is : account.behind ≡ log
        behind_is = ap (λ l. l ++ account.behind) (sym cast.empty) ∙ account.splits

    -- each stage has taken no more than the log has
    pub each_within : AllOf (λ (p : Player). IsWithin log p.stage) ps
    each_within = from_each ps (λ i p there. within_at i p there)
      where
        within_at : (i : ℕ) (p : Player) → slice_get ps i ≡ Some p → IsWithin log p.stage
        within_at i p there =
            let rests = rests_at i p there in
            let h = sees_more seed (burst_steps calls) (2 * calls) 0 p.who p.seat.seen log p.seat.own p.seat.own p.stage.staged rests.0 (begins_at i p there) refl rests.1.playing in
            let few = taken_within seed (burst_steps calls) (2 * calls) 0 p.who log p.seat.own p.stage.staged rests.0 h in
            omega (arith, few, length-entries_from 0 log)

        from_each : (qs : List Player) → ((i : ℕ) (p : Player) → slice_get qs i ≡ Some p → IsWithin log p.stage) → AllOf (λ (p : Player). IsWithin log p.stage) qs
        from_each [] each = tt
        from_each (q ∷ qs) each = (each 0 q refl, from_each qs (λ i p there. each (suc i) p there))

    -- a stage that took the rest of the log
    jammed_at : (i : ℕ) (p : Player) (t : Staged) → IsLegal log → slice_get ps i ≡ Some p → TakesRest log p.stage.staged t → HasJammed log calls seed (i + 1) t
    jammed_at i p t legal there rest =
        let rests = rests_at i p there in
        let s : Staged = p.stage.staged in
        let h = sees_more seed (burst_steps calls) (2 * calls) 0 p.who p.seat.seen log p.seat.own p.seat.own s rests.0 (begins_at i p there) refl rests.1.playing in
        let took : TookAll seed (burst_steps calls) (2 * calls) 0 p.who log p.seat.own s t rests.0 = rest_more seed (burst_steps calls) (2 * calls) 0 p.who log p.seat.own s t rests.0 (drop (taken_count (machine s)) (entries log)) refl rest h in
        let playing = took.playing in
        let who : p.who ≡ suc i = in_order ps cast.numbered i p there in
        let own : t.own ≡ suc i = playing.own_is ∙ who in
        let joined : t.joined ≡ i = (let j = playing.joined_is in omega (arith, j, who)) in
        let within : i < size = within_length ps i p there in
        let count : taken_count (machine t) ≡ length (entries log) = taken_is t playing.start_is ∙ ap length took.all in
        let row : slice_get log i ≡ Some (join_row i) =
        ap (λ l. slice_get l i) closed.begins ∙ slice_get-append (join_rows size) edits i (let all = length-join_rows size in omega (arith, all, within)) ∙ slice_get-join_rows size i within in
        let aligned : IsAligned log t None = record {
          has_joined = ap (λ k. is_own_join k (slice_get log t.joined)) own ∙ ap (λ k. is_own_join (suc i) (slice_get log k)) joined ∙ ap (is_own_join (suc i)) row ∙ eq-eqb (suc i) (suc i) refl;
          near = (let z = playing.start_is in omega (arith, z));
          start_is = playing.text_is ∙ ap (λ k. doc (take k log)) (sym playing.start_is);
          taken_is = took.all ∙ sym (take_all (taken_count (machine t)) (entries log) (omega (arith, count))) ∙ ap (λ k. drop k (take (taken_count (machine t)) (entries log))) (sym playing.start_is);
          sent_is = append-nil (pairs_by t.own (drop (suc t.joined) log))
              ∙ ap (λ k. pairs_by k (drop (suc t.joined) log)) playing.own_is
              ∙ ap (λ k. pairs_by p.who (drop (suc k) log)) joined
              ∙ pairs_behind_join size calls log edits first.number ps i p closed there
              ∙ playing.placed;
        } in
        let agrees : Agrees log (machine t) None = aligned_agrees log t None legal playing.played aligned in
        let none = none_outstanding (machine t).pending (let few = took.fewer in let rest_none = rests.1.none in omega (arith, few, rest_none)) in
        let all : taken_count (machine t) ≡ length log = count ∙ length-entries_from 0 log in
        record {
          own = own ∙ omega arith;
          took_all = took.all;
          awaits_none = none;
          agrees = agrees;
          holds = holds_all log (machine t) None legal agrees all none;
          drawn = subst (λ (k : ℕ). AreDrawn (first_number seed k) (first_machine t) (acts_of t.acts)) (who ∙ omega arith) playing.drawn;
          typed = typed_of_bursts (acts_of t.acts) calls playing.steps_are;
          bursts = playing.steps_are;
        }

    -- a run whose stages took the rest of its log
    pub is_jam : (ws : List StageValue) → IsLegal log → length ws ≡ length ps → TakeRests log (map (λ (p : Player). p.stage) ps) ws → IsJam size calls seed log (staged_of ws)
    is_jam ws legal same rests = record {
      legal = legal;
      rows = jam_rows size calls log edits first.number ps closed;
      count = length-map ws (λ (s : StageValue). s.staged) ∙ same;
      each = λ i s there. jammed i s (of_image_at (λ (w : StageValue). w.staged) ws i s there);
    }
      where
        jammed : (i : ℕ) (s : Staged) → (w : StageValue) × (slice_get ws i ≡ Some w) × (w.staged ≡ s) → HasJammed log calls seed (i + 1) s
        jammed i s found =
            let below : i < length ps = (let l = within_length ws i found.0 found.1 in omega (arith, l, same)) in
            let at = player_at ps i below in
            let before : get_or (map (λ (p : Player). p.stage) ps) i found.0 ≡ at.0.stage = get_or_from_slice_get (map (λ (p : Player). p.stage) ps) i at.0.stage found.0 (image_at (λ (p : Player). p.stage) ps i at.0 at.1) in
            let behind : get_or ws i found.0 ≡ found.0 = get_or_from_slice_get ws i found.0 found.0 found.1 in
            let took : TakesRest log at.0.stage.staged found.0.staged =
            subst (λ (v : StageValue). TakesRest log v.staged found.0.staged) before
            (subst (λ (w : StageValue). TakesRest log (get_or (map (λ (p : Player). p.stage) ps) i found.0).staged w.staged) behind
            (rests i found.0 (let all = length-map ps (λ (p : Player). p.stage) in omega (arith, all, below)))) in
            jammed_at i at.0 s legal at.1 (subst (TakesRest log at.0.stage.staged) found.2 took)

-- each stage of a run holds the log's document
pub all_hold : (performers calls seed : ℕ) (log : List Row) (ws : List StageValue) → IsJam performers calls seed log (staged_of ws) → All (λ (w : StageValue). held_text (machine w.staged) ≡ doc log) ws
all_hold performers calls seed log ws jam = λ i d below.
    (jam.each i (get_or ws i d).staged (image_at (λ (w : StageValue). w.staged) ws i (get_or ws i d) (slice_get-get_or ws i d below))).holds

-- the line of a summary
abbrev line_of : ℕ → ℕ → ℕ → Bool → List ℕ
line_of performers calls n equal = printed_line (jam_data (record { calls = calls; entries = n; equal = equal; performers = performers }))

-- so the line that sums it up is that of its numbers
pub summed_up : (performers calls seed entries_are : ℕ) (equal : Bool) (log : List Row) (ws : List StageValue) → entries_are ≡ length log
    → (All (λ (w : StageValue). held_text (machine w.staged) ≡ doc log) ws → equal ≡ true) → IsJam performers calls seed log (staged_of ws)
    → printed_line (jam_data (record { calls = calls; entries = entries_are; equal = equal; performers = performers })) ≡ jam_line performers calls
summed_up performers calls seed entries_are equal log ws count same jam =
    ap (λ n. line_of performers calls n equal) (count ∙ jam.rows.count) ∙ ap (line_of performers calls (entry_count performers calls)) (same (all_hold performers calls seed log ws jam))

-- ---- by the words of closing

of_all : {A : Type 0} (P : A → Type 0) (xs : List A) → AllOf P xs → (k : ℕ) (d : A) → k < length xs → P (get_or xs k d)
of_all P [] h k d below = absurd (omega (arith, below))
of_all P (x ∷ xs) h zero d below = h.0
of_all P (x ∷ xs) h (suc k) d below = of_all P xs h.1 k d (omega (arith, below))

to_images : {A B : Type 0} (P : B → Type 0) (f : A → B) (xs : List A) → AllOf (λ x. P (f x)) xs → AllOf P (map f xs)
to_images P f [] h = tt
to_images P f (x ∷ xs) h = (h.0, to_images P f xs h.1)

-- what closing a hall with these seats told
pub record Closes (hall : DeskHallValue) (seats : List DeskSeatValue) (log : List Row) : Type 0 where
  pub settled : IsSettled (λ (r : Row). r.seat) hall.first log (map card_of seats)
  pub whole : AreAllSeats (map card_of seats) → AccountFor (λ (r : Row). r.seat) hall.first log seats

module _ (hall : DeskHallValue) (calls seed : ℕ) (first : DeskSeatValue) (ps : List Player) (cast : IsCast hall calls seed first ps) (log : List Row) (seats : List DeskSeatValue)
    (seats_are : seats ≡ seats_of first ps) (closes : Closes hall seats log) where
  told : Closes hall (seats_of first ps) log
  told = subst (λ (l : List DeskSeatValue). Closes hall l log) seats_are closes

  accounted : AccountFor (λ (r : Row). r.seat) hall.first log (seats_of first ps)
  accounted = told.whole (are_all_seats hall calls seed first ps cast)

  -- each stage has taken no more than the log has
  pub stages_within : (vs : List StageValue) → vs ≡ map (λ (p : Player). p.stage) ps → All (IsWithin log) vs
  stages_within vs are =
      subst (All (IsWithin log)) (sym are) (of_all (IsWithin log) (map (λ (p : Player). p.stage) ps)
      (to_images (IsWithin log) (λ (p : Player). p.stage) ps (each_within hall calls seed first ps cast log told.settled accounted)))

  -- and once they took the rest, it is a run
  pub stages_jam : (vs ws : List StageValue) → vs ≡ map (λ (p : Player). p.stage) ps → IsLegal log → length ws ≡ length vs → TakeRests log vs ws → IsJam (length ps) calls seed log (staged_of ws)
  stages_jam vs ws are legal same rests =
      is_jam hall calls seed first ps cast log told.settled accounted ws legal (same ∙ ap length are ∙ length-map ps (λ (p : Player). p.stage))
      (subst (λ (l : List StageValue). TakeRests log l ws) are rests)
