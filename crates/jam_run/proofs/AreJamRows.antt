-- The rows of a closed log, from what all its seats know.
use Rattle.std.proofs.Common.{◌≡◌, ⊎_elim, ℕ, zero, suc, ◌+◌, ◌*◌, ◌<◌, ◌≤◌, Bool, true, false, Some, List, [], ◌∷◌, ◌++◌, length, length-append, map, drop, slice_get, refl, sym, ap, ◌∙◌, subst, mul_comm, mul_assoc, arith}
use Rattle.std.proofs.lemmas.List.{drop-append-le}
use Rattle.seat_lock.specs.Lists.{AllOf, IsIn, rows_of}
use Rattle.seat_lock.proofs.AllOf.{all_map, nil_of}
use Rattle.seat_lock.proofs.RowsOf.{rows_of-append}
use Rattle.troop_entry.specs.declared.call.Call.{Call}
use Rattle.troop_entry.specs.declared.row.Row.{Row}
use Rattle.log_model.proofs.Lists.{within_length}
use Rattle.stage_state.specs.Machine.{counted_from, sent_pairs}
use Rattle.stage_state.specs.Staged.{Staged, machine}
use Rattle.troop_hall.specs.Seats.{DeskSeatValue}
use Rattle.agreement.specs.Agreement.{is_edit, pairs_by}
use Rattle.jam_run.specs.declared.player.Player.{Player}
use Rattle.jam_run.specs.Joins.{join_rows}
use Rattle.jam_run.specs.Drawing.{first_number}
use Rattle.jam_run.specs.Playing.{row_pair, IsPlaying}
use Rattle.jam_run.specs.Jams.{IsEditOfOne, AreThroughOwn, AreJamRows}
use Rattle.jam_run.proofs.AreDrawn.{AreEdits, stage_asks}
use Rattle.jam_run.proofs.RowsOf.{all_parts, all_both, none_both, rows_all, rows_keep}
use Rattle.jam_run.proofs.PairsBy.{pairs_by-append, IsThrough, pairs_by_seat, count_of_all}
use Rattle.jam_run.proofs.JoinRows.{length-join_rows, all_joins, rows_of-join_rows, none_behind_join}

-- ---- a performer's own rows

edits_are : (own : List Row) (n : ℕ) (sent : List Call) → map row_pair own ≡ counted_from n sent → AreEdits sent → AllOf (λ (r : Row). is_edit r.call ≡ true) own
edits_are [] n sent e h = tt
edits_are (r ∷ own) n [] e h = absurd (cc)
edits_are (r ∷ own) n (c ∷ sent) e h =
    let first : row_pair r ≡ (n, c) = cc in
    let others : map row_pair own ≡ counted_from (suc n) sent = cc in
    let same : r.call ≡ c = ap (λ (p : ℕ × Call). p.1) first in
    (ap is_edit same ∙ h.0, edits_are own (suc n) sent others h.1)

length-counted_from : (n : ℕ) (calls : List Call) → length (counted_from n calls) ≡ length calls
length-counted_from n [] = refl
length-counted_from n (c ∷ calls) = ap suc (length-counted_from (suc n) calls)

-- the row is an edit by this performer
abbrev pub IsEditBy : ℕ → Row → Type 0
IsEditBy who r = (r.who ≡ who) × (is_edit r.call ≡ true)

-- what was placed through a performer's seat is its edits
pub own_edits : (seed : ℕ) (steps : List Bool) (sent owed who : ℕ) (seen own : List Row) (s : Staged) (n : ℕ) → IsPlaying seed steps sent owed who seen own s n → AllOf (IsEditBy who) own
own_edits seed steps sent owed who seen own s n h =
    let asks = stage_asks s (first_number seed who) h.played h.drawn in
    all_both (λ (r : Row). r.who ≡ who) (λ (r : Row). is_edit r.call ≡ true) own h.mine (edits_are own 1 (machine s).sent h.placed asks.sent_are)

-- as many as were sent
pub own_count : (seed : ℕ) (steps : List Bool) (sent owed who : ℕ) (seen own : List Row) (s : Staged) (n : ℕ) → IsPlaying seed steps sent owed who seen own s n → length (sent_pairs (machine s)) ≡ sent
own_count seed steps sent owed who seen own s n h = length-counted_from 1 (machine s).sent ∙ h.sent_is

-- ---- whose a row is

-- what is known of a row behind the joins: through which performer's seat it was placed, and what was placed through each
pub record IsKnown (ps : List Player) (r : Row) : Type 0 where
  pub index : ℕ
  pub player : Player
  pub there : slice_get ps index ≡ Some player
  pub seat_is : r.seat ≡ player.seat.number
  pub each : (i : ℕ) (p : Player) → slice_get ps i ≡ Some p → r.seat ≡ p.seat.number → IsEditBy p.who r

-- the numbers of their seats
abbrev pub numbers_of : List Player → List ℕ
numbers_of ps = map (λ (s : DeskSeatValue). s.number) (map (λ (p : Player). p.seat) ps)

number_at : (k : ℕ) (ps : List Player) → IsIn k (numbers_of ps) → (i : ℕ) × (p : Player) × (slice_get ps i ≡ Some p) × (p.seat.number ≡ k)
number_at k [] h = absurd h
number_at k (p ∷ ps) h =
    ⊎_elim (λ (e : p.seat.number ≡ k). (0, p, refl, e)) (λ (t : IsIn k (numbers_of ps)). let r = number_at k ps t in (suc r.0, r.1, r.2, r.3)) h

all_known : (first : ℕ) (ps : List Player) (rs : List Row) → first ≡ 0 → AllOf (λ (r : Row). IsIn r.seat (first ∷ numbers_of ps)) rs → AllOf (λ (r : Row). r.seat ≡ 0 → ⊥) rs
    → ((i : ℕ) (p : Player) → slice_get ps i ≡ Some p → AllOf (λ (r : Row). r.seat ≡ p.seat.number → IsEditBy p.who r) rs) → AllOf (IsKnown ps) rs
all_known first ps [] zero_is every none each = tt
all_known first ps (r ∷ rs) zero_is every none each = (
  known (⊎_elim (λ (e : first ≡ r.seat). absurd (none.0 (sym e ∙ zero_is))) (λ (t : IsIn r.seat (numbers_of ps)). number_at r.seat ps t) every.0),
  all_known first ps rs zero_is every.1 none.1 (λ i p there. (each i p there).1),
)
  where
    known : (i : ℕ) × (p : Player) × (slice_get ps i ≡ Some p) × (p.seat.number ≡ r.seat) → IsKnown ps r
    known at = record { index = at.0; player = at.1; there = at.2; seat_is = sym at.3; each = λ i p there. (each i p there).0 }

-- they are numbered from 1 on
abbrev pub AreInOrder : List Player → Type 0
AreInOrder ps = (i : ℕ) (p : Player) → slice_get ps i ≡ Some p → p.who ≡ suc i

known_edit : (performers : ℕ) (ps : List Player) (r : Row) → length ps ≡ performers → AreInOrder ps → IsKnown ps r → IsEditOfOne performers r
known_edit performers ps r count order k =
    let by = k.each k.index k.player k.there k.seat_is in
    let who : r.who ≡ suc k.index = by.0 ∙ order k.index k.player k.there in
    let within = within_length ps k.index k.player k.there in
    record { edit = by.1; from = omega (arith, who); to = omega (arith, who, within, count) }

known_through : (ps : List Player) (i : ℕ) (p : Player) (r : Row) → AreInOrder ps → slice_get ps i ≡ Some p → IsKnown ps r → IsThrough p.who p.seat.number r
known_through ps i p r order there k = (λ seat. (k.each i p there seat).0, through)
  where
    through : r.who ≡ p.who → r.seat ≡ p.seat.number
    through who =
        let his = (k.each k.index k.player k.there k.seat_is).0 in
        let numbers : suc k.index ≡ suc i = sym (order k.index k.player k.there) ∙ sym his ∙ who ∙ order i p there in
        let same : k.index ≡ i = omega (arith, numbers) in
        let both : Some k.player ≡ Some p = sym k.there ∙ ap (slice_get ps) same ∙ there in
        let one : k.player ≡ p = cc in
        k.seat_is ∙ ap (λ (q : Player). q.seat.number) one

-- each performer has a seat of its own
through_own : (ps : List Player) (edits : List Row) → AreInOrder ps → AllOf (IsKnown ps) edits → AreThroughOwn edits
through_own ps edits order known =
    all_map (IsKnown ps) (λ (r : Row). AllOf (λ (s : Row). (r.seat ≡ s.seat → r.who ≡ s.who) × (r.who ≡ s.who → r.seat ≡ s.seat)) edits)
    (λ r k. all_map (IsKnown ps) (λ (s : Row). (r.seat ≡ s.seat → r.who ≡ s.who) × (r.who ≡ s.who → r.seat ≡ s.seat)) (λ s l. both r s k l) edits known) edits known
  where
    both : (r s : Row) → IsKnown ps r → IsKnown ps s → (r.seat ≡ s.seat → r.who ≡ s.who) × (r.who ≡ s.who → r.seat ≡ s.seat)
    both r s k l =
        let t = known_through ps l.index l.player r order l.there k in
        let his : s.who ≡ l.player.who = (l.each l.index l.player l.there l.seat_is).0 in
        (λ seat. t.0 (seat ∙ l.seat_is) ∙ sym his, λ who. t.1 (who ∙ his) ∙ sym l.seat_is)

-- ---- all rows

-- what the players' seats placed, and how many
pub record OwnRows (calls : ℕ) (log : List Row) (p : Player) : Type 0 where
  pub edits : AllOf (IsEditBy p.who) p.seat.own
  pub count : length (map row_pair p.seat.own) ≡ 2 * calls
  pub rows : rows_of (λ (r : Row). r.seat) p.seat.number log ≡ p.seat.own

no_join : (n : ℕ) → AllOf (λ (r : Row). is_edit r.call ≡ false) (join_rows n)
no_join n = all_joins (λ (r : Row). is_edit r.call ≡ false) n (λ i l. refl)

-- of a list and another, what an equal list of the first alone leaves
nothing_more : {A : Type 0} (xs ys : List A) → xs ++ ys ≡ xs → ys ≡ []
nothing_more xs ys e = let all : length (xs ++ ys) ≡ length xs = ap length e in nil_of ys (omega (arith, all, length-append xs ys))

-- the rows that were placed through a performer's seat stand behind the joins
pub own_behind : (n calls : ℕ) (log edits : List Row) (p : Player) → log ≡ join_rows n ++ edits → OwnRows calls log p → rows_of (λ (r : Row). r.seat) p.seat.number edits ≡ p.seat.own
own_behind n calls log edits p is h =
    let split : rows_of (λ (r : Row). r.seat) p.seat.number (join_rows n) ++ rows_of (λ (r : Row). r.seat) p.seat.number edits ≡ p.seat.own =
    sym (rows_of-append (λ (r : Row). r.seat) p.seat.number (join_rows n) edits) ∙ ap (rows_of (λ (r : Row). r.seat) p.seat.number) (sym is) ∙ h.rows in
    let front = (all_parts (IsEditBy p.who) (rows_of (λ (r : Row). r.seat) p.seat.number (join_rows n)) (rows_of (λ (r : Row). r.seat) p.seat.number edits)
    (subst (AllOf (IsEditBy p.who)) (sym split) h.edits)).0 in
    let joins = rows_keep (λ (r : Row). r.seat) p.seat.number (λ (r : Row). is_edit r.call ≡ false) (join_rows n) (no_join n) in
    let none : rows_of (λ (r : Row). r.seat) p.seat.number (join_rows n) ≡ [] =
    none_both (IsEditBy p.who) (λ (r : Row). is_edit r.call ≡ false) (rows_of (λ (r : Row). r.seat) p.seat.number (join_rows n)) (λ r a b. let never : true ≡ false = sym a.1 ∙ b in absurd (cc)) front joins in
    ap (λ l. l ++ rows_of (λ (r : Row). r.seat) p.seat.number edits) (sym none) ∙ split

-- what is known of the closed log: it begins with the joins; the first seat placed these alone; each row is through a seat; and what the others placed
pub record IsClosed (performers calls : ℕ) (log edits : List Row) (first : ℕ) (ps : List Player) : Type 0 where
  pub begins : log ≡ join_rows performers ++ edits
  pub number : first ≡ 0
  pub joins : rows_of (λ (r : Row). r.seat) 0 log ≡ join_rows performers
  pub every : AllOf (λ (r : Row). IsIn r.seat (first ∷ numbers_of ps)) log
  pub count : length ps ≡ performers
  pub order : AreInOrder ps
  pub own : (i : ℕ) (p : Player) → slice_get ps i ≡ Some p → OwnRows calls log p

closed_known : (performers calls : ℕ) (log edits : List Row) (first : ℕ) (ps : List Player) → IsClosed performers calls log edits first ps → AllOf (IsKnown ps) edits
closed_known performers calls log edits first ps h =
    let every : AllOf (λ (r : Row). IsIn r.seat (first ∷ numbers_of ps)) (join_rows performers ++ edits) =
    subst (AllOf (λ (r : Row). IsIn r.seat (first ∷ numbers_of ps))) h.begins h.every in
    let split : rows_of (λ (r : Row). r.seat) 0 (join_rows performers) ++ rows_of (λ (r : Row). r.seat) 0 edits ≡ join_rows performers =
    sym (rows_of-append (λ (r : Row). r.seat) 0 (join_rows performers) edits) ∙ ap (rows_of (λ (r : Row). r.seat) 0) (sym h.begins) ∙ h.joins in
    let none : rows_of (λ (r : Row). r.seat) 0 edits ≡ [] =
    nothing_more (join_rows performers) (rows_of (λ (r : Row). r.seat) 0 edits) (ap (λ l. l ++ rows_of (λ (r : Row). r.seat) 0 edits) (sym (rows_of-join_rows performers)) ∙ split) in
    all_known first ps edits h.number
    (all_parts (λ (r : Row). IsIn r.seat (first ∷ numbers_of ps)) (join_rows performers) edits every).1
    (rows_all (λ (r : Row). r.seat) 0 (λ _. ⊥) edits (subst (AllOf (λ (_ : Row). ⊥)) (sym none) tt))
    (λ i p there. rows_all (λ (r : Row). r.seat) p.seat.number (IsEditBy p.who) edits
    (subst (AllOf (IsEditBy p.who)) (sym (own_behind performers calls log edits p h.begins (h.own i p there))) (h.own i p there).edits))

-- a performer's rows behind the joins are those that were placed through its seat
pub pairs_behind : (performers calls : ℕ) (log edits : List Row) (first : ℕ) (ps : List Player) (i : ℕ) (p : Player) → IsClosed performers calls log edits first ps → slice_get ps i ≡ Some p
    → pairs_by p.who edits ≡ map row_pair p.seat.own
pairs_behind performers calls log edits first ps i p h there =
    pairs_by_seat p.who p.seat.number edits (all_map (IsKnown ps) (IsThrough p.who p.seat.number) (λ r k. known_through ps i p r h.order there k) edits (closed_known performers calls log edits first ps h))
    ∙ ap (map row_pair) (own_behind performers calls log edits p h.begins (h.own i p there))

-- and its rows behind its own join are those
pub pairs_behind_join : (performers calls : ℕ) (log edits : List Row) (first : ℕ) (ps : List Player) (i : ℕ) (p : Player) → IsClosed performers calls log edits first ps → slice_get ps i ≡ Some p
    → pairs_by p.who (drop (suc i) log) ≡ map row_pair p.seat.own
pairs_behind_join performers calls log edits first ps i p h there =
    let within : i < performers = let l = within_length ps i p there in let c = h.count in omega (arith, l, c) in
    let all = length-join_rows performers in
    let who : p.who ≡ suc i = h.order i p there in
    ap (λ l. pairs_by p.who (drop (suc i) l)) h.begins
    ∙ ap (pairs_by p.who) (drop-append-le (suc i) (join_rows performers) edits (omega (arith, within, all)))
    ∙ pairs_by-append p.who (drop (suc i) (join_rows performers)) edits
    ∙ ap (λ l. l ++ pairs_by p.who edits) (ap (λ w. pairs_by w (drop (suc i) (join_rows performers))) who ∙ none_behind_join performers i within)
    ∙ pairs_behind performers calls log edits first ps i p h there

-- there is a performer at each place
pub player_at : (ps : List Player) (i : ℕ) → i < length ps → (p : Player) × (slice_get ps i ≡ Some p)
player_at [] i below = absurd (omega arith)
player_at (p ∷ ps) zero below = (p, refl)
player_at (p ∷ ps) (suc i) below = player_at ps i (omega arith)

twice : (performers calls : ℕ) → performers * (2 * calls) ≡ 2 * performers * calls
twice performers calls = sym (mul_assoc performers 2 calls) ∙ ap (λ k. k * calls) (mul_comm performers 2)

-- the closed log is the joins and so many edits of each
pub jam_rows : (performers calls : ℕ) (log edits : List Row) (first : ℕ) (ps : List Player) → IsClosed performers calls log edits first ps → AreJamRows performers calls log
jam_rows performers calls log edits first ps h =
    let every : AllOf (IsEditOfOne performers) edits = all_map (IsKnown ps) (IsEditOfOne performers) (λ r k. known_edit performers ps r h.count h.order k) edits (closed_known performers calls log edits first ps h) in
    let all = ap length h.begins in
    let count = count_of_all performers (2 * calls) edits every each in
    record {
      edits = edits;
      rows = h.begins;
      every = every;
      apart = through_own ps edits h.order (closed_known performers calls log edits first ps h);
      each = each;
      count = ap length h.begins ∙ length-append (join_rows performers) edits ∙ ap (λ k. k + length edits) (length-join_rows performers) ∙ ap (λ k. performers + k) (count ∙ twice performers calls);
    }
  where
    each : (who : ℕ) → 1 ≤ who → who ≤ performers → length (pairs_by who edits) ≡ 2 * calls
    each zero from to = absurd (omega arith)
    each (suc i) from to =
        let c = h.count in
        let found = player_at ps i (omega (arith, to, c)) in
        let who : found.0.who ≡ suc i = h.order i found.0 found.1 in
        ap (λ w. length (pairs_by w edits)) (sym who) ∙ ap length (pairs_behind performers calls log edits first ps i found.0 h found.1) ∙ (h.own i found.0 found.1).count
