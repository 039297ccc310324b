-- The calls that wait and the rows ahead, one by one.
use Rattle.std.proofs.Common.{◌≡◌, ℕ, zero, suc, ◌-◌, ◌≤◌, Bool, true, false, if◌then◌else◌, ◌||◌, Option, None, Some, List, [], ◌∷◌, drop, slice_get, refl, sym, ap, ◌∙◌, inl, inr, ⊎_elim, ◌⊎◌, arith}
use Rattle.ot_text.specs.Change.{Change}
use Rattle.troop_entry.specs.declared.row.Row.{Row}
use Rattle.troop_entry.specs.declared.call.Call.{Call}
use Rattle.troop_entry.specs.declared.call.Call.TheVariants.{Join, Leave, Edit, Eval, Reset}
use Rattle.troop_entry.specs.Entries.{seen_of}
use Rattle.client_state.specs.declared.state.State.{State}
use Rattle.client_state.specs.declared.state.State.TheVariants.{Synchronized, Awaiting, WithBuffer}
use Rattle.client_state.specs.Pending.{outstanding, is_awaiting}
use Rattle.stage_state.specs.declared.act.Next.{Next}
use Rattle.stage_state.specs.declared.act.Next.TheVariants.{Done}
use Rattle.stage_state.specs.Machine.{Machine, taken_count, next_of, next_open}
use Rattle.agreement.specs.Agreement.{Agrees, IsAccountedFor, SeenRises, is_edit, is_edit_by, edits_among, edit_positions, positions_ahead, waiting_calls, lane_call}
use Rattle.agreement.proofs.Dropped.{get_drop}
use Rattle.agreement.proofs.IsAccountedFor.{none_point}
use Rattle.agreement.proofs.SeenRises.{rises_between}

-- ---- what the calls have seen

rises_head : (low high : ℕ) (call : Call) (calls : List Call) → SeenRises low high (call ∷ calls) → (low ≤ seen_of call 0) × SeenRises (seen_of call 0) high calls
rises_head low high (Join name lang) calls a = absurd a
rises_head low high Leave calls a = absurd a
rises_head low high (Edit seen op) calls a = a
rises_head low high (Eval seen text) calls a = a
rises_head low high (Reset seen text) calls a = a

rises_at : (low high : ℕ) (calls : List Call) (j : ℕ) (d : Call) → SeenRises low high calls → slice_get calls j ≡ Some d → (low ≤ seen_of d 0) × (seen_of d 0 ≤ high)
rises_at low high [] j d a f = absurd (cc)
rises_at low high (call ∷ calls) zero d a f =
    let h = rises_head low high call calls a in
    let same : call ≡ d = cc in
    let n : seen_of call 0 ≡ seen_of d 0 = ap (λ (c : Call). seen_of c 0) same in
    (omega (arith, h.0, n), omega (arith, n, rises_between (seen_of call 0) high calls h.1))
rises_at low high (call ∷ calls) (suc j) d a f =
    let h = rises_head low high call calls a in
    let r = rises_at (seen_of call 0) high calls j d h.1 f in
    (omega (arith, h.0, r.0), r.1)

-- a call has seen no less than one in front of it, and no more than the highest
pub rises_pair : (low high : ℕ) (calls : List Call) (i j : ℕ) (c d : Call) → i ≤ j → SeenRises low high calls → slice_get calls i ≡ Some c → slice_get calls j ≡ Some d
    → (seen_of c 0 ≤ seen_of d 0) × (seen_of d 0 ≤ high)
rises_pair low high [] i j c d before a e f = absurd (cc)
rises_pair low high (call ∷ calls) zero zero c d before a e f =
    let r = rises_at low high (call ∷ calls) zero d a f in
    let one : call ≡ c = cc in
    let other : call ≡ d = cc in
    let n : seen_of c 0 ≡ seen_of d 0 = ap (λ (x : Call). seen_of x 0) (sym one ∙ other) in
    (omega (arith, n), r.1)
rises_pair low high (call ∷ calls) zero (suc j) c d before a e f =
    let h = rises_head low high call calls a in
    let r = rises_at (seen_of call 0) high calls j d h.1 f in
    let same : call ≡ c = cc in
    let n : seen_of call 0 ≡ seen_of c 0 = ap (λ (x : Call). seen_of x 0) same in
    (omega (arith, n, r.0), r.1)
rises_pair low high (call ∷ calls) (suc i) zero c d before a e f = absurd (omega (arith, before))
rises_pair low high (call ∷ calls) (suc i) (suc j) c d before a e f =
    let h = rises_head low high call calls a in
    rises_pair (seen_of call 0) high calls i j c d (omega (arith, before)) h.1 e f

-- ---- the edits among the calls

none_head : (call : Call) (calls : List Call) → edits_among (call ∷ calls) ≡ [] → (is_edit call ≡ false) × (edits_among calls ≡ [])
none_head (Join name lang) calls e = (refl, e)
none_head Leave calls e = (refl, e)
none_head (Edit seen op) calls e = absurd (cc)
none_head (Eval seen text) calls e = (refl, e)
none_head (Reset seen text) calls e = (refl, e)

one_head : (call : Call) (calls : List Call) (p : ℕ × Change) → edits_among (call ∷ calls) ≡ p ∷ [] → (edits_among calls ≡ []) ⊎ ((is_edit call ≡ false) × (edits_among calls ≡ p ∷ []))
one_head (Join name lang) calls p e = inr (refl, e)
one_head Leave calls p e = inr (refl, e)
one_head (Edit seen op) calls p e = inl (cc)
one_head (Eval seen text) calls p e = inr (refl, e)
one_head (Reset seen text) calls p e = inr (refl, e)

-- an edit waits, so one is listed
pub edit_listed : (calls : List Call) (i : ℕ) (c : Call) → slice_get calls i ≡ Some c → is_edit c ≡ true → edits_among calls ≡ [] → ⊥
edit_listed [] i c e is none = cc
edit_listed (call ∷ calls) zero c e is none =
    let same : call ≡ c = cc in
    let wrong : true ≡ false = sym is ∙ ap is_edit (sym same) ∙ (none_head call calls none).0 in
    cc
edit_listed (call ∷ calls) (suc i) c e is none = edit_listed calls i c e is (none_head call calls none).1

-- where one is listed, one waits
pub edit_alone : (calls : List Call) (p : ℕ × Change) (i j : ℕ) (c d : Call) → edits_among calls ≡ p ∷ [] → slice_get calls i ≡ Some c → slice_get calls j ≡ Some d → is_edit c ≡ true → is_edit d ≡ true
    → i ≡ j
edit_alone [] p i j c d one e f is has = absurd (cc)
edit_alone (call ∷ calls) p zero zero c d one e f is has = refl
edit_alone (call ∷ calls) p zero (suc j) c d one e f is has =
    let same : call ≡ c = cc in
    ⊎_elim
    (λ l. absurd (edit_listed calls j d f has l))
    (λ r. absurd (let wrong : true ≡ false = sym is ∙ ap is_edit (sym same) ∙ r.0 in cc))
    (one_head call calls p one)
edit_alone (call ∷ calls) p (suc i) zero c d one e f is has =
    let same : call ≡ d = cc in
    ⊎_elim
    (λ l. absurd (edit_listed calls i c e is l))
    (λ r. absurd (let wrong : true ≡ false = sym has ∙ ap is_edit (sym same) ∙ r.0 in cc))
    (one_head call calls p one)
edit_alone (call ∷ calls) p (suc i) (suc j) c d one e f is has =
    ⊎_elim
    (λ l. absurd (edit_listed calls i c e is l))
    (λ r. ap suc (edit_alone calls p i j c d r.1 e f is has))
    (one_head call calls p one)

-- ---- the edits among the rows

empty_here : (b : Bool) (at : ℕ) (ps : List ℕ) → (if b then at ∷ ps else ps) ≡ [] → (b ≡ false) × (ps ≡ [])
empty_here true at ps e = absurd (cc)
empty_here false at ps e = (refl, e)

one_here : (b : Bool) (at p : ℕ) (ps : List ℕ) → (if b then at ∷ ps else ps) ≡ p ∷ [] → (ps ≡ []) ⊎ ((b ≡ false) × (ps ≡ p ∷ []))
one_here true at p ps e = inl (cc)
one_here false at p ps e = inr (refl, e)

-- a row is the performer's edit, so its position is listed
pub row_listed : (who at : ℕ) (rows : List Row) (i : ℕ) (row : Row) → slice_get rows i ≡ Some row → is_edit_by who row ≡ true → edit_positions who at rows ≡ [] → ⊥
row_listed who at [] i row e is none = cc
row_listed who at (x ∷ rows) zero row e is none =
    let same : x ≡ row = cc in
    let wrong : true ≡ false = sym is ∙ ap (is_edit_by who) (sym same) ∙ (empty_here (is_edit_by who x) at (edit_positions who (suc at) rows) none).0 in
    cc
row_listed who at (x ∷ rows) (suc i) row e is none = row_listed who (suc at) rows i row e is (empty_here (is_edit_by who x) at (edit_positions who (suc at) rows) none).1

-- where one position is listed, one row is the performer's edit
pub row_alone : (who at p : ℕ) (rows : List Row) (i j : ℕ) (row other : Row) → edit_positions who at rows ≡ p ∷ [] → slice_get rows i ≡ Some row → slice_get rows j ≡ Some other
    → is_edit_by who row ≡ true → is_edit_by who other ≡ true → i ≡ j
row_alone who at p [] i j row other one e f is has = absurd (cc)
row_alone who at p (x ∷ rows) zero zero row other one e f is has = refl
row_alone who at p (x ∷ rows) zero (suc j) row other one e f is has =
    let same : x ≡ row = cc in
    ⊎_elim
    (λ l. absurd (row_listed who (suc at) rows j other f has l))
    (λ r. absurd (let wrong : true ≡ false = sym is ∙ ap (is_edit_by who) (sym same) ∙ r.0 in cc))
    (one_here (is_edit_by who x) at p (edit_positions who (suc at) rows) one)
row_alone who at p (x ∷ rows) (suc i) zero row other one e f is has =
    let same : x ≡ other = cc in
    ⊎_elim
    (λ l. absurd (row_listed who (suc at) rows i row e is l))
    (λ r. absurd (let wrong : true ≡ false = sym has ∙ ap (is_edit_by who) (sym same) ∙ r.0 in cc))
    (one_here (is_edit_by who x) at p (edit_positions who (suc at) rows) one)
row_alone who at p (x ∷ rows) (suc i) (suc j) row other one e f is has =
    ⊎_elim
    (λ l. absurd (row_listed who (suc at) rows i row e is l))
    (λ r. ap suc (row_alone who (suc at) p rows i j row other r.1 e f is has))
    (one_here (is_edit_by who x) at p (edit_positions who (suc at) rows) one)

-- a row from position t on
row_ahead : (log : List Row) (t i : ℕ) (row : Row) → t ≤ i → slice_get log i ≡ Some row → slice_get (drop t log) (i - t) ≡ Some row
row_ahead log t i row past e = get_drop log t (i - t) i (omega (arith, past)) ∙ e

-- ---- where the outstanding operation is

few_wait : (log : List Row) (own t : ℕ) (o : Option Change) (es : List (ℕ × Change)) → IsAccountedFor log own t o es → (es ≡ []) ⊎ ((p : ℕ × Change) × (es ≡ p ∷ []) × (positions_ahead log own t ≡ []))
few_wait log own t o [] h = inl refl
few_wait log own t None (e ∷ es) h = absurd h
few_wait log own t (Some u) (e ∷ []) h = inr (e, refl, h.ahead)
few_wait log own t (Some u) (e ∷ f ∷ es) h = absurd h

few_ahead : (log : List Row) (own t : ℕ) (o : Option Change) (es : List (ℕ × Change)) → IsAccountedFor log own t o es → (positions_ahead log own t ≡ []) ⊎ ((at : ℕ) × (positions_ahead log own t ≡ at ∷ []))
few_ahead log own t None [] h = inl h
few_ahead log own t None (e ∷ es) h = absurd h
few_ahead log own t (Some u) [] h = inr (h.at, h.ahead)
few_ahead log own t (Some u) (e ∷ []) h = inl h.ahead
few_ahead log own t (Some u) (e ∷ f ∷ es) h = absurd h

some_awaits : (s : State) → (outstanding s ≡ None → ⊥) → is_awaiting s ≡ true
some_awaits Synchronized f = absurd (f refl)
some_awaits (Awaiting u) f = refl
some_awaits (WithBuffer u v) f = refl

-- ---- of a machine

-- at most one call that waits is an edit
pub one_waits : (log : List Row) (m : Machine) (lane : Option (ℕ × Call)) (i j s r : ℕ) (a b : Change) → Agrees log m lane → slice_get (waiting_calls (lane_call lane) m) i ≡ Some (Edit s a)
    → slice_get (waiting_calls (lane_call lane) m) j ≡ Some (Edit r b) → i ≡ j
one_waits log m lane i j s r a b h e f =
    let calls : List Call = waiting_calls (lane_call lane) m in
    ⊎_elim
    (λ none. absurd (edit_listed calls i (Edit s a) e refl none))
    (λ one. edit_alone calls one.0 i j (Edit s a) (Edit r b) one.1 e f refl refl)
    (few_wait log m.own (taken_count m) (outstanding m.pending) (edits_among calls) h.accounted)

-- at most one row that is not taken is the performer's edit
pub one_ahead : (log : List Row) (m : Machine) (lane : Option (ℕ × Call)) (i j : ℕ) (row other : Row) → Agrees log m lane → taken_count m ≤ i → taken_count m ≤ j
    → slice_get log i ≡ Some row → slice_get log j ≡ Some other → is_edit_by m.own row ≡ true → is_edit_by m.own other ≡ true → i ≡ j
one_ahead log m lane i j row other h past later e f is has =
    let t : ℕ = taken_count m in
    let here = row_ahead log t i row past e in
    let there = row_ahead log t j other later f in
    ⊎_elim
    (λ none. absurd (row_listed m.own t (drop t log) (i - t) row here is none))
    (λ one. omega (arith, past, later, row_alone m.own t one.0 (drop t log) (i - t) (j - t) row other one.1 here there is has))
    (few_ahead log m.own t (outstanding m.pending) (edits_among (waiting_calls (lane_call lane) m)) h.accounted)

-- where an edit waits, none is ahead
pub not_both : (log : List Row) (m : Machine) (lane : Option (ℕ × Call)) (i j s : ℕ) (a : Change) (row : Row) → Agrees log m lane → slice_get (waiting_calls (lane_call lane) m) i ≡ Some (Edit s a)
    → taken_count m ≤ j → slice_get log j ≡ Some row → is_edit_by m.own row ≡ false
not_both log m lane i j s a row h e past f = by_test (is_edit_by m.own row) refl
  where
    by_test : (b : Bool) → is_edit_by m.own row ≡ b → b ≡ false
    by_test false is = refl
    by_test true is =
        let t : ℕ = taken_count m in
        let calls : List Call = waiting_calls (lane_call lane) m in
        ⊎_elim
        (λ none. absurd (edit_listed calls i (Edit s a) e refl none))
        (λ one. absurd (row_listed m.own t (drop t log) (j - t) row (row_ahead log t j row past f) is one.2))
        (few_wait log m.own t (outstanding m.pending) (edits_among calls) h.accounted)

-- where an edit waits, the performer awaits it
pub call_awaited : (log : List Row) (m : Machine) (lane : Option (ℕ × Call)) (i s : ℕ) (a : Change) → Agrees log m lane → slice_get (waiting_calls (lane_call lane) m) i ≡ Some (Edit s a) → is_awaiting m.pending ≡ true
call_awaited log m lane i s a h e =
    let calls : List Call = waiting_calls (lane_call lane) m in
    some_awaits m.pending (λ none. edit_listed calls i (Edit s a) e refl (none_point log m.own (taken_count m) (outstanding m.pending) (edits_among calls) none h.accounted).0)

-- where a row that is not taken is its edit, it awaits that
pub row_awaited : (log : List Row) (m : Machine) (lane : Option (ℕ × Call)) (j : ℕ) (row : Row) → Agrees log m lane → taken_count m ≤ j → slice_get log j ≡ Some row → is_edit_by m.own row ≡ true
    → is_awaiting m.pending ≡ true
row_awaited log m lane j row h past f is =
    let t : ℕ = taken_count m in
    some_awaits m.pending
    (λ none. row_listed m.own t (drop t log) (j - t) row (row_ahead log t j row past f) is
    (none_point log m.own t (outstanding m.pending) (edits_among (waiting_calls (lane_call lane) m)) none h.accounted).1)

-- what the waiting calls have seen
pub waiting_rises : (log : List Row) (m : Machine) (lane : Option (ℕ × Call)) (i j : ℕ) (c d : Call) → Agrees log m lane → i ≤ j → slice_get (waiting_calls (lane_call lane) m) i ≡ Some c
    → slice_get (waiting_calls (lane_call lane) m) j ≡ Some d → (seen_of c 0 ≤ seen_of d 0) × (seen_of d 0 ≤ taken_count m)
waiting_rises log m lane i j c d h before e f = rises_pair 0 (taken_count m) (waiting_calls (lane_call lane) m) i j c d before h.seen_rises e f

-- behind its leave nothing goes out
pub nothing_behind_leave : (log : List Row) (m : Machine) (lane : Option (ℕ × Call)) → Agrees log m lane → m.leave_sent ≡ true → next_of m ≡ Done
nothing_behind_leave log m lane h left =
    let ended = h.last left in
    by_halt (m.halted || m.gone) (next_open m m.outgoing) (ap (next_open m) ended.nothing_to_go ∙ rw (ended.finishing, ended.synchronized, left) refl)
  where
    by_halt : (b : Bool) (next : Next) → next ≡ Done → (if b then Done else next) ≡ Done
    by_halt true next e = refl
    by_halt false next e = e
