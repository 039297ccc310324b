-- The call in the lane is placed.
use Rattle.std.proofs.Common.{◌≡◌, ℕ, suc, zero, ◌-◌, ◌<◌, ◌≤◌, Bool, true, false, not, ◌&&◌, ◌||◌, nat_eq, nat_lt, if◌then◌else◌, Option, None, Some, List, [], ◌∷◌, ◌++◌, length, take, drop, slice_get, refl, sym, ap, ◌∙◌, arith, true≢false}
use Rattle.std.specs.Prelude.{◌==◌}
use Rattle.std.proofs.lemmas.Bool.Decides.{nat_tests}
use Rattle.ot_text.specs.Change.{Change, base}
use Rattle.troop_entry.specs.declared.row.Row.{Row}
use Rattle.troop_entry.specs.declared.call.Call.{Call}
use Rattle.troop_entry.specs.declared.call.Call.TheVariants.{Join, Leave, Edit, Eval, Reset}
use Rattle.troop_entry.specs.declared.reply.Reply.TheVariants.{Placed}
use Rattle.client_state.specs.Pending.{outstanding}
use Rattle.log_model.specs.Log.{doc, is_member, is_numbered, call_under_from, call_under}
use Rattle.troop_entry.specs.Kinds.{is_join}
use Rattle.log_model.specs.Legal.{IsLegal}
use Rattle.log_model.specs.Answers.{answer, answer_new, earlier_call}
use Rattle.log_model.proofs.IsMember.{join_first}
use Rattle.log_model.proofs.CallUnder.{numbered_no_join}
use Rattle.log_model.proofs.Answer.{answer_fresh}
use Rattle.stage_state.specs.Machine.{Machine, taken_count, counted_from}
use Rattle.agreement.specs.Agreement.{Agrees, IsAccountedFor, edits_among, pairs_by}
use Rattle.log_model.proofs.Lists.{equal_true, true_equal, not_above}
use Rattle.agreement.proofs.Agreed.{Agreed}
use Rattle.agreement.proofs.Agrees.{agreed}
use Rattle.agreement.proofs.Dropped.{get_drop}
use Rattle.agreement.proofs.OwnAsks.{joined_row}
use Rattle.agreement.proofs.SeenRises.{rises_between}

unserved_fits : (log : List Row) (own t seen : ℕ) (op : Change) (o : Option Change) (es : List (ℕ × Change)) → IsAccountedFor log own t o ((seen, op) ∷ es) → base op ≡ length (doc (take seen log))
unserved_fits log own t seen op None es h = absurd h
unserved_fits log own t seen op (Some u) [] h = h.fits
unserved_fits log own t seen op (Some u) (e ∷ es) h = absurd h

-- as a new call it is placed
lane_new : (log : List Row) (m : Machine) (call : Call) → Agreed log m (Some call) → answer_new log m.own call ≡ Placed (length log) m.own
lane_new log m (Join name lang) h = absurd h.seen_rises
lane_new log m Leave h =
    let member : is_member log m.own ≡ true = h.member ∙ ap (λ b. not (b && false)) (sym h.lane_fits) in
    rw member refl
lane_new log m (Edit seen op) h =
    let member : is_member log m.own ≡ true = h.member ∙ ap (λ b. not (b && true)) (sym h.lane_fits) in
    let below : nat_lt (length log) seen ≡ false = not_above (length log) seen (omega (arith, h.within, rises_between seen (taken_count m) m.outgoing h.seen_rises.1)) in
    let same : nat_eq (base op) (length (doc (take seen log))) ≡ true =
    equal_true (base op) (length (doc (take seen log))) (unserved_fits log m.own (taken_count m) seen op (outstanding m.pending) (edits_among m.outgoing) h.accounted) in
    rw (member, below, same) refl
lane_new log m (Eval seen text) h =
    let member : is_member log m.own ≡ true = h.member ∙ ap (λ b. not (b && true)) (sym h.lane_fits) in
    let below : nat_lt (length log) seen ≡ false = not_above (length log) seen (omega (arith, h.within, rises_between seen (taken_count m) m.outgoing h.seen_rises.1)) in
    rw (member, below) refl
lane_new log m (Reset seen text) h =
    let member : is_member log m.own ≡ true = h.member ∙ ap (λ b. not (b && true)) (sym h.lane_fits) in
    let below : nat_lt (length log) seen ≡ false = not_above (length log) seen (omega (arith, h.within, rises_between seen (taken_count m) m.outgoing h.seen_rises.1)) in
    rw (member, below) refl

-- ---- and its number is new

-- the numbers of these pairs are below n
abbrev pub AllBelow : ℕ → List (ℕ × Call) → Type 0
AllBelow n [] = Unit {0}
AllBelow n (p ∷ ps) = (p.0 < n) × AllBelow n ps

last_counted : (n num : ℕ) (c : Call) (ps : List (ℕ × Call)) (cs : List Call) → ps ++ (num, c) ∷ [] ≡ counted_from n cs → AllBelow num ps × (n ≤ num)
last_counted n num c [] [] e = absurd (cc)
last_counted n num c [] (d ∷ cs) e = let same : ◌≡◌ {A = ℕ × Call} (num, c) (n, d) = cc in (tt, omega (arith, ap (λ (p : ℕ × Call). p.0) same))
last_counted n num c (p ∷ ps) [] e = absurd (cc)
last_counted n num c (p ∷ ps) (d ∷ cs) e =
    let same : ◌≡◌ {A = ℕ × Call} p (n, d) = cc in
    let rest = last_counted (suc n) num c ps cs (cc) in
    ((omega (arith, ap (λ (q : ℕ × Call). q.0) same, rest.1), rest.0), omega (arith, rest.1))

below_here : (b : Bool) (n : ℕ) (p : ℕ × Call) (ps : List (ℕ × Call)) → b ≡ true → AllBelow n (if b then p ∷ ps else ps) → p.0 < n
below_here true n p ps t a = a.0
below_here false n p ps t a = absurd (cc)

below_rest : (b : Bool) (n : ℕ) (p : ℕ × Call) (ps : List (ℕ × Call)) → AllBelow n (if b then p ∷ ps else ps) → AllBelow n ps
below_rest true n p ps a = a.1
below_rest false n p ps a = a

own_below : (n who : ℕ) (rows : List Row) (i : ℕ) (row : Row) → AllBelow n (pairs_by who rows) → slice_get rows i ≡ Some row → row.who ≡ who → row.num < n
own_below n who [] i row all e is = absurd (cc)
own_below n who (x ∷ rows) zero row all e is =
    let same : x ≡ row = cc in
    let mine : nat_eq x.who who ≡ true = equal_true x.who who (ap (λ (r : Row). r.who) same ∙ is) in
    omega (arith, below_here (nat_eq x.who who) n (x.num, x.call) (pairs_by who rows) mine all, ap (λ (r : Row). r.num) same)
own_below n who (x ∷ rows) (suc i) row all e is = own_below n who rows i row (below_rest (nat_eq x.who who) n (x.num, x.call) (pairs_by who rows) all) e is

none_there : (at who num : ℕ) (rows : List Row) → ((i : ℕ) (row : Row) → slice_get rows i ≡ Some row → is_numbered who num row ≡ false) → call_under_from at who num rows ≡ None
none_there at who num [] f = refl
none_there at who num (x ∷ rows) f = rw (f 0 x refl) (none_there (suc at) who num rows (λ i row e. f (suc i) row e))

-- no row of the performer has the number of the call in the lane
pub lane_fresh : (log : List Row) (m : Machine) (num : ℕ) (call : Call) → IsLegal log → Agrees log m (Some (num, call)) → call_under log m.own num ≡ None
lane_fresh log m num call legal h =
    none_there 0 m.own num log (λ i row e. by_tests i row e (nat_eq row.who m.own) (nat_eq row.num num) (nat_lt m.joined i) refl refl refl)
  where
    by_tests : (i : ℕ) (row : Row) → slice_get log i ≡ Some row → (b c d : Bool) → nat_eq row.who m.own ≡ b → nat_eq row.num num ≡ c → nat_lt m.joined i ≡ d → is_numbered m.own num row ≡ false
    by_tests i row e false c d p q r = rw p refl
    by_tests i row e true false d p q r = rw (p, q) refl
    by_tests i row e true true true p q r =
        let counts = last_counted 1 num call (pairs_by m.own (drop (suc m.joined) log)) m.sent h.sent_is in
        let past : suc m.joined ≤ i = grind (arith, nat_tests, r) in
        let below : row.num < num = own_below num m.own (drop (suc m.joined) log) (i - suc m.joined) row counts.0 (get_drop log (suc m.joined) (i - suc m.joined) i (omega (arith, past)) ∙ e) (true_equal row.who m.own p) in
        absurd (omega (arith, below, true_equal row.num num q))
    by_tests i row e true true false p q r =
        let counts = last_counted 1 num call (pairs_by m.own (drop (suc m.joined) log)) m.sent h.sent_is in
        let j = joined_row log m.joined m.own h.has_joined in
        let first : m.joined ≤ i = join_first log m.joined i j.0 row legal j.1 e j.2 (true_equal row.who m.own p ∙ sym j.3) in
        let near : i ≤ m.joined = grind (arith, nat_tests, r) in
        let here : i ≡ m.joined = omega (arith, first, near) in
        let same : Some row ≡ Some j.0 = sym e ∙ ap (slice_get log) here ∙ j.1 in
        let one : row ≡ j.0 = cc in
        let plain : is_join j.0.call ≡ false = numbered_no_join (take m.joined log) j.0 (legal m.joined j.0 j.1) (omega (arith, counts.1, true_equal row.num num q, ap (λ (r : Row). r.num) one)) in
        absurd (true≢false (sym j.2 ∙ plain))

none_asked : (log : List Row) (who num : ℕ) (c : Call) → call_under log who num ≡ None → earlier_call log who num c ≡ None
none_asked log who num c none = by_kind (is_join c || (num == 0)) refl
  where
    by_kind : (b : Bool) → (is_join c || (num == 0)) ≡ b → earlier_call log who num c ≡ None
    by_kind true is = rw is refl
    by_kind false is = rw is none

-- the call in the lane is placed
pub lane_placed : (log : List Row) (m : Machine) (num : ℕ) (call : Call) → IsLegal log → Agrees log m (Some (num, call)) → answer log m.own num call ≡ Placed (length log) m.own
lane_placed log m num call legal h =
    answer_fresh log m.own num call (none_asked log m.own num call (lane_fresh log m num call legal h))
    ∙ lane_new log m call (agreed log m (Some (num, call)) h)
