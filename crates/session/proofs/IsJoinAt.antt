-- The position of a performer's join.
use Rattle.std.proofs.Common.{◌≡◌, ℕ, zero, suc, ◌≤◌, ◌<◌, Bool, true, false, true≢false, ◌&&◌, ◌||◌, ◌==◌, List, [], ◌∷◌, length, take, refl, sym, ap, ◌∙◌, arith, Some, slice_get}
use Rattle.std.proofs.lemmas.Bool.Decides.{nat_tests}
use Rattle.std.specs.List.{list_any, position_from}
use Rattle.seat_lock.specs.Lists.{Begins}
use Rattle.troop_entry.specs.declared.call.Call.{Call}
use Rattle.troop_entry.specs.declared.call.Call.TheVariants as call
use Rattle.troop_entry.specs.declared.row.Row.{Row}
use Rattle.troop_entry.specs.Kinds.{is_join, is_leave}
use Rattle.log_model.specs.Log.{has_leave, is_join_by, is_leave_by}
use Rattle.log_model.specs.Legal.{IsLegal}
use Rattle.log_model.proofs.IsMember.{leave_last}
use Rattle.log_model.proofs.Lists.{slice_get-append, within_length}
use Rattle.session.specs.UpLines.{IsJoinAt}
use Rattle.session.proofs.PositionFrom.{passes_at}

-- it is the first index at which a join of the performer stands
pub join_found : (who at : ℕ) (log : List Row) → position_from (is_join_by who) 0 log ≡ Some at → IsJoinAt who log at
join_found who at log e =
    let r = passes_at (is_join_by who) 0 at log e in
    let same : r.0 ≡ at = (let s = r.1 in omega (arith, s)) in
    (r.2.0, ap (slice_get log) (sym same) ∙ r.2.1, r.2.2)

-- it lies in the log
pub join_within : (who at : ℕ) (log : List Row) → IsJoinAt who log at → at < length log
join_within who at log j = within_length log at j.0 j.1

-- it is one of every longer log too
pub join_grown : (who at : ℕ) (log log' : List Row) → Begins log log' → IsJoinAt who log at → IsJoinAt who log' at
join_grown who at log log' b j =
    (j.0, ap (λ l. slice_get l at) (sym b.1) ∙ (slice_get-append log b.0 at (join_within who at log j) ∙ j.1), j.2)

both_true : (a b : Bool) → (a && b) ≡ true → (a ≡ true) × (b ≡ true)
both_true true true e = (refl, refl)
both_true true false e = absurd (cc)
both_true false b e = absurd (cc)

equal_by : (a b : ℕ) → (a == b) ≡ true → a ≡ b
equal_by a b e = grind (arith, nat_tests)

-- no element of a front passes a test, where none of its elements does
none_passes : {A : Type 0} (p : A → Bool) (n : ℕ) (xs : List A) → ((i : ℕ) (x : A) → i < n → slice_get xs i ≡ Some x → p x ≡ true → ⊥) → list_any p (take n xs) ≡ false
none_passes p zero xs f = refl
none_passes p (suc n) [] f = refl
none_passes p (suc n) (x ∷ xs) f = by (p x) refl (none_passes p n xs (λ i y below e t. f (suc i) y (omega (arith, below)) e t))
  where
    by : (b : Bool) → p x ≡ b → list_any p (take n xs) ≡ false → (p x || list_any p (take n xs)) ≡ false
    by true e more = absurd (f 0 x (omega arith) refl e)
    by false e more = ap (λ b. b || list_any p (take n xs)) e ∙ more

not_both : (c : Call) → is_join c ≡ true → is_leave c ≡ true → ⊥
not_both (call.Join name lang) j l = true≢false (sym l)
not_both call.Leave j l = true≢false (sym j)
not_both (call.Edit seen op) j l = true≢false (sym j)
not_both (call.Eval seen text) j l = true≢false (sym j)
not_both (call.Reset seen text) j l = true≢false (sym j)

-- no leave of the performer stands up to its join
pub stays_behind : (who at : ℕ) (log : List Row) → IsLegal log → IsJoinAt who log at → has_leave (take (suc at) log) who ≡ false
stays_behind who at log legal j = none_passes (is_leave_by who) (suc at) log never
  where
    never : (i : ℕ) (row : Row) → i < suc at → slice_get log i ≡ Some row → is_leave_by who row ≡ true → ⊥
    never i row below e t =
        let leave = both_true (is_leave row.call) (row.who == who) t in
        let join = both_true (is_join j.0.call) (j.0.who == who) j.2 in
        let one : row.who ≡ who = equal_by row.who who leave.1 in
        let other : j.0.who ≡ who = equal_by j.0.who who join.1 in
        let last : at ≤ i = leave_last log i at row j.0 legal e j.1 leave.0 (other ∙ sym one) in
        let same : i ≡ at = omega (arith, last, below) in
        let again : Some row ≡ Some j.0 = sym e ∙ (ap (slice_get log) same ∙ j.1) in
        let is : row ≡ j.0 = cc in
        not_both row.call (ap (λ (r : Row). is_join r.call) is ∙ join.0) leave.0
