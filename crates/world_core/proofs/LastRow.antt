-- The position of a performer's last row.
use Rattle.std.proofs.Common.{◌≡◌, ℕ, zero, suc, ◌+◌, ◌<◌, ◌≤◌, Bool, true, false, if◌then◌else◌, Option, None, Some, List, [], ◌∷◌, ◌++◌, length, drop, slice_get, refl, sym, ap, ◌∙◌, subst, inl, inr, ⊎_elim, ◌⊎◌, arith}
use Rattle.std.specs.Prelude.{◌==◌}
use Rattle.troop_entry.specs.declared.call.Call.{Call}
use Rattle.troop_entry.specs.declared.row.Row.{Row}
use Rattle.log_model.specs.Answers.{answer, author, is_accepted, log_after, row_made}
use Rattle.log_model.proofs.Lists.{true_equal}
use Rattle.stage_state.specs.Staged.{Staged}
use Rattle.world_core.specs.States.{last_from, last_row}

-- behind one more row
last_more : (at who : ℕ) (found : Option ℕ) (rows : List Row) (row : Row)
    → last_from at who found (rows ++ row ∷ []) ≡ (if row.who == who then Some (at + length rows) else last_from at who found rows)
last_more at who found [] row = ap (λ n. if row.who == who then Some n else found) (omega arith)
last_more at who found (x ∷ rows) row =
    last_more (suc at) who (if x.who == who then Some at else found) rows row
    ∙ ap (λ n. if row.who == who then Some n else last_from (suc at) who (if x.who == who then Some at else found) rows) (omega arith)

drop_more : (n : ℕ) (rows : List Row) (row : Row) → n ≤ length rows → drop n (rows ++ row ∷ []) ≡ drop n rows ++ row ∷ []
drop_more zero rows row below = refl
drop_more (suc n) [] row below = absurd (omega (arith, below))
drop_more (suc n) (x ∷ rows) row below = drop_more n rows row (omega (arith, below))

length_drop : (n : ℕ) (rows : List Row) → n ≤ length rows → n + length (drop n rows) ≡ length rows
length_drop zero rows below = omega arith
length_drop (suc n) [] below = absurd (omega (arith, below))
length_drop (suc n) (x ∷ rows) below = omega (arith, length_drop n rows (omega (arith, below)))

-- behind one more row, of a performer whose join is among the others
pub last_row-more : (log : List Row) (row : Row) (s : Staged) → s.joined < length log
    → last_row (log ++ row ∷ []) s ≡ (if row.who == s.own then Some (length log) else last_row log s)
last_row-more log row s inside =
    ap (last_from (suc s.joined) s.own None) (drop_more (suc s.joined) log row (omega (arith, inside)))
    ∙ last_more (suc s.joined) s.own None (drop (suc s.joined) log) row
    ∙ ap (λ n. if row.who == s.own then Some n else last_row log s) (length_drop (suc s.joined) log (omega (arith, inside)))

-- nothing stands behind a join that is the last row
pub last_row-new : (log : List Row) (row : Row) (s : Staged) → s.joined ≡ length log → last_row (log ++ row ∷ []) s ≡ None
last_row-new log row s is = ap (λ n. last_from (suc n) s.own None (drop (suc n) (log ++ row ∷ []))) is ∙ ap (last_from (suc (length log)) s.own None) (nothing log)
  where
    nothing : (rows : List Row) → drop (suc (length rows)) (rows ++ row ∷ []) ≡ []
    nothing [] = refl
    nothing (x ∷ rows) = nothing rows

-- whatever is asked as another performer
pub last_row-other : (log : List Row) (seat who num : ℕ) (call : Call) (s : Staged) → s.joined < length log → (author log who call == s.own) ≡ false
    → last_row (log_after log seat who num call) s ≡ last_row log s
last_row-other log seat who num call s inside other = by_test (is_accepted (answer log who num call))
  where
    by_test : (b : Bool) → last_row (if b then log ++ row_made log seat who num call ∷ [] else log) s ≡ last_row log s
    by_test true =
        last_row-more log (row_made log seat who num call) s inside
        ∙ ap (λ b. if b then Some (length log) else last_row log s) other
    by_test false = refl

-- the row that was found
found_row : (at who : ℕ) (found : Option ℕ) (rows : List Row) (k : ℕ) → last_from at who found rows ≡ Some k
    → (found ≡ Some k) ⊎ ((i : ℕ) × (k ≡ at + i) × ((row : Row) × (slice_get rows i ≡ Some row) × (row.who ≡ who)))
found_row at who found [] k e = inl e
found_row at who found (x ∷ rows) k e =
    ⊎_elim (λ l. by_test (x.who == who) refl l)
    (λ r. inr (suc r.0, omega (arith, r.1), r.2))
    (found_row (suc at) who (if x.who == who then Some at else found) rows k e)
  where
    by_test : (b : Bool) → (x.who == who) ≡ b → (if x.who == who then Some at else found) ≡ Some k
        → (found ≡ Some k) ⊎ ((i : ℕ) × (k ≡ at + i) × ((row : Row) × (slice_get (x ∷ rows) i ≡ Some row) × (row.who ≡ who)))
    by_test true t is =
        let one : Some at ≡ Some k = sym (ap (λ b. if b then Some at else found) t) ∙ is in
        let k_is : at ≡ k = cc in inr (0, omega (arith, k_is), (x, refl, true_equal x.who who t))
    by_test false t is = inl (sym (ap (λ b. if b then Some at else found) t) ∙ is)

get_dropped : (n : ℕ) (rows : List Row) (i : ℕ) (row : Row) → slice_get (drop n rows) i ≡ Some row → slice_get rows (n + i) ≡ Some row
get_dropped zero rows i row e = let none : zero + i ≡ i = omega arith in rw none e
get_dropped (suc n) [] i row e = absurd (cc)
get_dropped (suc n) (x ∷ rows) i row e =
    let next : suc n + i ≡ suc (n + i) = omega arith in
    rw next (get_dropped n rows i row e)

-- the last row is the performer's, and stands behind its join
pub last_row-is : (log : List Row) (s : Staged) (k : ℕ) → last_row log s ≡ Some k
    → (s.joined < k) × ((row : Row) × (slice_get log k ≡ Some row) × (row.who ≡ s.own))
last_row-is log s k e =
    ⊎_elim (λ l. absurd (cc))
    (λ r. (omega (arith, r.1), (r.2.0, subst (λ (n : ℕ). slice_get log n ≡ Some r.2.0) (sym r.1) (get_dropped (suc s.joined) log r.0 r.2.0 r.2.1), r.2.2)))
    (found_row (suc s.joined) s.own None (drop (suc s.joined) log) k e)
