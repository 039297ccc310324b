-- The joins of a run.
use Rattle.std.proofs.Common.{◌≡◌, ◌≢◌, ⊎_elim, ℕ, zero, suc, ◌<◌, ◌≤◌, if◌then◌else◌, Some, [], ◌∷◌, ◌++◌, length, length-append, drop, slice_get, refl, sym, ap, ◌∙◌, arith}
use Rattle.std.proofs.Math.Nat.{eq-or-lt_of_le}
use Rattle.std.proofs.Math.Seq.{drop-length}
use Rattle.std.proofs.lemmas.List.{drop-append-le}
use Rattle.std.proofs.lemmas.List.Sums.{sum_by-append}
use Rattle.seat_lock.specs.Lists.{AllOf, rows_of}
use Rattle.seat_lock.proofs.AllOf.{all_append}
use Rattle.seat_lock.proofs.RowsOf.{rows_of-append}
use Rattle.troop_entry.specs.declared.row.Row.{Row}
use Rattle.troop_entry.specs.Kinds.{is_join}
use Rattle.log_model.specs.Log.{join_count}
use Rattle.log_model.proofs.Lists.{slice_get-append, slice_get-last}
use Rattle.agreement.specs.Agreement.{pairs_by}
use Rattle.jam_run.specs.Joins.{join_row, join_rows}
use Rattle.jam_run.proofs.PairsBy.{pairs_by-append, pairs_by_none}

-- how many they are
pub length-join_rows : (n : ℕ) → length (join_rows n) ≡ n
length-join_rows zero = refl
length-join_rows (suc n) = let before = length-join_rows n in omega (arith, before, length-append (join_rows n) (join_row n ∷ []))

-- all are joins
pub join_count-join_rows : (n : ℕ) → join_count (join_rows n) ≡ n
join_count-join_rows zero = refl
join_count-join_rows (suc n) =
    let before = join_count-join_rows n in
    omega (arith, before, sum_by-append (λ (r : Row). if is_join r.call then 1 else 0) (join_rows n) (join_row n ∷ []))

-- what holds of each join holds of all rows
pub all_joins : (P : Row → Type 0) (n : ℕ) → ((i : ℕ) → i < n → P (join_row i)) → AllOf P (join_rows n)
all_joins P zero each = tt
all_joins P (suc n) each = all_append P (join_rows n) (join_row n ∷ []) (all_joins P n (λ i l. each i (omega arith))) (each n (omega arith), tt)

below_is : (i n : ℕ) → i < suc n → i ≤ n
below_is i n l = omega arith

row_last : (n i : ℕ) → i ≡ n → slice_get (join_rows n ++ join_row n ∷ []) i ≡ Some (join_row i)
row_last n i same =
    ap (slice_get (join_rows n ++ join_row n ∷ [])) (same ∙ sym (length-join_rows n)) ∙ slice_get-last (join_rows n) (join_row n) ∙ ap (λ k. Some (join_row k)) (sym same)

row_before : (n i : ℕ) → i < n → slice_get (join_rows n) i ≡ Some (join_row i) → slice_get (join_rows n ++ join_row n ∷ []) i ≡ Some (join_row i)
row_before n i lower there = slice_get-append (join_rows n) (join_row n ∷ []) i (let all = length-join_rows n in omega (arith, all, lower)) ∙ there

-- each stands at its position
pub slice_get-join_rows : (n i : ℕ) → i < n → slice_get (join_rows n) i ≡ Some (join_row i)
slice_get-join_rows zero i below = absurd (omega arith)
slice_get-join_rows (suc n) i below =
    ⊎_elim (λ (same : i ≡ n). row_last n i same) (λ (lower : i < n). row_before n i lower (slice_get-join_rows n i lower)) (eq-or-lt_of_le (below_is i n below))

-- all were placed through the first seat
pub rows_of-join_rows : (n : ℕ) → rows_of (λ (r : Row). r.seat) 0 (join_rows n) ≡ join_rows n
rows_of-join_rows zero = refl
rows_of-join_rows (suc n) = rows_of-append (λ (r : Row). r.seat) 0 (join_rows n) (join_row n ∷ []) ∙ ap (λ l. l ++ join_row n ∷ []) (rows_of-join_rows n)

none_last : (n i : ℕ) → i ≡ n → pairs_by (suc i) (drop (suc i) (join_rows (suc n))) ≡ []
none_last n i same =
    ap (λ k. pairs_by (suc i) (drop k (join_rows (suc n)))) (ap suc same ∙ sym (length-join_rows (suc n))) ∙ ap (pairs_by (suc i)) (drop-length (join_rows (suc n)))

none_before : (n i : ℕ) → i < n → pairs_by (suc i) (drop (suc i) (join_rows n)) ≡ [] → pairs_by (suc i) (drop (suc i) (join_rows n ++ join_row n ∷ [])) ≡ []
none_before n i lower none =
    let all = length-join_rows n in
    let other : suc n ≢ suc i = λ e. omega (arith, e, lower) in
    ap (pairs_by (suc i)) (drop-append-le (suc i) (join_rows n) (join_row n ∷ []) (omega (arith, all, lower)))
    ∙ pairs_by-append (suc i) (drop (suc i) (join_rows n)) (join_row n ∷ [])
    ∙ ap (λ ps. ps ++ pairs_by (suc i) (join_row n ∷ [])) none
    ∙ pairs_by_none (suc i) (join_row n ∷ []) (other, tt)

-- behind a performer's own join are those of others
pub none_behind_join : (n i : ℕ) → i < n → pairs_by (suc i) (drop (suc i) (join_rows n)) ≡ []
none_behind_join zero i below = absurd (omega arith)
none_behind_join (suc n) i below =
    ⊎_elim (λ (same : i ≡ n). none_last n i same) (λ (lower : i < n). none_before n i lower (none_behind_join n i lower)) (eq-or-lt_of_le (below_is i n below))
