-- A performer's rows by their numbers and calls.
use Rattle.std.proofs.Common.{◌≡◌, ◌≢◌, ℕ, zero, suc, ◌+◌, ◌*◌, ◌<◌, ◌≤◌, eq-eqb, eqb-true, ne_eqb, Bool, true, false, if◌then◌else◌, List, [], ◌∷◌, ◌++◌, length, map, refl, sym, ap, ◌∙◌, suc-mul, zero-mul, arith}
use Rattle.std.specs.Prelude.{◌==◌}
use Rattle.seat_lock.specs.Lists.{AllOf, rows_of}
use Rattle.troop_entry.specs.declared.call.Call.{Call}
use Rattle.troop_entry.specs.declared.row.Row.{Row}
use Rattle.agreement.specs.Agreement.{pairs_by}
use Rattle.jam_run.specs.Playing.{row_pair}
use Rattle.jam_run.specs.Jams.{IsEditOfOne}

both_by : (b : Bool) (p : ℕ × Call) (xs ys : List (ℕ × Call)) → (if b then p ∷ (xs ++ ys) else xs ++ ys) ≡ (if b then p ∷ xs else xs) ++ ys
both_by true p xs ys = refl
both_by false p xs ys = refl

-- of two lists, one behind the other
pub pairs_by-append : (who : ℕ) (xs ys : List Row) → pairs_by who (xs ++ ys) ≡ pairs_by who xs ++ pairs_by who ys
pairs_by-append who [] ys = refl
pairs_by-append who (r ∷ xs) ys =
    ap (λ ps. if r.who == who then (r.num, r.call) ∷ ps else ps) (pairs_by-append who xs ys) ∙ both_by (r.who == who) (r.num, r.call) (pairs_by who xs) (pairs_by who ys)

-- of rows by others
pub pairs_by_none : (who : ℕ) (rs : List Row) → AllOf (λ (r : Row). r.who ≢ who) rs → pairs_by who rs ≡ []
pairs_by_none who [] h = refl
pairs_by_none who (r ∷ rs) h =
    ap (λ b. if b then (r.num, r.call) ∷ pairs_by who rs else pairs_by who rs) (ne_eqb r.who who h.0) ∙ pairs_by_none who rs h.1

-- a row is this performer's exactly where it was placed through the seat of this number
abbrev pub IsThrough : ℕ → ℕ → Row → Type 0
IsThrough who seat r = (r.seat ≡ seat → r.who ≡ who) × (r.who ≡ who → r.seat ≡ seat)

by_tests : (who seat : ℕ) (r : Row) (a b : Bool) (ps : List (ℕ × Call)) (rs : List Row) → (r.who == who) ≡ a → (r.seat == seat) ≡ b → IsThrough who seat r → ps ≡ map row_pair rs
    → (if a then (r.num, r.call) ∷ ps else ps) ≡ map row_pair (if b then r ∷ rs else rs)
by_tests who seat r true true ps rs e f h is = ap (λ qs. (r.num, r.call) ∷ qs) is
by_tests who seat r true false ps rs e f h is = let there : (r.seat == seat) ≡ true = eq-eqb r.seat seat (h.1 (eqb-true r.who who e)) in absurd (cc)
by_tests who seat r false true ps rs e f h is = let his : (r.who == who) ≡ true = eq-eqb r.who who (h.0 (eqb-true r.seat seat f)) in absurd (cc)
by_tests who seat r false false ps rs e f h is = is

-- of rows placed through one seat
pub pairs_by_seat : (who seat : ℕ) (rs : List Row) → AllOf (IsThrough who seat) rs → pairs_by who rs ≡ map row_pair (rows_of (λ (r : Row). r.seat) seat rs)
pairs_by_seat who seat [] h = refl
pairs_by_seat who seat (r ∷ rs) h =
    by_tests who seat r (r.who == who) (r.seat == seat) (pairs_by who rs) (rows_of (λ (x : Row). x.seat) seat rs) refl refl h.0 (pairs_by_seat who seat rs h.1)

-- ---- how many there are of all

-- the rows of performers 1 to n, counted one performer after the other
abbrev tally : ℕ → List Row → ℕ
tally zero rs = 0
tally (suc n) rs = tally n rs + length (pairs_by (suc n) rs)

none_tallied : (n : ℕ) → tally n [] ≡ 0
none_tallied zero = refl
none_tallied (suc n) = let r = none_tallied n in omega (arith, r)

one_counted : (who : ℕ) (r : Row) (rs : List Row) → r.who ≡ who → length (pairs_by who (r ∷ rs)) ≡ suc (length (pairs_by who rs))
one_counted who r rs e = ap (λ b. length (if b then (r.num, r.call) ∷ pairs_by who rs else pairs_by who rs)) (eq-eqb r.who who e)

other_counted : (who : ℕ) (r : Row) (rs : List Row) → r.who ≢ who → length (pairs_by who (r ∷ rs)) ≡ length (pairs_by who rs)
other_counted who r rs e = ap (λ b. length (if b then (r.num, r.call) ∷ pairs_by who rs else pairs_by who rs)) (ne_eqb r.who who e)

above_tallied : (n : ℕ) (r : Row) (rs : List Row) → n < r.who → tally n (r ∷ rs) ≡ tally n rs
above_tallied zero r rs above = refl
above_tallied (suc n) r rs above =
    let before = above_tallied n r rs (omega arith) in
    let this = other_counted (suc n) r rs (λ e. omega (arith, e)) in
    omega (arith, before, this)

within_tallied : (n : ℕ) (r : Row) (rs : List Row) (b : Bool) → (r.who == n) ≡ b → 1 ≤ r.who → r.who ≤ n → tally n (r ∷ rs) ≡ suc (tally n rs)
within_tallied zero r rs b e from to = absurd (omega arith)
within_tallied (suc n) r rs true e from to =
    let same : r.who ≡ suc n = eqb-true r.who (suc n) e in
    let before = above_tallied n r rs (omega (arith, same)) in
    let this = one_counted (suc n) r rs same in
    omega (arith, before, this)
within_tallied (suc n) r rs false e from to =
    let other : r.who ≢ suc n = λ same. let is : (r.who == suc n) ≡ true = eq-eqb r.who (suc n) same in absurd (cc) in
    let lower : r.who ≤ n = lower_of other in
    let before = within_tallied n r rs (r.who == n) refl from lower in
    let this = other_counted (suc n) r rs other in
    omega (arith, before, this)
  where
    lower_of : r.who ≢ suc n → r.who ≤ n
    lower_of other = omega (arith, other)

-- all rows are counted so
pub all_tallied : (n : ℕ) (rs : List Row) → AllOf (IsEditOfOne n) rs → tally n rs ≡ length rs
all_tallied n [] h = none_tallied n
all_tallied n (r ∷ rs) h =
    let one = within_tallied n r rs (r.who == n) refl h.0.from h.0.to in
    let before = all_tallied n rs h.1 in
    omega (arith, one, before)

each_tallied : (n c : ℕ) (rs : List Row) → ((who : ℕ) → 1 ≤ who → who ≤ n → length (pairs_by who rs) ≡ c) → tally n rs ≡ n * c
each_tallied zero c rs each = sym (zero-mul c)
each_tallied (suc n) c rs each =
    let before = each_tallied n c rs (λ who from to. each who from (omega arith)) in
    let this = each (suc n) (omega arith) (omega arith) in
    omega (arith, before, this, suc-mul n c)

-- so where each of n performers has c rows, and there are no others, there are n * c
pub count_of_all : (n c : ℕ) (rs : List Row) → AllOf (IsEditOfOne n) rs → ((who : ℕ) → 1 ≤ who → who ≤ n → length (pairs_by who rs) ≡ c) → length rs ≡ n * c
count_of_all n c rs every each = sym (all_tallied n rs every) ∙ each_tallied n c rs each
