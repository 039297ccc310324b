-- Gap after gap, from the front.
use Rattle.std.proofs.Common.{◌≡◌, ℕ, zero, suc, ◌+◌, if◌then◌else◌, List, ◌∷◌, ◌++◌, length, refl, sym, ap, ◌∙◌, append_assoc, arith}
use Rattle.ot_text.specs.Change.{Fate, Change, stays, text_behind, Old, places_from}
use Rattle.ot_transform.specs.Merge.{each_from}
use Rattle.ot_transform.specs.Transform.{gap_place}

-- an operation by its text at the start and its fates
abbrev pub change : List ℕ → List Fate → Change
change s fs = record { start = s; places = fs }

-- 1 for a place that stays
abbrev pub one_if_stays : Fate → ℕ
one_if_stays f = if stays f then 1 else 0

-- gap after gap from the next one on
pub each_from-suc : {X : Type 0} (f : ℕ → List X) (i n : ℕ) → each_from f (suc i) n ≡ each_from (λ k. f (suc k)) i n
each_from-suc f i zero = refl
each_from-suc f i (suc n) = ap (λ rest. f (suc i) ++ rest) (each_from-suc f (suc i) n)

-- gaps at which two functions agree
pub each_from-unchanged : {X : Type 0} (f g : ℕ → List X) → ((k : ℕ) → f k ≡ g k) → (i n : ℕ)
    → each_from f i n ≡ each_from g i n
each_from-unchanged f g same i zero = refl
each_from-unchanged f g same i (suc n) =
    ap (λ here. here ++ each_from f (suc i) n) (same i) ∙ ap (λ rest. g i ++ rest) (each_from-unchanged f g same (suc i) n)

-- three lists in front of a fourth
pub append_of_three : {X : Type 0} (xs ys zs rest : List X) → (xs ++ (ys ++ zs)) ++ rest ≡ xs ++ (ys ++ (zs ++ rest))
append_of_three xs ys zs rest = append_assoc xs (ys ++ zs) rest ∙ ap (λ more. xs ++ more) (append_assoc ys zs rest)

-- behind the first place, all gaps lie further on by what stands up to there
pub gap_place-cons : (t : List ℕ) (g : Fate) (gs : List Fate) (i : ℕ)
    → gap_place (change t (g ∷ gs)) (suc i) ≡ length t + one_if_stays g + gap_place (change (text_behind g) gs) i
gap_place-cons t g gs zero = omega arith
gap_place-cons t g gs (suc i) = omega (arith, gap_place-cons t g gs i)

-- how many places there are
pub length-places_from : (i n : ℕ) → length (places_from i n) ≡ n
length-places_from i zero = refl
length-places_from i (suc n) = ap suc (length-places_from (suc i) n)

-- places in two parts
pub places_from-add : (j n k : ℕ) → places_from j (n + k) ≡ places_from j n ++ places_from (j + n) k
places_from-add j zero k =
    let e : 0 + k ≡ k = omega arith in
    let d : j + 0 ≡ j = omega arith in
    ap (places_from j) e ∙ sym (ap (λ i. places_from i k) d)
places_from-add j (suc n) k =
    let e : suc n + k ≡ suc (n + k) = omega arith in
    let d : suc j + n ≡ j + suc n = omega arith in
    ap (places_from j) e
    ∙ ap (λ rest. Old j ∷ rest) (places_from-add (suc j) n k ∙ ap (λ i. places_from (suc j) n ++ places_from i k) d)
