-- What a move of the gap leaves.
use Rattle.std.proofs.Common.{◌≡◌, ℕ, zero, suc, ◌+◌, ◌-◌, ◌≤◌, List, [], ◌∷◌, ◌++◌, length, take, drop, sym, ap, ◌∙◌, append_assoc, length-drop, drop-drop, arith}
use Rattle.std.proofs.lemmas.List.{drop_at, drop-take, length-take-le}
use Rattle.std.proofs.lemmas.List.Edits.{drop-paste}
use lib.Seq.{paste}

-- the elements in front of the gap that come to lie behind it
pub moved_back : {X : Type 0} (xs : List X) (place start end to : ℕ) → place ≤ start → start ≤ end → end ≤ length xs → to + (start - place) ≡ end
    → drop to (paste xs to (drop place xs) (start - place)) ≡ drop place (take start xs) ++ drop end xs
moved_back xs place start end to h i j e =
    let count : place + (start - place) ≡ start = omega arith in
    let kept : length (take to xs) ≡ to = length-take-le to xs (omega arith) in
    let moved : take (start - place) (drop place xs) ≡ drop place (take start xs) =
    sym (drop-take place (start - place) xs) ∙ ap (λ n. drop place (take n xs)) count in
    ap (drop to) (append_assoc (take to xs) (take (start - place) (drop place xs)) (drop (to + (start - place)) xs))
    ∙ drop_at (take to xs) (take (start - place) (drop place xs) ++ drop (to + (start - place)) xs) to kept
    ∙ ap (λ front. front ++ drop (to + (start - place)) xs) moved
    ∙ ap (λ n. drop place (take start xs) ++ drop n xs) e

-- the elements behind the gap that stay so
pub moved_on : {X : Type 0} (xs : List X) (start end count : ℕ) → start ≤ end → end + count ≤ length xs
    → drop (end + count) (paste xs start (drop end xs) (end + count - end)) ≡ drop count (drop end xs)
moved_on xs start end count h i =
    let n : end + count - end ≡ count = omega arith in
    let all : start + count + (end - start) ≡ end + count = omega arith in
    let past = drop-paste xs start (drop end xs) count (omega arith) (omega (arith, length-drop end xs)) in
    rw n
    (ap (λ k. drop k (paste xs start (drop end xs) count)) (sym all)
    ∙ sym (drop-drop (end - start) (start + count) (paste xs start (drop end xs) count))
    ∙ ap (drop (end - start)) past
    ∙ drop-drop (end - start) (start + count) xs
    ∙ ap (λ k. drop k xs) all
    ∙ sym (drop-drop count end xs))

-- a front of two lists that has all of the first one
pub take_past : {X : Type 0} (xs ys : List X) (n count : ℕ) → length xs + count ≡ n → take n (xs ++ ys) ≡ xs ++ take count ys
take_past [] ys n count h = let e : n ≡ count = omega arith in ap (λ k. take k ys) e
take_past (x ∷ xs) ys zero count h = absurd (omega arith)
take_past (x ∷ xs) ys (suc n) count h = ap (λ rest. x ∷ rest) (take_past xs ys n count (omega arith))

-- what lies behind it
pub drop_past : {X : Type 0} (xs ys : List X) (n count : ℕ) → length xs + count ≡ n → drop n (xs ++ ys) ≡ drop count ys
drop_past [] ys n count h = let e : n ≡ count = omega arith in ap (λ k. drop k ys) e
drop_past (x ∷ xs) ys zero count h = absurd (omega arith)
drop_past (x ∷ xs) ys (suc n) count h = drop_past xs ys n count (omega arith)
