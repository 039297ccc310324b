-- The merge of two operations on one base, gap by gap.
use Rattle.std.specs.Prelude.{ℕ, zero, suc, ◌&&◌, if◌then◌else◌, List, [], ◌++◌, length, map, take, drop}
use Rattle.ot_text.specs.Change.{Change, ins, keeps_place}

-- what f gives at i, at i + 1 and so on, n times
abbrev pub each_from : {X : Type 0} → (ℕ → List X) → ℕ → ℕ → List X
each_from f i zero = []
each_from f i (suc n) = f i ++ each_from f (suc i) n

-- what f gives at each gap of a base of n places: at gap 0, which lies in front of them, and so on
-- to gap n, which lies behind them
abbrev pub each_gap : {X : Type 0} → (ℕ → List X) → ℕ → List X
each_gap f n = each_from f 0 (suc n)

-- the element at place i, if there is one
abbrev pub at_place : {X : Type 0} → List X → ℕ → List X
at_place m i = take 1 (drop i m)

-- the merge at gap i: what the first operation puts in there, then what the second puts in there,
-- and then the element at place i, if there is one and both keep it; `new_a` and `new_b` make an
-- element of a character that the one or the other puts in
abbrev pub merge_at : {X : Type 0} → (ℕ → X) → Change → (ℕ → X) → Change → List X → ℕ → List X
merge_at new_a a new_b b m i =
    map new_a (ins a i)
    ++ (map new_b (ins b i) ++ (if keeps_place a i && keeps_place b i then at_place m i else []))

-- the merge of two operations on m
abbrev pub merge : {X : Type 0} → (ℕ → X) → Change → (ℕ → X) → Change → List X → List X
merge new_a a new_b b m = each_gap (merge_at new_a a new_b b m) (length m)
