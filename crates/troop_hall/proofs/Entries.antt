-- The entries from a position on.
use Rattle.std.proofs.Common.{◌≡◌, ℕ, suc, ◌-◌, ◌<◌, List, [], ◌∷◌, length, take, drop, min, refl, sym, ap, ◌∙◌, arith}
use Rattle.std.proofs.lemmas.List.{drop_min, take_all, length-drop}
use Rattle.troop_entry.specs.declared.row.Row.{Row}
use Rattle.log_model.specs.Log.{entries_from, entries}

length-entries_from : (at : ℕ) (rows : List Row) → length (entries_from at rows) ≡ length rows
length-entries_from at [] = refl
length-entries_from at (row ∷ rows) = ap suc (length-entries_from (suc at) rows)

-- there is an entry for each row
pub length-entries : (rows : List Row) → length (entries rows) ≡ length rows
length-entries rows = length-entries_from 0 rows

-- a list from a position, or from its end where that is lower, up to its end
pub rest_of : {A : Type 0} (xs : List A) (start end : ℕ) → length xs ≡ end → take (end - min start end) (drop (min start end) xs) ≡ drop start xs
rest_of xs start end e =
    let all = take_all (end - min start end) (drop (min start end) xs) (let l = length-drop (min start end) xs in omega (arith, l, e)) in
    all ∙ (ap (λ n. drop (min start n) xs) (sym e) ∙ drop_min start xs)

-- from a position below the number of rows there is an entry
pub some_entry : (rows : List Row) (start : ℕ) → start < length rows → 0 < length (drop start (entries rows))
some_entry rows start below = let cut = length-drop start (entries rows) in let all = length-entries rows in omega (arith, cut, all)
