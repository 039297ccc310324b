-- Two operations in a row, as one.
use Rattle.std.specs.Prelude.{List, [], ◌∷◌, length, drop}
use Rattle.ot_text.specs.Change.{Fate, Gone, Kept, Change, plain, effect_on, nothing, insert_then, delete_then, fates_then}

-- the composition over places with the fates fs, where the second operation gives the fates gs to
-- what the first leaves of them: a place that the first removes is removed, one that it keeps has
-- the fate that the second gives it, and a text of the first is what the second makes of it
abbrev pub comp_on : List Fate → List Fate → Change
comp_on [] gs = nothing
comp_on (Gone ∷ fs) gs = delete_then 1 (comp_on fs gs)
comp_on (Kept t ∷ fs) [] = nothing
comp_on (Kept t ∷ fs) (g ∷ gs) =
    fates_then (g ∷ []) (insert_then (effect_on plain gs t) (comp_on fs (drop (length t) gs)))

-- the first operation, then the second, as one
abbrev pub comp : Change → Change → Change
comp a b =
    let rest = comp_on a.places (drop (length a.start) b.places) in
    insert_then b.start (insert_then (effect_on plain b.places a.start) rest)
