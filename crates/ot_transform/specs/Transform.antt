-- Two operations on one base, each moved through the other.
use Rattle.std.specs.Prelude.{ℕ, zero, suc, ◌+◌, ◌&&◌, if◌then◌else◌, List, [], ◌∷◌, ◌++◌, length, map}
use Rattle.ot_text.specs.Change.{Fate, Gone, Kept, Change, Item, Old, New, places_from, ins, keeps_place, base, text_behind, nothing, insert_then, retain_then, delete_then}
use Rattle.ot_transform.specs.Merge.{each_gap}

-- what an operation does to one place, seen from behind the other one: nothing if the other
-- removed the place, and else it removes or keeps it; then it goes on with c
abbrev pub place_then : Fate → Fate → Change → Change
place_then f Gone c = c
place_then Gone (Kept t) c = delete_then 1 c
place_then (Kept s) (Kept t) c = retain_then 1 c

-- a gap of the first operation moved through the second: it puts its own text in, keeps the
-- second one's, and goes on with c
abbrev pub left_gap_then : List ℕ → List ℕ → Change → Change
left_gap_then s t c = insert_then s (retain_then (length t) c)

-- the first operation moved through the second, over places with these fates
abbrev pub left_on : List Fate → List Fate → Change
left_on [] gs = nothing
left_on (f ∷ fs) [] = nothing
left_on (f ∷ fs) (g ∷ gs) =
    place_then f g (left_gap_then (text_behind f) (text_behind g) (left_on fs gs))

-- the first operation, moved through the second
abbrev pub left : Change → Change → Change
left a b = left_gap_then a.start b.start (left_on a.places b.places)

-- a gap of the second operation moved through the first: it keeps the first one's text, puts its
-- own in, and goes on with c
abbrev pub right_gap_then : List ℕ → List ℕ → Change → Change
right_gap_then s t c = retain_then (length s) (insert_then t c)

-- the second operation moved through the first, over places with these fates
abbrev pub right_on : List Fate → List Fate → Change
right_on [] fs = nothing
right_on (g ∷ gs) [] = nothing
right_on (g ∷ gs) (f ∷ fs) =
    place_then g f (right_gap_then (text_behind f) (text_behind g) (right_on gs fs))

-- the second operation, moved through the first
abbrev pub right : Change → Change → Change
right b a = right_gap_then a.start b.start (right_on b.places a.places)

-- how many characters the target has in front of what stands at gap i
abbrev pub gap_place : Change → ℕ → ℕ
gap_place c zero = 0
gap_place c (suc i) = gap_place c i + length (ins c i) + (if keeps_place c i then 1 else 0)

-- what stands in the target at gap i: the characters that are put in there, and then place i, if it is kept
abbrev pub image_at : Change → ℕ → List Item
image_at c i = map New (ins c i) ++ (if keeps_place c i then Old i ∷ [] else [])

-- the places that the text of gap i has in the target
abbrev pub ins_places : Change → ℕ → List Item
ins_places c i = places_from (gap_place c i) (length (ins c i))

-- the place that place i of the base has in the target, if it is kept
abbrev pub kept_place : Change → ℕ → Item
kept_place c i = Old (gap_place c i + length (ins c i))

-- the image of `left` at gap i: the first one's new characters; the places that the second one's
-- text has in the second one's target; and the place that place i has there, if both keep it
abbrev pub left_at : Change → Change → ℕ → List Item
left_at a b i =
    map New (ins a i)
    ++ (ins_places b i ++ (if keeps_place a i && keeps_place b i then kept_place b i ∷ [] else []))

-- the image of `left`
abbrev pub left_image : Change → Change → List Item
left_image a b = each_gap (left_at a b) (base a)

-- the image of `right` at gap i: the places that the first one's text has in the first one's
-- target; the second one's new characters; and the place that place i has there, if both keep it
abbrev pub right_at : Change → Change → ℕ → List Item
right_at b a i =
    ins_places a i
    ++ (map New (ins b i) ++ (if keeps_place b i && keeps_place a i then kept_place a i ∷ [] else []))

-- the image of `right`
abbrev pub right_image : Change → Change → List Item
right_image b a = each_gap (right_at b a) (base a)
