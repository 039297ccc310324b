-- An operation, part by part.
use Rattle.std.specs.Prelude.{ℕ, ◌+◌, List, [], ◌++◌, map, take, drop}
use Rattle.ot_text.specs.declared.part.Part.{Part}
use Rattle.ot_text.specs.declared.part.Part.TheVariants.{Retain, Insert, Delete}
use Rattle.ot_text.specs.Parts.{part_base}

-- what the part makes of the elements from its place on; `new` makes an element of a new character
abbrev pub piece_of : {X : Type 0} → (ℕ → X) → Part → List X → List X
piece_of new (Retain k) m = take k m
piece_of new (Insert t) m = map new t
piece_of new (Delete k) m = []

-- the elements once the part is done at the place: what the part makes of those from the place on stands in their stead
abbrev pub list_after_part : {X : Type 0} → (ℕ → X) → Part → ℕ → List X → List X
list_after_part new part place m = take place m ++ (piece_of new part (drop place m) ++ drop (place + part_base part) m)
