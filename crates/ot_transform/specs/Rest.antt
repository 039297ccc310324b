-- What is left of a list of parts.
use Rattle.std.specs.Prelude.{ℕ, ◌-◌, Bool, true, false, List, [], ◌∷◌}
use Rattle.ot_text.specs.declared.part.Part.{Part}
use Rattle.ot_text.specs.declared.part.Part.TheVariants.{Retain, Insert, Delete}
use Rattle.ot_text.specs.Change.{Change, retain_then, delete_then}

-- the parts, without the first `used` places of the first part
abbrev pub shortened : ℕ → List Part → List Part
shortened used [] = []
shortened used (Retain k ∷ parts) = Retain (k - used) ∷ parts
shortened used (Insert t ∷ parts) = Insert t ∷ parts
shortened used (Delete k ∷ parts) = Delete (k - used) ∷ parts

-- how many places the first part goes over: none if it is an insert, or if there is no part
abbrev pub first_span : List Part → ℕ
first_span [] = 0
first_span (Retain k ∷ parts) = k
first_span (Insert t ∷ parts) = 0
first_span (Delete k ∷ parts) = k

-- whether the first part keeps its places
abbrev pub first_keeps : List Part → Bool
first_keeps [] = false
first_keeps (Retain k ∷ parts) = true
first_keeps (Insert t ∷ parts) = false
first_keeps (Delete k ∷ parts) = false

-- the parts begin with no insert
abbrev pub HasNoTextFirst : List Part → Type 0
HasNoTextFirst [] = Unit {0}
HasNoTextFirst (Retain k ∷ parts) = Unit {0}
HasNoTextFirst (Insert t ∷ parts) = ⊥
HasNoTextFirst (Delete k ∷ parts) = Unit {0}

-- keeps or removes n places, and goes on with c
abbrev pub places_then : Bool → ℕ → Change → Change
places_then true n c = retain_then n c
places_then false n c = delete_then n c
