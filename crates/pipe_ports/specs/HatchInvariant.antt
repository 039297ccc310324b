-- What a hatch in memory keeps.
use Rattle.std.specs.Prelude.{◌≡◌, ℕ, ◌+◌, ◌≤◌, List, [], map, Option, None, Some, Vec}
use Rattle.std.specs.declared.alloc.Global.{Global}

-- the bytes of each buried child
abbrev pub byte_lists : List (Vec ℕ Global) → List (List ℕ)
byte_lists past = map (λ (v : Vec ℕ Global). v.items) past

-- how many graves the next child needs: one where memory for its bytes was taken
abbrev pub next_grave : Option (Vec ℕ Global) → ℕ
next_grave None = 0
next_grave (Some taken) = 1

-- the memory for the bytes of the next child is empty
abbrev pub IsBlank : Option (Vec ℕ Global) → Type 0
IsBlank None = Unit {0}
IsBlank (Some taken) = taken.items ≡ []

-- there is a place for each child buried and started, and for the next one if the hatch is ready for it
pub record IsHatch (count capacity graves : ℕ) (prepared : Option (Vec ℕ Global)) : Type 0 where
  pub fits : count + graves + next_grave prepared ≤ capacity
  pub blank : IsBlank prepared
