-- Lists with a gap of spare room in them.
use Rattle.std.specs.Prelude.{ℕ, List, ◌++◌, refl}
use Rattle.std.specs.Coded.{Coded, code_by, coded×, coded_ℕ, coded_list}

-- the elements in front of the gap, those behind it, and how many more the gap takes
pub record Gapped (T : Type 0) : Type 0 where
  pub front : List T
  pub behind : List T
  pub spare : ℕ

-- all the elements
abbrev pub whole_list : {T : Type 0} → Gapped T → List T
whole_list g = g.front ++ g.behind

-- it is stored as its fields
abbrev pub gapped_code : {T : Type 0} → Coded T → Coded (Gapped T)
gapped_code {T} code =
    code_by (List T × (List T × ℕ)) (coded× (coded_list code) (coded× (coded_list code) coded_ℕ)) (λ g. (g.front, (g.behind, g.spare)))
    (λ p. record { front = p.0; behind = p.1.0; spare = p.1.1 }) (λ _. refl)
