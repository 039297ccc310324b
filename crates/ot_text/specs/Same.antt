-- Whether two operations are equal, as a test.
use Rattle.std.specs.Prelude.{ℕ, Bool, true, false, ◌&&◌, ◌==◌, List}
use Rattle.std.specs.Cmp.Lexicographic.{pointwise}
use Rattle.ot_text.specs.Change.{Change, Fate, Gone, Kept}

-- whether the texts have the same characters
abbrev pub same_text : List ℕ → List ℕ → Bool
same_text a b = pointwise (λ x y. x == y) a b

-- whether a place has the same fate
abbrev pub same_fate : Fate → Fate → Bool
same_fate Gone Gone = true
same_fate Gone (Kept u) = false
same_fate (Kept t) Gone = false
same_fate (Kept t) (Kept u) = same_text t u

-- whether the operations do the same
abbrev pub same_op : Change → Change → Bool
same_op a b = same_text a.start b.start && pointwise same_fate a.places b.places
