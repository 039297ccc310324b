-- The values of an array, one behind the other.
use Rattle.std.proofs.Common.{◌≡◌, ℕ, ◌+◌, ◌<◌, ◌≤◌, List, [], ◌∷◌, ◌++◌, map, take, get_or, length, sym, ap, ◌∙◌}
use Rattle.std.proofs.lemmas.List.{map_push, map_more, take_all}
use Rattle.serde_json.specs.Data.{Data}
use Rattle.serde_json.specs.View.{view, items_of}
use Rattle.serde_json.specs.declared.value.Value.{Value}

-- one value more
pub values_more : {A : Type 0} (datum : A → Data) (values : List Value) (v : Value) (xs : List A) (i : ℕ) (none x : A) → i < length xs → x ≡ get_or xs i none
    → map view values ≡ map datum (take i xs) → view v ≡ datum x → map view (values ++ v ∷ []) ≡ map datum (take (i + 1) xs)
values_more datum values v xs i none x within is so_far one =
    map_push view values v ∙ ap (λ l. l ++ view v ∷ []) so_far ∙ ap (λ d. map datum (take i xs) ++ d ∷ []) (one ∙ ap datum is) ∙ sym (map_more datum xs i none within)

-- all of them
pub values_all : {A : Type 0} (datum : A → Data) (values : List Value) (xs : List A) (i : ℕ) → length xs ≤ i → map view values ≡ map datum (take i xs) → items_of (map view values) ≡ items_of (map datum xs)
values_all datum values xs i over so_far = ap items_of (so_far ∙ ap (map datum) (take_all i xs over))
