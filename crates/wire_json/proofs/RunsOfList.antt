-- The runs of a snapshot, one after another.
use Rattle.std.proofs.Common.{◌≡◌, ℕ, List, [], ◌∷◌, ◌++◌, map, Option, Some, None, option_map, refl, sym, ap, ◌∙◌, append_assoc, append-nil}
use Rattle.std.specs.Prelude.{option_and_then}
use Rattle.std.proofs.lemmas.List.{map_push}
use Rattle.serde_json.specs.Data.{Data}
use Rattle.author_marks.specs.declared.run.Run.{Run}
use Rattle.wire_json.specs.Building.{pair_of}
use Rattle.wire_json.specs.Snapshots.{run_value, runs_of_list}

-- these runs in front of others
abbrev pub in_front : List (ℕ × ℕ) → Option (List (ℕ × ℕ)) → Option (List (ℕ × ℕ))
in_front done runs = option_map (λ rs. done ++ rs) runs

-- no run is in front
pub none_in_front : (o : Option (List (ℕ × ℕ))) → o ≡ in_front [] o
none_in_front None = refl
none_in_front (Some runs) = refl

one_in_front : (done : List (ℕ × ℕ)) (run : ℕ × ℕ) (o : Option (List (ℕ × ℕ))) → in_front done (option_map (λ rs. run ∷ rs) o) ≡ in_front (done ++ run ∷ []) o
one_in_front done run None = refl
one_in_front done run (Some rs) = ap Some (sym (append_assoc done (run ∷ []) rs))

-- the first of the rest is a run
pub run_more : (all rest : List Data) (d : Data) (ds : List Data) (runs runs' : List Run) (run : Run) → runs_of_list all ≡ in_front (map pair_of runs) (runs_of_list rest) → rest ≡ d ∷ ds → Some (pair_of run) ≡ run_value d
    → runs' ≡ runs ++ run ∷ [] → runs_of_list all ≡ in_front (map pair_of runs') (runs_of_list ds)
run_more all rest d ds runs runs' run so_far split is_run next =
    so_far ∙ ap (λ r. in_front (map pair_of runs) (runs_of_list r)) split
    ∙ ap (λ o. in_front (map pair_of runs) (option_and_then (λ run. option_map (λ rs. run ∷ rs) (runs_of_list ds)) o)) (sym is_run)
    ∙ one_in_front (map pair_of runs) (pair_of run) (runs_of_list ds)
    ∙ ap (λ rs. in_front rs (runs_of_list ds)) (sym (ap (map pair_of) next ∙ map_push pair_of runs run))

-- the first of the rest is none
pub run_none : (all rest : List Data) (d : Data) (ds : List Data) (runs : List (ℕ × ℕ)) → runs_of_list all ≡ in_front runs (runs_of_list rest) → rest ≡ d ∷ ds → None ≡ run_value d → None ≡ runs_of_list all
run_none all rest d ds runs so_far split is_none =
    sym (so_far ∙ ap (λ r. in_front runs (runs_of_list r)) split ∙ ap (λ o. in_front runs (option_and_then (λ run. option_map (λ rs. run ∷ rs) (runs_of_list ds)) o)) (sym is_none))

-- none are left
pub runs_all : (all rest : List Data) (runs : List (ℕ × ℕ)) → runs_of_list all ≡ in_front runs (runs_of_list rest) → rest ≡ [] → Some runs ≡ runs_of_list all
runs_all all rest runs so_far none = sym (so_far ∙ ap (λ r. in_front runs (runs_of_list r)) none ∙ ap Some (append-nil runs))
