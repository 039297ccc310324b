-- Whose characters a document has.
use Rattle.std.proofs.Common.{◌≡◌, ℕ, ◌≤◌, Option, None, Some, List, [], ◌∷◌, ◌++◌, map, slice_get, All, suc, refl}
use Rattle.std.proofs.lemmas.List.Elements.{All-nil, All-cons, All-head, All-tail, All-append}
use Rattle.ot_text.specs.Change.{Fate, Gone, Kept, Change, effect_on, effect}
use Rattle.ot_text.specs.Marked.{Marked, char_by}
use Rattle.troop_entry.specs.declared.row.Row.{Row}
use Rattle.log_model.specs.Log.{join_count, doc_after, doc_from, doc}
use Rattle.log_model.specs.Legal.{IsLegal}
use Rattle.log_model.proofs.IsMember.{row_number}

all_new : {X : Type 0} (P : X → Type 0) (new : ℕ → X) → ((k : ℕ) → P (new k)) → (text : List ℕ) → All P (map new text)
all_new P new each [] = All-nil P
all_new P new each (k ∷ text) = All-cons P (new k) (map new text) (each k) (all_new P new each text)

all_effect_on : {X : Type 0} (P : X → Type 0) (new : ℕ → X) → ((k : ℕ) → P (new k)) → (fates : List Fate) (m : List X) → All P m → All P (effect_on new fates m)
all_effect_on P new each [] m all = All-nil P
all_effect_on P new each (f ∷ fates) [] all = All-nil P
all_effect_on P new each (Gone ∷ fates) (x ∷ m) all = all_effect_on P new each fates m (All-tail P x m all)
all_effect_on P new each (Kept t ∷ fates) (x ∷ m) all =
    All-cons P x (map new t ++ effect_on new fates m) (All-head P x m all)
    (All-append P (map new t) (effect_on new fates m) (all_new P new each t) (all_effect_on P new each fates m (All-tail P x m all)))

-- what holds of each element and of each new one holds behind an operation
all_effect : {X : Type 0} (P : X → Type 0) (new : ℕ → X) → ((k : ℕ) → P (new k)) → (c : Change) (m : List X) → All P m → All P (effect new c m)
all_effect P new each c m all = All-append P (map new c.start) (effect_on new c.places m) (all_new P new each c.start) (all_effect_on P new each c.places m all)

abbrev pub IsBy : (ℕ → Type 0) → ℕ × ℕ → Type 0
IsBy Q pair = Q pair.1

all_after : (Q : ℕ → Type 0) (who : ℕ) → Q who → (o : Option Change) (m : Marked) → All (IsBy Q) m → All (IsBy Q) (doc_after who o m)
all_after Q who is None m all = all
all_after Q who is (Some c) m all = all_effect (IsBy Q) (char_by who) (λ k. is) c m all

all_from : (Q : ℕ → Type 0) (rows : List Row) (m : Marked) → ((i : ℕ) (row : Row) → slice_get rows i ≡ Some row → Q row.who) → All (IsBy Q) m → All (IsBy Q) (doc_from m rows)
all_from Q [] m each all = all
all_from Q (row ∷ rows) m each all =
    all_from Q rows (doc_after row.who row.op m) (λ i next e. each (suc i) next e) (all_after Q row.who (each 0 row refl) row.op m all)

-- each character of a document is by a performer who has joined
pub marks_joined : (log : List Row) → IsLegal log → All (λ pair. (1 ≤ pair.1) × (pair.1 ≤ join_count log)) (doc log)
marks_joined log legal =
    let Q : ℕ → Type 0 = λ who. (1 ≤ who) × (who ≤ join_count log) in
    all_from Q log [] (λ i row e. row_number log i row legal e) (All-nil (IsBy Q))
