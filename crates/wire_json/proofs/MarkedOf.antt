-- The document of a snapshot, run by run.
use Rattle.std.proofs.Common.{◌≡◌, ℕ, ◌+◌, ◌<◌, ◌≤◌, List, [], ◌∷◌, ◌++◌, length, map, take, drop, get_or, add-one, replicate, Option, Some, None, option_map, inl, inr, refl, sym, ap, ap₂, ◌∙◌, append_assoc, append-nil, arith}
use Rattle.std.specs.Prelude.{zip, sum_by}
use Rattle.std.proofs.lemmas.Bool.{cases_eq, eq-eqb, ne_eqb}
use Rattle.std.proofs.lemmas.List.{take-append-drop, length-take-le, length-drop}
use Rattle.std.proofs.lemmas.List.Sums.{sum_by-cons}
use Rattle.ot_text.specs.Change.{Change, base, target, effect, then, nothing, insert_then, retain_then}
use Rattle.ot_text.specs.Marked.{Marked, char_by}
use Rattle.ot_text.proofs.Then.{then-retain_then, base-retain_then, target-retain_then}
use Rattle.ot_text.proofs.EffectOf.{effect-insert_then, effect-retain_all}
use Rattle.std.proofs.Math.Seq.{drop-cons}
use Rattle.author_marks.specs.declared.run.Run.{Run}
use Rattle.author_marks.specs.Runs.{marks_of_runs}
use Rattle.wire_json.specs.Building.{pair_of}
use Rattle.wire_json.specs.Snapshots.{marked_of}

-- a document, and what comes behind it
abbrev pub joined : Marked → Option Marked → Option Marked
joined m behind = option_map (λ n. m ++ n) behind

-- nothing comes in front
pub joined_nothing : (o : Option Marked) → o ≡ joined [] o
joined_nothing None = refl
joined_nothing (Some m) = refl

joined_more : (m n : Marked) (o : Option Marked) → joined m (joined n o) ≡ joined (m ++ n) o
joined_more m n None = refl
joined_more m n (Some l) = ap Some (sym (append_assoc m n l))

zip_marked : (who : ℕ) (s t marks : List ℕ) → zip (s ++ t) (replicate (length s) who ++ marks) ≡ map (char_by who) s ++ zip t marks
zip_marked who [] t marks = refl
zip_marked who (c ∷ s) t marks = ap (λ rest. (c, who) ∷ rest) (zip_marked who s t marks)

zip_front : (who count : ℕ) (text marks : List ℕ) → count ≤ length text → zip text (replicate count who ++ marks) ≡ map (char_by who) (take count text) ++ zip (drop count text) marks
zip_front who count text marks within =
    ap₂ (λ t n. zip t (replicate n who ++ marks)) (sym (take-append-drop count text)) (sym (length-take-le count text within))
    ∙ zip_marked who (take count text) (drop count text) marks

counts_cons : (who count : ℕ) (runs : List (ℕ × ℕ)) → sum_by (λ run. run.1) ((who, count) ∷ runs) ≡ count + sum_by (λ run. run.1) runs
counts_cons who count runs = sum_by-cons (λ run. run.1) (who, count) runs

-- the first of the runs, and those behind it
pub marked_of_more : (who count : ℕ) (runs : List (ℕ × ℕ)) (text : List ℕ) → count ≤ length text
    → marked_of ((who, count) ∷ runs) text ≡ joined (map (char_by who) (take count text)) (marked_of runs (drop count text))
marked_of_more who count runs text within =
    let sum = counts_cons who count runs in
    let rest = length-drop count text in
    elim (cases_eq (sum_by (λ run. run.1) runs) (length (drop count text))) [
      | inl same ↦ rw (eq-eqb _ _ same, eq-eqb (sum_by (λ run. run.1) ((who, count) ∷ runs)) (length text) (omega (arith, sum, rest, same, within))) (ap Some (zip_front who count text (marks_of_runs runs) within))
      | inr other ↦ rw (ne_eqb _ _ other, ne_eqb (sum_by (λ run. run.1) ((who, count) ∷ runs)) (length text) (λ e. other (omega (arith, sum, rest, e, within)))) refl
    ]

-- a run of more characters than there are
pub marked_of_over : (who count : ℕ) (runs : List (ℕ × ℕ)) (text : List ℕ) → length text < count → marked_of ((who, count) ∷ runs) text ≡ None
marked_of_over who count runs text over = rw (ne_eqb (sum_by (λ run. run.1) ((who, count) ∷ runs)) (length text) (λ e. omega (arith, counts_cons who count runs, e, over))) refl

-- one more run
pub joined_run : (all : Option Marked) (m m' : Marked) (who count : ℕ) (runs : List (ℕ × ℕ)) (text : List ℕ) → all ≡ joined m (marked_of ((who, count) ∷ runs) text) → count ≤ length text
    → m' ≡ m ++ map (char_by who) (take count text) → all ≡ joined m' (marked_of runs (drop count text))
joined_run all m m' who count runs text is within next =
    is ∙ ap (joined m) (marked_of_more who count runs text within) ∙ joined_more m _ _ ∙ ap (λ n. joined n (marked_of runs (drop count text))) (sym next)

-- what is put behind a document
abbrev pub behind : ℕ → List ℕ → Change
behind n text = then (then nothing (retain_then n nothing)) (insert_then text nothing)

behind_is : (n : ℕ) (text : List ℕ) → behind n text ≡ retain_then n (insert_then text nothing)
behind_is n text = then-retain_then n nothing (insert_then text nothing)

-- it applies to a text of that length
pub base-behind : (n : ℕ) (text : List ℕ) → base (behind n text) ≡ n
base-behind n text = ap base (behind_is n text) ∙ omega (arith, base-retain_then n (insert_then text nothing))

-- its effect
pub effect-behind : (who n : ℕ) (text : List ℕ) (m : Marked) → n ≡ length m → effect (char_by who) (behind n text) m ≡ m ++ map (char_by who) text
effect-behind who n text m is =
    ap₂ (effect (char_by who)) (behind_is n text ∙ ap (λ k. retain_then k (insert_then text nothing)) is) (sym (append-nil m))
    ∙ effect-retain_all (char_by who) (insert_then text nothing) m []
    ∙ ap (λ l. m ++ l) (effect-insert_then (char_by who) text nothing [] ∙ append-nil _)

-- the operation that was built in two steps
pub built : (op b2 b1 b0 : Change) (n : ℕ) (text : List ℕ) → b0 ≡ nothing → b1 ≡ then b0 (retain_then n nothing) → b2 ≡ then b1 (insert_then text nothing) → op ≡ b2 → op ≡ behind n text
built op b2 b1 b0 n text is0 is1 is2 is = is ∙ is2 ∙ ap (λ b. then b (insert_then text nothing)) (is1 ∙ ap (λ b. then b (retain_then n nothing)) is0)

-- the target of its first step
pub target-retained : (b1 b0 : Change) (n : ℕ) → b0 ≡ nothing → b1 ≡ then b0 (retain_then n nothing) → target b1 ≡ n
target-retained b1 b0 n is0 is1 = ap target (is1 ∙ ap (λ b. then b (retain_then n nothing)) is0) ∙ omega (arith, target-retain_then n nothing)

split_runs : (runs : List Run) (i : ℕ) (none : Run) → i < length runs → map pair_of (drop i runs) ≡ pair_of (get_or runs i none) ∷ map pair_of (drop (i + 1) runs)
split_runs runs i none within = ap (map pair_of) (drop-cons runs i none within ∙ ap (λ k. get_or runs i none ∷ drop k runs) (sym (add-one i)))

-- run i is done
pub run_done : (all : Option Marked) (runs : List Run) (i : ℕ) (none : Run) (m m' : Marked) (rest front back : List ℕ) → all ≡ joined m (marked_of (map pair_of (drop i runs)) rest) → i < length runs
    → (get_or runs i none).count ≤ length rest → m' ≡ m ++ map (char_by (get_or runs i none).who) front → front ≡ take (get_or runs i none).count rest → back ≡ drop (get_or runs i none).count rest
    → all ≡ joined m' (marked_of (map pair_of (drop (i + 1) runs)) back)
run_done all runs i none m m' rest front back so_far within fits next is_front is_back =
    joined_run all m m' (get_or runs i none).who (get_or runs i none).count (map pair_of (drop (i + 1) runs)) rest
    (so_far ∙ ap (λ rs. joined m (marked_of rs rest)) (split_runs runs i none within)) fits (next ∙ ap (λ t. m ++ map (char_by (get_or runs i none).who) t) is_front)
    ∙ ap (λ t. joined m' (marked_of (map pair_of (drop (i + 1) runs)) t)) (sym is_back)

-- what remains is no longer
pub shorter : (n bound : ℕ) (rest back : List ℕ) → back ≡ drop n rest → length rest < bound → length back < bound
shorter n bound rest back is short = omega (arith, ap length is, length-drop n rest, short)
