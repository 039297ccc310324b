-- A printed snapshot is read back.
use Rattle.std.proofs.Common.{◌≡◌, ℕ, zero, suc, ◌≤◌, List, [], ◌∷◌, length, map, replicate, refl, sym, ap, ◌∙◌, le-leb, arith}
use Rattle.std.specs.Prelude.{All, Some, option_and_then, option_map, zip, sum_by}
use Rattle.std.proofs.lemmas.Bool.{eq-eqb}
use Rattle.std.proofs.lemmas.List.{length-append, length-replicate, length-map}
use Rattle.std.proofs.lemmas.List.Elements.{All-head, All-tail}
use Rattle.std.proofs.lemmas.List.Sums.{sum_by-cons}
use Rattle.std.proofs.lemmas.Str.{chars-encodes}
use Rattle.json.proofs.Printed.Utf8.{IsUtf8-are_ascii}
use Rattle.serde_json.specs.Data.{depth, items_depth}
use Rattle.serde_json.specs.Read.{max_depth}
use Rattle.serde_json.specs.View.{items_of}
use Rattle.ot_text.specs.Marked.{Marked, text_of, marks_of, runs_of}
use Rattle.author_marks.specs.Runs.{run_of, marks_of_runs}
use Rattle.author_marks.proofs.RunsOf.{runs_of-are}
use Rattle.wire_json.specs.Snapshots.{runs_of_list, marked_of, marked_field, snapshot_of_data, snapshot_of_line}
use Rattle.wire_print.specs.Printed.{printed_text, run_data, snapshot_data}
use Rattle.wire_print.specs.Within.{IsCount, IsWho, IsSpelled, DocIsSpelled, SnapshotIsWithin}
use Rattle.wire_print.proofs.IsSound.{IsSound, ItemsAreSound}
use Rattle.wire_print.proofs.OpOf.{elements-items_of, text_sound}
use Rattle.wire_print.proofs.PrintedText.{value_of_printed, count_back, performer_back}

abbrev Runs : Type 0
Runs = List (ℕ × ℕ)

-- the counts of runs are not 0
abbrev HaveCounts : Runs → Type 0
HaveCounts runs = All (λ run. 1 ≤ run.1) runs

-- their numbers are performers'
abbrev HaveNumbers : Runs → Type 0
HaveNumbers runs = All (λ run. IsWho run.0) runs

-- they are within the limits
abbrev AreWithin : Runs → Type 0
AreWithin runs = All (λ run. (1 ≤ run.0) × IsCount run.1) runs

runs_back : (runs : Runs) → HaveCounts runs → HaveNumbers runs → AreWithin runs → runs_of_list (map run_data (map run_of runs)) ≡ Some runs
runs_back [] counts numbers within = refl
runs_back ((who, count) ∷ runs) counts numbers within =
    let first = All-head (λ run. (1 ≤ run.0) × IsCount run.1) (who, count) runs within in
    rw (
      performer_back who first.0 (All-head (λ run. IsWho run.0) (who, count) runs numbers),
      count_back count first.1,
      le-leb _ _ (All-head (λ run. 1 ≤ run.1) (who, count) runs counts),
      runs_back runs (All-tail (λ run. 1 ≤ run.1) (who, count) runs counts) (All-tail (λ run. IsWho run.0) (who, count) runs numbers) (All-tail (λ run. (1 ≤ run.0) × IsCount run.1) (who, count) runs within),
    )

length-marks : (runs : Runs) → length (marks_of_runs runs) ≡ sum_by (λ run. run.1) runs
length-marks [] = refl
length-marks ((who, count) ∷ runs) =
    omega (arith, length-append (replicate count who) (marks_of_runs runs), length-replicate count who, length-marks runs, sum_by-cons (λ (run : ℕ × ℕ). run.1) (who, count) runs)

zip_own : (m : Marked) → zip (text_of m) (marks_of m) ≡ m
zip_own [] = refl
zip_own (pair ∷ m) = ap (λ rest. pair ∷ rest) (zip_own m)

marked_back : (m : Marked) → marked_of (runs_of (marks_of m)) (text_of m) ≡ Some m
marked_back m =
    let whole = (runs_of-are (marks_of m)).whole in
    let count : sum_by (λ run. run.1) (runs_of (marks_of m)) ≡ length (text_of m) =
    sym (length-marks (runs_of (marks_of m))) ∙ ap length whole ∙ length-map m (λ pair. pair.1) ∙ sym (length-map m (λ pair. pair.0)) in
    rw (eq-eqb _ _ count) (ap Some (ap (zip (text_of m)) whole ∙ zip_own m))

field_back : (at : ℕ) (m : Marked) → DocIsSpelled m → SnapshotIsWithin at m → marked_field (snapshot_data at m) ≡ Some m
field_back at m spelled fits =
    rw (elements-items_of (map run_data (map run_of (runs_of (marks_of m)))), runs_back (runs_of (marks_of m)) (runs_of-are (marks_of m)).counts spelled.marks fits.runs, chars-encodes (text_of m) spelled.text) (marked_back m)

snapshot_data_back : (at : ℕ) (m : Marked) → DocIsSpelled m → SnapshotIsWithin at m → snapshot_of_data (snapshot_data at m) ≡ Some (at, m)
snapshot_data_back at m spelled fits =
    ap (λ o. option_and_then (λ n. option_map (λ d. (n, d)) (marked_field (snapshot_data at m))) o) (count_back at fits.at_most)
    ∙ ap (λ o. option_map (λ d. (at, d)) o) (field_back at m spelled fits)

runs_sound : (runs : Runs) → HaveNumbers runs → AreWithin runs → ItemsAreSound (items_of (map run_data (map run_of runs)))
runs_sound [] numbers within = tt
runs_sound ((who, count) ∷ runs) numbers within =
    let one : IsWho who = All-head (λ run. IsWho run.0) (who, count) runs numbers in
    let fits : IsCount count = (All-head (λ run. (1 ≤ run.0) × IsCount run.1) (who, count) runs within).1 in
    ((omega (arith, one), (omega (arith, fits), tt)), runs_sound runs (All-tail (λ run. IsWho run.0) (who, count) runs numbers) (All-tail (λ run. (1 ≤ run.0) × IsCount run.1) (who, count) runs within))

snapshot_sound : (at : ℕ) (m : Marked) → DocIsSpelled m → SnapshotIsWithin at m → IsSound (snapshot_data at m)
snapshot_sound at m spelled fits =
    (refl, (IsUtf8-are_ascii _ refl, omega (arith, fits.at_most), (IsUtf8-are_ascii _ refl, runs_sound (runs_of (marks_of m)) spelled.marks fits.runs, (IsUtf8-are_ascii _ refl, text_sound (text_of m) spelled.text, tt))))

runs_shallow : (runs : Runs) → items_depth (items_of (map run_data (map run_of runs))) ≤ 1
runs_shallow [] = omega arith
runs_shallow ((who, count) ∷ runs) = omega (arith, runs_shallow runs)

snapshot_shallow : (at : ℕ) (m : Marked) → depth (snapshot_data at m) ≤ max_depth
snapshot_shallow at m = omega (arith, runs_shallow (runs_of (marks_of m)))

-- a printed snapshot is read back
pub snapshot_back : (at : ℕ) (m : Marked) → DocIsSpelled m → SnapshotIsWithin at m → snapshot_of_line (printed_text (snapshot_data at m)) ≡ Some (at, m)
snapshot_back at m spelled fits =
    ap (λ o. option_and_then snapshot_of_data o) (value_of_printed (snapshot_data at m) (snapshot_sound at m spelled fits) (snapshot_shallow at m)) ∙ snapshot_data_back at m spelled fits

unmapped : (runs : Runs) → All (λ run. IsWho run.who) (map run_of runs) → HaveNumbers runs
unmapped [] h k d l = absurd (omega (arith, l))
unmapped (run ∷ runs) h zero d l = h zero (run_of d) (omega arith)
unmapped (run ∷ runs) h (suc k) d l = unmapped runs (λ j e p. h (suc j) e (omega (arith, p))) k d (omega (arith, l))

-- a document whose text and runs are the program's
pub doc_spelled : (m : Marked) → IsSpelled (text_of m) → All (λ run. IsWho run.who) (map run_of (runs_of (marks_of m))) → DocIsSpelled m
doc_spelled m text marks = record { text = text; marks = unmapped (runs_of (marks_of m)) marks }
