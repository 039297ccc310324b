-- The line with which a down line may begin: a document, and how many entries of the log made it.
use Rattle.std.specs.Prelude.{◌≡◌, ℕ, List, [], ◌∷◌, length, zip, sum_by, ◌==◌, codes, Option, Some, None, option_map, option_and_then, if◌then◌else◌}
use Rattle.serde_json.specs.Data.{Data}
use Rattle.serde_json.specs.Find.{as_array}
use Rattle.ot_text.specs.Marked.{Marked}
use Rattle.author_marks.specs.Runs.{marks_of_runs}
use Rattle.wire_json.specs.declared.read.Read.{Read}
use Rattle.wire_json.specs.declared.read.Read.TheVariants as read
use Rattle.wire_json.specs.declared.snapshots.Snapshot.{Snapshot}
use Rattle.wire_json.specs.Values.{count_of, performer_of, from_one, text_value, elements}
use Rattle.wire_json.specs.Fields.{field, value_of}

-- a run of marks: the performer's number and how many characters, both at least 1
abbrev pub run_of_pair : Data → Data → Option (ℕ × ℕ)
run_of_pair who count = option_and_then (λ w. option_map (λ n. (w, n)) (option_and_then from_one (count_of count))) (performer_of who)

-- the run of an array's elements, which are two
abbrev pub run_of_list : List Data → Option (ℕ × ℕ)
run_of_list [] = None
run_of_list (x ∷ []) = None
run_of_list (who ∷ count ∷ []) = run_of_pair who count
run_of_list (x ∷ y ∷ z ∷ more) = None

-- the run of a value
abbrev pub run_value : Data → Option (ℕ × ℕ)
run_value d = option_and_then (λ ds. run_of_list (elements ds)) (as_array d)

-- each of the elements is a run
abbrev pub runs_of_list : List Data → Option (List (ℕ × ℕ))
runs_of_list [] = Some []
runs_of_list (d ∷ ds) = option_and_then (λ run. option_map (λ runs. run ∷ runs) (runs_of_list ds)) (run_value d)

-- the runs of a value; neighbours may have one number
abbrev pub runs_value : Data → Option (List (ℕ × ℕ))
runs_value d = option_and_then (λ ds. runs_of_list (elements ds)) (as_array d)

-- the text with the marks of these runs, which have as many characters
abbrev pub marked_of : List (ℕ × ℕ) → List ℕ → Option Marked
marked_of runs text = if sum_by (λ run. run.1) runs == length text then Some (zip text (marks_of_runs runs)) else None

-- the document of a snapshot, by its keys `marks` and `text`
abbrev pub marked_field : Data → Option Marked
marked_field d = option_and_then (λ runs. option_and_then (marked_of runs) (field text_value (codes "text") d)) (field runs_value (codes "marks") d)

-- the snapshot of a value: how many entries, and the document
abbrev pub snapshot_of_data : Data → Option (ℕ × Marked)
snapshot_of_data d = option_and_then (λ at. option_map (λ m. (at, m)) (marked_field d)) (field count_of (codes "at") d)

-- the snapshot of a line
abbrev pub snapshot_of_line : List ℕ → Option (ℕ × Marked)
snapshot_of_line line = option_and_then snapshot_of_data (value_of line)

-- how many entries a snapshot has, and its document's characters with their marks
abbrev pub snapshot_told : Snapshot → ℕ × Marked
snapshot_told snapshot = (snapshot.at, snapshot.doc.pairs)

-- the snapshot exactly where the line has one, and `Bad` exactly where it has none; want of memory is free
abbrev pub AnswersSnapshot : Read Snapshot → Option (ℕ × Marked) → Type 0
AnswersSnapshot (read.Value snapshot) of = of ≡ Some (snapshot_told snapshot)
AnswersSnapshot read.Bad of = of ≡ None
AnswersSnapshot read.Memory of = Unit {0}
