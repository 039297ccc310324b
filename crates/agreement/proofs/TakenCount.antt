-- How many entries a machine can have taken.
use Rattle.std.proofs.Common.{◌≡◌, ◌≤◌, ℕ, zero, suc, List, [], ◌∷◌, length, take, drop, ap, ◌∙◌, length-drop, arith}
use Rattle.troop_entry.specs.declared.row.Row.{Row}
use Rattle.log_model.specs.Log.{entries}
use Rattle.log_model.proofs.DocTold.{length-entries_from}
use Rattle.stage_state.specs.Machine.{Machine, taken_count}

few_first : {A : Type 0} (n : ℕ) (xs : List A) → length (take n xs) ≤ length xs
few_first zero xs = omega arith
few_first (suc n) [] = omega arith
few_first (suc n) (x ∷ xs) = omega (arith, few_first n xs)

-- where they are those of a log, from a start within it, they are no more than it has
pub taken_within : (log : List Row) (m : Machine) → m.start ≤ length log → m.entries ≡ drop m.start (take (taken_count m) (entries log)) → taken_count m ≤ length log
taken_within log m near is =
    omega (arith, near, ap length is ∙ length-drop m.start (take (taken_count m) (entries log)), few_first (taken_count m) (entries log), length-entries_from 0 log)
