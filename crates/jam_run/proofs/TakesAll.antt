-- Entries taken in a loop.
use Rattle.std.proofs.Common.{◌≡◌, ℕ, suc, ◌+◌, ◌-◌, ◌<◌, ◌≤◌, Some, List, length, take, drop, slice_get, get_or, refl, sym, ◌∙◌, subst, arith}
use Rattle.std.proofs.Math.ListN.{drop_of_length-le}
use Rattle.std.proofs.lemmas.List.{take_all, length-drop}
use Rattle.std.proofs.lemmas.Option.{slice_get_read}
use Rattle.troop_entry.specs.declared.entry.Entry.{Entry}
use Rattle.troop_entry.specs.declared.row.Row.{Row}
use Rattle.log_model.specs.Log.{entries}
use Rattle.log_model.proofs.DocTold.{length-entries_from}
use Rattle.log_model.proofs.Lists.{drop_next}
use Rattle.stage_state.specs.declared.act.Act.TheVariants as act
use Rattle.stage_state.specs.Machine.{CanAct}
use Rattle.stage_state.specs.Staged.{Staged, machine, with_act}
use Rattle.jam_run.specs.Taking.{TakesAll}

-- the next entry, and then the rest
pub takes_next : (es : List Entry) (e : Entry) (i : ℕ) (s u t : Staged) → i < length es → e ≡ get_or es i e → u ≡ with_act 0 (act.Take e) s → CanAct (machine s) (act.Take e)
    → TakesAll (drop (i + 1) es) u t → TakesAll (drop i es) s t
takes_next es e i s u t within is next can rest =
    let there : slice_get es i ≡ Some e = slice_get_read es (length es) i e refl within is in
    let count : i + 1 ≡ suc i = omega arith in
    let behind : TakesAll (drop (suc i) es) u t = subst (λ (k : ℕ). TakesAll (drop k es) u t) count rest in
    subst (λ (l : List Entry). TakesAll l s t) (sym (drop_next es i e there)) (can, subst (λ (x : Staged). TakesAll (drop (suc i) es) x t) next behind)

-- with no entry left
pub takes_last : (es : List Entry) (i : ℕ) (s : Staged) → length es ≤ i → TakesAll (drop i es) s s
takes_last es i s all = subst (λ (l : List Entry). TakesAll l s s) (sym (drop_of_length-le es all)) refl

-- the entries from a position to the end are the rest
pub rest_whole : (log : List Row) (es : List Entry) (k n : ℕ) → n ≡ length log → es ≡ take (n - k) (drop k (entries log)) → es ≡ drop k (entries log)
rest_whole log es k n count is = is ∙ take_all (n - k) (drop k (entries log)) (omega (arith, count, length-drop k (entries log), length-entries_from 0 log))
