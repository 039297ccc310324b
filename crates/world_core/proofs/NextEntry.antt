-- The entry that a performer takes next.
use Rattle.std.proofs.Common.{◌≡◌, ℕ, zero, suc, ◌<◌, ◌≤◌, Bool, true, false, if◌then◌else◌, Option, None, Some, List, [], ◌∷◌, ◌++◌, length, take, drop, slice_get, refl, sym, ap, ◌∙◌, arith}
use Rattle.std.specs.Prelude.{is_some}
use Rattle.std.proofs.lemmas.Option.{slice_get_past}
use Rattle.troop_entry.specs.declared.entry.Entry.{Entry}
use Rattle.troop_entry.specs.declared.row.Row.{Row}
use Rattle.troop_entry.specs.Told.{block_told}
use Rattle.log_model.specs.Log.{entries, entries_from}
use Rattle.stage_state.specs.declared.act.Act.TheVariants as act
use Rattle.stage_state.specs.Machine.{Machine, taken_count}
use Rattle.stage_state.specs.Staged.{machine, with_act}
use Rattle.world_core.specs.declared.performer.Performer.{Performer}
use Rattle.world_core.specs.States.{with_block}
use Rattle.world_core.specs.Steps.{after_next_entry, is_done, next_entry, told_by_some}
use Rattle.world_core.specs.declared.told.Told.TheVariants as told
use Rattle.world_core.specs.Values.{performer_state}

-- there is none for a performer that is gone
pub none_gone : (log : List Row) (m : Machine) → m.gone ≡ true → next_entry log m ≡ None
none_gone log m e = ap (λ b. if b then None else slice_get (entries log) (taken_count m)) e

as_many : (at : ℕ) (log : List Row) → length (entries_from at log) ≡ length log
as_many at [] = refl
as_many at (row ∷ log) = ap suc (as_many (suc at) log)

-- nor for one that has taken all
pub none_left : (log : List Row) (m : Machine) → length log ≤ taken_count m → next_entry log m ≡ None
none_left log m all = by_test m.gone
  where
    by_test : (b : Bool) → (if b then None else slice_get (entries log) (taken_count m)) ≡ None
    by_test true = refl
    by_test false = slice_get_past (entries log) (taken_count m) (omega (arith, as_many 0 log, all))

-- else it is the log's entry at the next position
pub some_next : (log : List Row) (m : Machine) (e : Entry) → m.gone ≡ false → slice_get (entries log) (taken_count m) ≡ Some e → next_entry log m ≡ Some e
some_next log m e here is = ap (λ b. if b then None else slice_get (entries log) (taken_count m)) here ∙ is

some_at : (es : List Entry) (i : ℕ) → i < length es → is_some (slice_get es i) ≡ true
some_at [] i below = absurd (omega (arith, below))
some_at (e ∷ es) zero below = refl
some_at (e ∷ es) (suc i) below = some_at es i (omega (arith, below))

-- and there is one
pub is_next : (log : List Row) (m : Machine) → m.gone ≡ false → taken_count m < length log → is_some (next_entry log m) ≡ true
is_next log m here below =
    ap (λ b. is_some (if b then None else slice_get (entries log) (taken_count m))) here ∙ some_at (entries log) (taken_count m) (omega (arith, as_many 0 log, below))

-- the first of the entries from a position on
pub first_entry : (es : List Entry) (at k : ℕ) (x : Option Entry) → k ≡ 1 → slice_get (take k (drop at es)) 0 ≡ x → slice_get es at ≡ x
first_entry [] zero k x one e = rw one at e
first_entry [] (suc at) k x one e = rw one at e
first_entry (y ∷ es) zero k x one e = rw one at e
first_entry (y ∷ es) (suc at) k x one e = first_entry es at k x one e

-- where there is an entry, it is given
pub not_none : (log : List Row) (at : ℕ) → at < length log → slice_get (entries log) at ≡ None → ⊥
not_none log at below none =
    let no : true ≡ false = sym (some_at (entries log) at (omega (arith, as_many 0 log, below))) ∙ ap is_some none in absurd (cc)

-- the performer that took it
pub taken_state : (log : List Row) (old new : Performer) (e : Entry) → next_entry log (machine old.stage.staged) ≡ Some e → new.name ≡ old.name → new.driver ≡ old.driver
    → new.stage.staged ≡ with_act 0 (act.Take e) old.stage.staged → new.waiting ≡ old.waiting ++ with_block (block_told old.stage.staged.joined e) []
    → performer_state new ≡ after_next_entry (next_entry log (machine old.stage.staged)) (performer_state old)
taken_state log old new e next name driver staged waiting =
    rw (name, driver, staged, waiting) refl ∙ ap (λ o. after_next_entry o (performer_state old)) (sym next)

some_done : (o : Option Entry) → is_some o ≡ true → told_by_some o ≡ told.Done
some_done None e = absurd (cc)
some_done (Some x) e = refl

-- so the step is done
pub next_done : (log : List Row) (m : Machine) → m.gone ≡ false → taken_count m < length log → told_by_some (next_entry log m) ≡ told.Done
next_done log m here below = some_done (next_entry log m) (is_next log m here below)

pub wanting_next : (log : List Row) (m : Machine) → m.gone ≡ false → taken_count m < length log → is_done (told_by_some (next_entry log m)) ≡ true
wanting_next log m here below = ap is_done (next_done log m here below)

-- what is next
pub next_is : (log : List Row) (m : Machine) (e : Entry) → next_entry log m ≡ Some e → (m.gone ≡ false) × (slice_get (entries log) (taken_count m) ≡ Some e)
next_is log m e is = by_test m.gone refl
  where
    by_test : (b : Bool) → m.gone ≡ b → (m.gone ≡ false) × (slice_get (entries log) (taken_count m) ≡ Some e)
    by_test true here = let none : None ≡ Some e = sym (none_gone log m here) ∙ is in absurd (cc)
    by_test false here = (here, sym (ap (λ b. if b then None else slice_get (entries log) (taken_count m)) here) ∙ is)
