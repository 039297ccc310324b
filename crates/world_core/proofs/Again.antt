-- A call asked again.
use Rattle.std.proofs.Common.{◌≡◌, ℕ, suc, ◌<◌, Option, None, Some, List, [], ◌∷◌, length, map, slice_get, refl, sym, ap, ◌∙◌, arith}
use Rattle.std.specs.Prelude.{slice_index_or}
use Rattle.std.specs.List.{position_from}
use Rattle.std.proofs.lemmas.Option.{slice_get_read}
use Rattle.troop_entry.specs.declared.call.Call.{Call}
use Rattle.troop_entry.specs.declared.row.Row.{Row}
use Rattle.log_model.specs.Answers.{log_after}
use Rattle.wire_json.specs.declared.steps.Step.TheVariants as step
use Rattle.world_core.specs.declared.performer.Performer.{Performer}
use Rattle.world_core.specs.declared.told.Told.TheVariants as told
use Rattle.world_core.specs.States.{last_row}
use Rattle.world_core.specs.Steps.{told_by_some, told_if_here, told_of}
use Rattle.world_core.specs.Values.{state_of}
use Rattle.world_core.specs.WorldInvariant.{IsWorld}
use Rattle.world_core.proofs.IsWorld.{last_inside, last_kept, world_again}
use Rattle.world_core.proofs.PerformerWith.{has_number}
use Rattle.world_core.proofs.WorldAfter.{absent, here}

-- no performer of that number is here
pub again_absent : (log : List Row) (ps : List Performer) (last : List (Option ℕ)) (who : ℕ) → IsWorld log ps last → position_from (has_number who) 0 ps ≡ None
    → told_of (step.Again who) (state_of (record { log = log; performers = ps })) ≡ told.Unfit
again_absent log ps last who w e = ap (told_if_here (λ p. told_by_some (last_row log p.staged))) (absent log ps last who w e).0

same_length : (log : List Row) (ps : List Performer) → length (map (λ (p : Performer). last_row log p.stage.staged) ps) ≡ length ps
same_length log [] = refl
same_length log (p ∷ ps) = ap suc (same_length log ps)

-- the position of its last row is kept
pub has_last : (log : List Row) (ps : List Performer) (last : List (Option ℕ)) (who i : ℕ) → IsWorld log ps last → position_from (has_number who) 0 ps ≡ Some i → i < length last
has_last log ps last who i w e =
    let at = here log ps last who i w e in
    omega (arith, at.1.inside, ap length w.last_are, same_length log ps)

-- and it is the one that is read
read_last : (log : List Row) (ps : List Performer) (last : List (Option ℕ)) (who i : ℕ) → IsWorld log ps last → position_from (has_number who) 0 ps ≡ Some i
    → (o : Option ℕ) → o ≡ slice_index_or last i o → slice_get last i ≡ Some o
read_last log ps last who i w e o is = slice_get_read last (length last) i o refl (has_last log ps last who i w e) is

last_read : (log : List Row) (ps : List Performer) (last : List (Option ℕ)) (who i : ℕ) → (w : IsWorld log ps last) → (e : position_from (has_number who) 0 ps ≡ Some i)
    → (o : Option ℕ) → o ≡ slice_index_or last i o → last_row log (here log ps last who i w e).0.stage.staged ≡ o
last_read log ps last who i w e o is =
    let at = here log ps last who i w e in
    let same : Some (last_row log at.0.stage.staged) ≡ Some o = sym (last_kept log ps last i at.0 w at.1.is_there) ∙ read_last log ps last who i w e o is in cc

told_is : (log : List Row) (ps : List Performer) (last : List (Option ℕ)) (who i : ℕ) → IsWorld log ps last → position_from (has_number who) 0 ps ≡ Some i
    → (o : Option ℕ) → o ≡ slice_index_or last i o → told_of (step.Again who) (state_of (record { log = log; performers = ps })) ≡ told_by_some o
told_is log ps last who i w e o is =
    let at = here log ps last who i w e in
    ap (told_if_here (λ p. told_by_some (last_row log p.staged))) at.1.is_found ∙ ap told_by_some (last_read log ps last who i w e o is)

pub again_none : (log : List Row) (ps : List Performer) (last : List (Option ℕ)) (who i : ℕ) → IsWorld log ps last → position_from (has_number who) 0 ps ≡ Some i
    → (o : Option ℕ) → o ≡ slice_index_or last i o → o ≡ None → told_of (step.Again who) (state_of (record { log = log; performers = ps })) ≡ told.Unfit
again_none log ps last who i w e o is none = told_is log ps last who i w e o is ∙ ap told_by_some none

pub again_done : (log : List Row) (ps : List Performer) (last : List (Option ℕ)) (who i at : ℕ) → IsWorld log ps last → position_from (has_number who) 0 ps ≡ Some i
    → (o : Option ℕ) → o ≡ slice_index_or last i o → o ≡ Some at → told_of (step.Again who) (state_of (record { log = log; performers = ps })) ≡ told.Done
again_done log ps last who i at w e o is some = told_is log ps last who i w e o is ∙ ap told_by_some some

-- its last row is a row
pub row_inside : (log : List Row) (ps : List Performer) (last : List (Option ℕ)) (who i at : ℕ) → IsWorld log ps last → position_from (has_number who) 0 ps ≡ Some i
    → (o : Option ℕ) → o ≡ slice_index_or last i o → o ≡ Some at → at < length log
row_inside log ps last who i at w e o is some =
    let p = here log ps last who i w e in
    last_inside log ps last i at p.0 w p.1.is_there (read_last log ps last who i w e o is ∙ ap Some some)

-- the log that was asked its call again
pub asked_again : (log later : List Row) (ps : List Performer) (last : List (Option ℕ)) (who i at : ℕ) (row : Row) (call : Call) → IsWorld log ps last → position_from (has_number who) 0 ps ≡ Some i
    → (o : Option ℕ) → o ≡ slice_index_or last i o → o ≡ Some at
    → (rows : List Row) → rows ≡ log → row ≡ slice_index_or rows at row → call ≡ row.call → later ≡ log_after log 0 who row.num call → later ≡ log
asked_again log later ps last who i at row call w e o is some rows same row_is call_is later_is =
    let p = here log ps last who i w e in
    let inside = row_inside log ps last who i at w e o is some in
    let stands : slice_get log at ≡ Some row = slice_get_read log (length log) at row refl inside (row_is ∙ ap (λ (rs : List Row). slice_index_or rs at row) same) in
    later_is ∙ ap (log_after log 0 who row.num) call_is
    ∙ ap (λ n. log_after log 0 n row.num row.call) (sym p.1.own_is)
    ∙ world_again log ps last i at p.0 row w p.1.is_there (read_last log ps last who i w e o is ∙ ap Some some) stands
