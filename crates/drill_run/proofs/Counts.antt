-- What is counted and compared, performer by performer.
use Rattle.std.proofs.Common.{◌≡◌, ℕ, ◌+◌, ◌<◌, Bool, true, false, ◌&&◌, List, [], ◌∷◌, drop, get_or, length, map, refl, sym, ap, ◌∙◌}
use Rattle.std.specs.Bool.{Decides}
use Rattle.std.proofs.lemmas.List.{at_drop_more, length-map}
use Rattle.std.proofs.lemmas.List.Sums.{sum_by-cons}
use Rattle.ot_text.specs.Marked.{Marked}
use Rattle.stage_state.specs.Machine.{held_text}
use Rattle.stage_state.specs.Staged.{machine}
use Rattle.world_core.specs.declared.performer.Performer.{Performer}
use Rattle.world_core.specs.States.{PerformerState}
use Rattle.world_core.specs.Values.{performer_state}
use Rattle.drill_run.specs.Script.{script_numbers}
use Rattle.drill_run.specs.Summary.{all_hold, life_count, note_count, same_doc}
use Rattle.drill_run.proofs.IsDrained.{doc_decides}

-- ---- performers from an index on

-- with the next one in front
abbrev rest_of : ℕ → List Performer → List PerformerState
rest_of i ps = map performer_state (drop i ps)

rest_next : {Y : Type 0} (F : List PerformerState → Y) (ps : List Performer) (i : ℕ) (p : Performer) → i < length ps → p ≡ get_or ps i p → F (rest_of i ps) ≡ F (performer_state p ∷ rest_of (i + 1) ps)
rest_next F ps i p inside is = at_drop_more (λ qs. F (map performer_state qs)) ps i p inside ∙ ap (λ q. F (performer_state q ∷ rest_of (i + 1) ps)) (sym is)

-- how many lives they have
pub lives_next : (ps : List Performer) (i : ℕ) (p : Performer) → i < length ps → p ≡ get_or ps i p
    → life_count (map performer_state (drop i ps)) ≡ length (performer_state p).interpreter.lives + life_count (map performer_state (drop (i + 1) ps))
lives_next ps i p inside is = rest_next life_count ps i p inside is ∙ sum_by-cons (λ (q : PerformerState). length q.interpreter.lives) (performer_state p) (rest_of (i + 1) ps)

-- how many notes they have
pub notes_next : (ps : List Performer) (i : ℕ) (p : Performer) → i < length ps → p ≡ get_or ps i p
    → note_count (map performer_state (drop i ps)) ≡ length (performer_state p).interpreter.notes + note_count (map performer_state (drop (i + 1) ps))
notes_next ps i p inside is = rest_next note_count ps i p inside is ∙ sum_by-cons (λ (q : PerformerState). length q.interpreter.notes) (performer_state p) (rest_of (i + 1) ps)

-- whether they hold the document
hold_next : (m : Marked) (ps : List Performer) (i : ℕ) (p : Performer) → i < length ps → p ≡ get_or ps i p
    → all_hold m (map performer_state (drop i ps)) ≡ (same_doc (held_text (machine p.stage.staged)) m && all_hold m (map performer_state (drop (i + 1) ps)))
hold_next m ps i p inside is = rest_next (all_hold m) ps i p inside is

-- where the next one does, the others decide
pub hold_goes_on : (m : Marked) (ps : List Performer) (i : ℕ) (p : Performer) → i < length ps → p ≡ get_or ps i p → held_text (machine p.stage.staged) ≡ m
    → all_hold m (map performer_state (drop i ps)) ≡ all_hold m (map performer_state (drop (i + 1) ps))
hold_goes_on m ps i p inside is same =
    hold_next m ps i p inside is ∙ ap (λ b. b && all_hold m (map performer_state (drop (i + 1) ps))) ((doc_decides (held_text (machine p.stage.staged)) m).1 same)

-- where it doesn't, they don't all
pub hold_ends : (m : Marked) (ps : List Performer) (i : ℕ) (p : Performer) → i < length ps → p ≡ get_or ps i p → (held_text (machine p.stage.staged) ≡ m → ⊥)
    → all_hold m (map performer_state (drop i ps)) ≡ false
hold_ends m ps i p inside is other = hold_next m ps i p inside is ∙ by_test (same_doc (held_text (machine p.stage.staged)) m) (doc_decides (held_text (machine p.stage.staged)) m)
  where
    by_test : (b : Bool) → Decides b (held_text (machine p.stage.staged) ≡ m) → (b && all_hold m (map performer_state (drop (i + 1) ps))) ≡ false
    by_test true d = absurd (other (d.0 refl))
    by_test false d = refl

-- three performers
pub three_performers : (ps : List Performer) → map (λ (p : PerformerState). p.staged.own) (map performer_state ps) ≡ script_numbers → length ps ≡ 3
three_performers ps is =
    sym (length-map ps performer_state) ∙ sym (length-map (map performer_state ps) (λ (p : PerformerState). p.staged.own)) ∙ ap (λ (ns : List ℕ). length ns) is
