-- What is kept of a world says that it is sound.
use Rattle.std.proofs.Common.{◌≡◌, ℕ, zero, suc, Option, Some, List, [], ◌∷◌, map, slice_get, refl, ap, ◌∙◌, subst, arith}
use Rattle.troop_entry.specs.declared.row.Row.{Row}
use Rattle.agreement.proofs.StagesAgree.{each_agrees}
use Rattle.world_core.specs.declared.performer.Performer.{Performer}
use Rattle.world_core.specs.Sound.{IsSoundWorld, IsSoundPerformer}
use Rattle.world_core.specs.States.{PerformerState}
use Rattle.world_core.specs.Values.{CountsFaults, WorldValue, performer_state, state_of}
use Rattle.world_core.specs.WorldInvariant.{IsWorld, stages_of}
use Rattle.world_core.proofs.IsWorld.{stage_at}

performer_at : (ps : List Performer) (i : ℕ) (q : PerformerState) → slice_get (map performer_state ps) i ≡ Some q → (p : Performer) × (slice_get ps i ≡ Some p) × (performer_state p ≡ q)
performer_at [] i q e = absurd (cc)
performer_at (x ∷ ps) zero q e = let same : performer_state x ≡ q = cc in (x, refl, same)
performer_at (x ∷ ps) (suc i) q e = performer_at ps i q e

-- a kept world is sound
pub kept_sound : (log : List Row) (ps : List Performer) (last : List (Option ℕ)) → IsWorld log ps last → IsSoundWorld (state_of (record { log = log; performers = ps }))
kept_sound log ps last w = record {
  legal = w.agree.legal;
  performers_are = λ i q e.
      let p = performer_at ps i q e in
      let kept = w.kept i p.0 p.1 in
      subst (IsSoundPerformer log) p.2 (record {
        agrees = each_agrees log (stages_of ps) i p.0.stage.staged w.agree (stage_at ps i p.0 p.1);
        blocks_are = kept.blocks_are;
        told = kept.driver_is.fed.told;
        faults_are = omega arith;
      });
}

-- and that each pipe counted the faults that its state has
pub kept_counts : (log : List Row) (ps : List Performer) (last : List (Option ℕ)) (w : WorldValue) → IsWorld log ps last → record { log = log; performers = ps } ≡ w
    → (i : ℕ) (p : Performer) → slice_get w.performers i ≡ Some p → CountsFaults p.driver
kept_counts log ps last w h is i p e = (h.kept i p (ap (λ (v : WorldValue). slice_get v.performers i) is ∙ e)).driver_is.fed.counted

-- and that each performer has its stage's number
pub kept_numbers : (log : List Row) (ps : List Performer) (last : List (Option ℕ)) (w : WorldValue) → IsWorld log ps last → record { log = log; performers = ps } ≡ w
    → (i : ℕ) (p : Performer) → slice_get w.performers i ≡ Some p → p.who ≡ p.stage.staged.own
kept_numbers log ps last w h is i p e = (h.kept i p (ap (λ (v : WorldValue). slice_get v.performers i) is ∙ e)).number_is
