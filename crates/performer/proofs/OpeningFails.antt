-- How an opening fails, and what a run's parts say of it as a whole.
use Rattle.std.proofs.Common.{◌≡◌, ℕ, Bool, List, [], Option, option_map, sym, subst}
use Rattle.block_queue.specs.declared.item.Item.{Item}
use Rattle.troop_entry.specs.declared.call.Lang.{Lang}
use Rattle.troop_entry.specs.declared.note.Note.{Note}
use Rattle.child_driver.specs.Drivers.{DriverValue, births, last_of, children}
use Rattle.child_driver.specs.Lives.{IsTold}
use Rattle.child_driver.proofs.IsTold.{told_none}
use Rattle.stage_state.specs.declared.played.Origin.{Origin}
use Rattle.activities.specs.declared.errors.PerformError.{PerformError}
use Rattle.activities.specs.Driving.{ToldDriver, told_driver, IsToldOf}
use Rattle.activities.specs.Memory.{PlacedAct}
use Rattle.performer.specs.Opening.{OpeningFails}
use Rattle.performer.specs.Performed.{TookAll}

-- links that were left alone behind it
pub fails_kept : (name : List ℕ) (lang : Lang) (cause : PerformError) (told remaining remaining' before now now' down_before down_now down_now' : Option (List ℕ))
    → remaining' ≡ remaining → now' ≡ now → down_now' ≡ down_now → OpeningFails name lang cause told remaining before now down_before down_now
    → OpeningFails name lang cause told remaining' before now' down_before down_now'
fails_kept name lang cause told remaining remaining' before now now' down_before down_now down_now' r n d h =
    subst (λ (x : Option (List ℕ) × Option (List ℕ) × Option (List ℕ)). OpeningFails name lang cause told x.0 before x.1 down_before x.2) (λ i. (sym r i, sym n i, sym d i)) h

-- a driver that wasn't fed tells no blocks
pub unfed_told : {H C : Type 0} (buried : H → Option (List (List ℕ))) (faults : H → ℕ) (taken : C → Option (List ℕ)) (child_faults : C → ℕ) (d : DriverValue H C) → d.notes ≡ []
    → IsToldOf (told_driver buried faults taken child_faults d) []
unfed_told buried faults taken child_faults d none =
    subst (λ (ns : List Note). IsTold d.lang d.boot [] (option_map (last_of (births ns)) (children buried taken d)) ns) (sym none) (told_none d.lang d.boot (children buried taken d))

-- what was fed is told
pub told_of : (o : Origin) (acts : List PlacedAct) (end : Option PerformError) (told remaining : Option (List ℕ)) (popped : List Item) (starved : Bool) (old new : ToldDriver)
    → TookAll o acts end told remaining popped starved old new → IsToldOf old [] → (took : TookAll o acts end told remaining popped starved old new) × IsToldOf new took.fed.fed
told_of o acts end told remaining popped starved old new t unfed = (t, t.fed.told t.rise unfed)
