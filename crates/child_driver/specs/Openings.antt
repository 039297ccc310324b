-- What the parts of a feed do: the opening of a life, and a write of all bytes.
use Rattle.std.specs.Prelude.{◌≡◌, ℕ, ◌+◌, ◌≤◌, List, [], ◌∷◌, ◌++◌, length, true, Option, None, Some, IfSome, option_map}
use Rattle.troop_entry.specs.declared.note.Note.TheVariants as note
use Rattle.troop_ports.specs.declared.sink.Written.{Written}
use Rattle.troop_ports.specs.declared.sink.Written.TheVariants as written
use Rattle.pipe_ports.specs.Pipes.{limit_behind, IsReadyToStart}
use Rattle.child_driver.specs.declared.opening.Opening.{Opening}
use Rattle.child_driver.specs.declared.opening.Opening.TheVariants as opening
use Rattle.child_driver.specs.Lives.{Boot, Refused}
use Rattle.child_driver.specs.Drivers.{births, Sight}
use Rattle.child_driver.specs.Steps.{IsFeedStep}

-- the limit lets so many bytes through
abbrev pub Covers : Option ℕ → ℕ → Type 0
Covers None size = Unit {0}
Covers (Some most) size = size ≤ most

-- a standing life takes so many bytes of a wrap, or else the hatch is ready for a life that takes them behind the boot text
abbrev pub IsReadyToFeed : {H C : Type 0} → (H → Option ℕ) → (C → ℕ) → H → Option C → ℕ → ℕ → Type 0
IsReadyToFeed readiness room hatch None boot size = IsReadyToStart (readiness hatch) (boot + size)
IsReadyToFeed readiness room hatch (Some child) boot size = size ≤ room child

-- a life was started for the block at this place, and has taken the boot text
pub record IsOpened (boot : List ℕ) (place : ℕ) (old new : Sight) : Type 0 where
  pub notes_are : new.notes ≡ old.notes ++ note.Born (births old.notes + 1) place ∷ []
  pub stands_is : new.stands ≡ true
  pub children_are : IfSome new.children (λ ls. Some ls ≡ option_map (λ all. all ++ boot ∷ []) old.children)
  pub pipe_is : IfSome old.pipe (λ p. (p.life ≡ None) × (p.starts.refusals ≡ 0) × Covers p.starts.limit (length boot)
      × (new.pipe ≡ Some (record { life = Some (limit_behind p.starts.limit (length boot)); starts = record { refusals = p.starts.refusals; limit = None } })))
  pub hatch_is : new.hatch_count ≡ old.hatch_count
  pub life_is : new.life_count ≡ old.life_count

-- what an opening leaves, by the life that stands then: a life with its boot text, or what a block of that fate does
abbrev pub Opens : {C : Type 0} → (Option C → Sight) → List ℕ → ℕ → Opening C → Sight → Type 0
Opens see boot place (opening.Life child) old = IsOpened boot place old (see (Some child))
Opens see boot place (opening.BootCut n) old = (wrapped : List ℕ) → IsFeedStep boot wrapped place (Boot n) old (see None)
Opens see boot place opening.Refused old = (wrapped : List ℕ) → IsFeedStep boot wrapped place Refused old (see None)

-- the fact holds of the life, where one was opened
abbrev pub IfOpened : {C : Type 0} → Opening C → (C → Type 0) → Type 0
IfOpened (opening.Life child) fact = fact child
IfOpened (opening.BootCut n) fact = Unit {0}
IfOpened opening.Refused fact = Unit {0}

-- a child that tells its limit takes all that the limit covers, and else as many bytes as it is
abbrev pub LimitsAll : Written → ℕ → Option (Option ℕ) → Option (Option ℕ) → Type 0
LimitsAll written.All size old new = IfSome old (λ limit. Covers limit size) × (new ≡ option_map (λ limit. limit_behind limit size) old)
LimitsAll (written.Part n) size old new = IfSome old (λ limit. limit ≡ Some n) × (new ≡ option_map (λ limit. limit_behind limit n) old)
