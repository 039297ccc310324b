-- How far a composition has come.
use Rattle.std.specs.Prelude.{◌≡◌, ℕ, ◌+◌, ◌≤◌}
use Rattle.ot_text.specs.declared.op.TheConstants.{MAX_LEN}
use Rattle.ot_text.specs.Change.{Change, base, target, then}
use Rattle.ot_text.specs.Parts.{norm}
use Rattle.ot_transform.specs.declared.composite.Composer.{Composer}
use Rattle.ot_transform.specs.Composition.{comp}

-- the composition of the operation c, which comes behind what is gone over so far
abbrev pub whole_with : Change → Composer → Change
whole_with c now = then now.made (comp c (norm now.rest))

-- the first operation with nothing more in front
abbrev pub unchanged : Change → Change
unchanged c = c

-- there is room for `over` more places of the base, and the second operation has `used` places left
pub record HasRoomFor (over used : ℕ) (now : Composer) : Type 0 where
  pub of_base : base now.made + over ≤ MAX_LEN
  pub enough : used ≤ base (norm now.rest)
  pub of_target : target now.made + target (norm now.rest) ≤ MAX_LEN

-- what the first operation still does comes down from `from c` to `to c`, and the whole stays what
-- it was; `over` more places of its base are gone over, and `used` places of the second one's
pub record GoesOn (over used : ℕ) (from to : Change → Change) (old new : Composer) : Type 0 where
  pub whole : (c : Change) → whole_with (from c) old ≡ whole_with (to c) new
  pub over_made : base new.made ≡ base old.made + over
  pub used_up : base (norm new.rest) + used ≡ base (norm old.rest)
  pub room : target new.made + target (norm new.rest) ≡ target old.made + target (norm old.rest)
