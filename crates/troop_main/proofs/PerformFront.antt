-- What words ask, one way or else another.
use Rattle.std.proofs.Common.{◌≡◌, Option, None, Some, refl}
use Rattle.std.specs.Prelude.{option_map, IfSome}
use Rattle.std.specs.Option.{option_or}
use Rattle.troop_main.specs.declared.words.Command.{Command}
use Rattle.troop_main.specs.Words.{asked, KeepsLimits}

-- the first that asks something is the one that is asked
pub asked_or : (a b : Option Command) → option_map asked (option_or a b) ≡ option_or (option_map asked a) (option_map asked b)
asked_or None b = refl
asked_or (Some x) b = refl

-- and has a name
pub named_or : (a b : Option Command) → IfSome a KeepsLimits → IfSome b KeepsLimits → IfSome (option_or a b) KeepsLimits
named_or None b h g = g
named_or (Some x) b h g = h
