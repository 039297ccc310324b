-- What a driver tells of its hatch and its standing life.
use Rattle.std.specs.Prelude.{ℕ, ◌+◌, ◌-◌, List, [], ◌∷◌, ◌++◌, length, drop, Bool, Option, None, Some, option_map, is_some, if◌then◌else◌}
use Rattle.troop_entry.specs.declared.call.Lang.{Lang}
use Rattle.troop_entry.specs.declared.note.Note.{Note}
use Rattle.troop_entry.specs.declared.note.Note.TheVariants as note
use Rattle.pipe_ports.specs.Pipes.{Starts, with_burial}
use Rattle.child_driver.specs.Lives.{BlockFate, Whole, Cut, Boot, Refused}
use Rattle.child_driver.specs.Feeding.{Pipe}

-- the value of a driver: its language, the boot text, the hatch, the standing life, the journal, and whether a standing life
-- was closed
pub record DriverValue (H C : Type 0) : Type 0 where
  pub lang : Lang
  pub boot : List ℕ
  pub hatch : H
  pub life : Option C
  pub notes : List Note
  pub closed : Bool

-- how many lives the notes tell of
abbrev pub births : List Note → ℕ
births [] = 0
births (note.Born k p ∷ notes) = 1 + births notes
births (note.BootCut k n ∷ notes) = births notes
births (note.Cut k p n ∷ notes) = births notes
births (note.Skipped p ∷ notes) = births notes
births (note.Unclosed k ∷ notes) = births notes

-- the last so many of the lists
abbrev pub last_of : ℕ → List (List ℕ) → List (List ℕ)
last_of n lists = drop (length lists - n) lists

-- the bytes of the buried children, and then those of the standing life, where they are told
abbrev pub with_life : {C : Type 0} → (C → Option (List ℕ)) → Option (List (List ℕ)) → Option C → Option (List (List ℕ))
with_life taken buried None = buried
with_life taken buried (Some child) = with_burial buried (taken child)

-- the bytes of all children, those buried before the hatch was handed in too, where they are told
abbrev pub children : {H C : Type 0} → (H → Option (List (List ℕ))) → (C → Option (List ℕ)) → DriverValue H C → Option (List (List ℕ))
children buried taken d = with_life taken (buried d.hatch) d.life

-- how many children were buried before the hatch was handed in, where it is told
abbrev pub earlier_count : {H C : Type 0} → (H → Option (List (List ℕ))) → (C → Option (List ℕ)) → DriverValue H C → Option ℕ
earlier_count buried taken d = option_map (λ (ls : List (List ℕ)). length ls - births d.notes) (children buried taken d)

-- the bytes of the driver's lives, where they are told: as many of the last children as the journal tells births of
abbrev pub driver_lives : {H C : Type 0} → (H → Option (List (List ℕ))) → (C → Option (List ℕ)) → DriverValue H C → Option (List (List ℕ))
driver_lives buried taken d = option_map (last_of (births d.notes)) (children buried taken d)

-- the lists, the last of them with these bytes behind it
abbrev pub with_last_longer : List (List ℕ) → List ℕ → List (List ℕ)
with_last_longer [] bytes = []
with_last_longer (x ∷ []) bytes = (x ++ bytes) ∷ []
with_last_longer (x ∷ y ∷ later) bytes = x ∷ with_last_longer (y ∷ later) bytes

-- the bytes of all children behind a block of this fate, which gave these bytes: a life that was started has a list of its
-- own, else the last one is longer
abbrev pub children_after : Bool → BlockFate → List ℕ → List (List ℕ) → List (List ℕ)
children_after opens Refused bytes all = all
children_after opens Whole bytes all = if opens then all ++ bytes ∷ [] else with_last_longer all bytes
children_after opens (Cut n) bytes all = if opens then all ++ bytes ∷ [] else with_last_longer all bytes
children_after opens (Boot n) bytes all = if opens then all ++ bytes ∷ [] else with_last_longer all bytes

-- ## What contracts see of a driver over any hatch

-- the standing life, if there is one, by its limit, where that is told
abbrev pub life_limit : {C : Type 0} → (C → Option (Option ℕ)) → Option C → Option (Option (Option ℕ))
life_limit limit None = Some None
life_limit limit (Some child) = option_map Some (limit child)

-- the pipe of this standing life and these starts, where both are told
abbrev pub pipe_of : Option (Option (Option ℕ)) → Option Starts → Option Pipe
pipe_of None starts = None
pipe_of (Some life) None = None
pipe_of (Some life) (Some starts) = Some (record { life = life; starts = starts })

-- the standing life's count of faults, 0 where none stands
abbrev pub life_faults : {C : Type 0} → (C → ℕ) → Option C → ℕ
life_faults faults None = 0
life_faults faults (Some child) = faults child

-- what contracts see of a driver: the journal, whether a life stands, the bytes of all children and the pipe where they are
-- told, the hatch's count of faults, and the standing life's
pub record Sight : Type 0 where
  pub notes : List Note
  pub stands : Bool
  pub children : Option (List (List ℕ))
  pub pipe : Option Pipe
  pub hatch_count : ℕ
  pub life_count : ℕ

-- the sight of a driver with this hatch, this life and these notes
abbrev pub sight_of : {H C : Type 0} → (H → Option (List (List ℕ))) → (H → Option Starts) → (H → ℕ) → (C → Option (List ℕ)) → (C → Option (Option ℕ)) → (C → ℕ)
    → H → Option C → List Note → Sight
sight_of buried starts faults taken limit child_faults hatch life notes = record {
  notes = notes;
  stands = is_some life;
  children = with_life taken (buried hatch) life;
  pipe = pipe_of (life_limit limit life) (starts hatch);
  hatch_count = faults hatch;
  life_count = life_faults child_faults life;
}

-- the sight of a driver
abbrev pub sight : {H C : Type 0} → (H → Option (List (List ℕ))) → (H → Option Starts) → (H → ℕ) → (C → Option (List ℕ)) → (C → Option (Option ℕ)) → (C → ℕ)
    → DriverValue H C → Sight
sight buried starts faults taken limit child_faults d = sight_of buried starts faults taken limit child_faults d.hatch d.life d.notes

-- the pipe count of a driver: its hatch's count of faults and its standing life's
abbrev pub pipe_count : {H C : Type 0} → (H → ℕ) → (C → ℕ) → DriverValue H C → ℕ
pipe_count faults child_faults d = faults d.hatch + life_faults child_faults d.life
