-- What a journal and the bytes of the lives tell of the blocks fed.
use Rattle.std.specs.Prelude.{◌≡◌, ℕ, zero, suc, ◌+◌, ◌<◌, List, [], ◌∷◌, ◌++◌, length, map, take, Bool, true, false, not, ◌==◌, Option, None, Some, IfSome, if◌then◌else◌}
use Rattle.std.specs.List.{flat_map}
use Rattle.lang_wrap.specs.Wraps.{wrap}
use Rattle.troop_entry.specs.declared.block.Block.{Block}
use Rattle.troop_entry.specs.declared.call.Lang.{Lang}
use Rattle.troop_entry.specs.declared.note.Note.{Note}
use Rattle.troop_entry.specs.declared.note.Note.TheVariants as note

-- what became of a block: a life took all of it; or only so many bytes of its wrap; or the life started for it took only so
-- many bytes of the boot text; or no life could be started
pub data BlockFate : Type 0 where
  Whole : BlockFate
  Cut : ℕ → BlockFate
  Boot : ℕ → BlockFate
  Refused : BlockFate

-- ## The fate of a block, read from the notes

-- the fate of a block that was skipped: the note directly in front of that may tell that so many bytes of the boot text were taken
abbrev pub skipped_fate : Option ℕ → BlockFate
skipped_fate None = Refused
skipped_fate (Some bytes) = Boot bytes

-- the fate of the block at this place, where the first number is that of a `BootCut` directly in front of these notes
abbrev pub fate_behind : Option ℕ → List Note → ℕ → BlockFate
fate_behind before [] place = Whole
fate_behind before (note.Born k p ∷ notes) place = fate_behind None notes place
fate_behind before (note.BootCut k n ∷ notes) place = fate_behind (Some n) notes place
fate_behind before (note.Cut k p n ∷ notes) place = if p == place then Cut n else fate_behind None notes place
fate_behind before (note.Skipped p ∷ notes) place = if p == place then skipped_fate before else fate_behind None notes place
fate_behind before (note.Unclosed k ∷ notes) place = fate_behind None notes place

-- the fate of the block at this place, read from the notes: `Cut` where they say so; where it was skipped, what the note
-- directly in front of that says; else whole
abbrev pub fate_of : List Note → ℕ → BlockFate
fate_of notes place = fate_behind None notes place

-- ## The blocks with their fates

-- a block's place, the bytes of its wrap, and its fate
pub record FatedBlock : Type 0 where
  pub place : ℕ
  pub wrapped : List ℕ
  pub fate : BlockFate

-- a block with the fate that the notes tell of it
abbrev pub fated_block : Lang → List Note → Block → FatedBlock
fated_block lang notes block = record { place = block.place; wrapped = wrap lang block.text; fate = fate_of notes block.place }

-- the blocks with the fates that the notes tell of them
abbrev pub fated_blocks : Lang → List Note → List Block → List FatedBlock
fated_blocks lang notes blocks = map (fated_block lang notes) blocks

-- whether a life took all of the block
abbrev pub is_whole : BlockFate → Bool
is_whole Whole = true
is_whole (Cut n) = false
is_whole (Boot n) = false
is_whole Refused = false

-- how many lives are born for a block: one where it opens and isn't refused
abbrev pub births_by : Bool → BlockFate → ℕ
births_by false fate = 0
births_by true Whole = 1
births_by true (Cut n) = 1
births_by true (Boot n) = 1
births_by true Refused = 0

-- a block's turn: the block with its fate, whether it opens, and its life's number
pub record Turn : Type 0 where
  pub block : FatedBlock
  pub opens : Bool
  pub number : ℕ

-- the turn of a block that opens or not, behind so many births
abbrev pub turn_of : Bool → ℕ → FatedBlock → Turn
turn_of opens born d = record { block = d; opens = opens; number = born + births_by opens d.fate }

-- the blocks' turns, where the first of them opens or not, and so many lives were started before. A block opens where it is the
-- first, or the block before it isn't whole. Its number is the count of lives started up to it, its own included.
abbrev pub turns_from : Bool → ℕ → List FatedBlock → List Turn
turns_from opens born [] = []
turns_from opens born (d ∷ later) = turn_of opens born d ∷ turns_from (not (is_whole d.fate)) (born + births_by opens d.fate) later

-- the turns of the blocks, from a driver's first one on
abbrev pub turns : List FatedBlock → List Turn
turns ds = turns_from true 0 ds

-- how many lives are born in these turns
abbrev pub lives_started : List Turn → ℕ
lives_started [] = 0
lives_started (t ∷ ts) = births_by t.opens t.block.fate + lives_started ts

-- ## What holds of them

-- this fate can be: a block that doesn't open is whole or cut, and where the wrap or the boot text was cut not all of it was
-- taken
abbrev pub IsFit : List ℕ → Bool → List ℕ → BlockFate → Type 0
IsFit boot opens wrapped Whole = Unit {0}
IsFit boot opens wrapped (Cut n) = n < length wrapped
IsFit boot opens wrapped (Boot n) = (opens ≡ true) × (n < length boot)
IsFit boot opens wrapped Refused = opens ≡ true

-- the fate of each turn can be
abbrev pub AreFit : List ℕ → List Turn → Type 0
AreFit boot [] = Unit {0}
AreFit boot (t ∷ ts) = IsFit boot t.opens t.block.wrapped t.block.fate × AreFit boot ts

-- the boot text, where the block opens
abbrev pub boot_bytes : List ℕ → Bool → List ℕ
boot_bytes boot opens = if opens then boot else []

-- the bytes that a life takes in a block's turn: the boot text where the block opens, then the wrap, or what was taken of them
abbrev pub fate_bytes : List ℕ → Bool → List ℕ → BlockFate → List ℕ
fate_bytes boot opens wrapped Whole = boot_bytes boot opens ++ wrapped
fate_bytes boot opens wrapped (Cut n) = boot_bytes boot opens ++ take n wrapped
fate_bytes boot opens wrapped (Boot n) = take n boot
fate_bytes boot opens wrapped Refused = []

-- the bytes that a life takes in this turn
abbrev pub turn_bytes : List ℕ → Turn → List ℕ
turn_bytes boot t = fate_bytes boot t.opens t.block.wrapped t.block.fate

-- the bytes of life k: what it took in the turns of that number, in order
abbrev pub life_bytes : List ℕ → List Turn → ℕ → List ℕ
life_bytes boot [] k = []
life_bytes boot (t ∷ ts) k = (if t.number == k then turn_bytes boot t else []) ++ life_bytes boot ts k

-- the numbers from 1 to n
abbrev pub numbers_to : ℕ → List ℕ
numbers_to zero = []
numbers_to (suc n) = numbers_to n ++ suc n ∷ []

-- the bytes of each life born in these turns
abbrev pub lives_of : List ℕ → List Turn → List (List ℕ)
lives_of boot ts = map (life_bytes boot ts) (numbers_to (lives_started ts))

-- the note of a birth, where the block opens
abbrev pub born_note : Bool → ℕ → ℕ → List Note
born_note opens number place = if opens then note.Born number place ∷ [] else []

-- the notes on a block at this place, by its fate: the birth of a life that was started for it, then its fault
abbrev pub notes_by : Bool → ℕ → ℕ → BlockFate → List Note
notes_by opens number place Whole = born_note opens number place
notes_by opens number place (Cut n) = born_note opens number place ++ note.Cut number place n ∷ []
notes_by opens number place (Boot n) = born_note opens number place ++ note.BootCut number n ∷ note.Skipped place ∷ []
notes_by opens number place Refused = note.Skipped place ∷ []

-- the notes of a turn
abbrev pub notes_of : Turn → List Note
notes_of t = notes_by t.opens t.number t.block.place t.block.fate

-- the notes without a last `Unclosed`
abbrev pub without_unclosed : List Note → List Note
without_unclosed [] = []
without_unclosed (note.Unclosed k ∷ []) = []
without_unclosed (note ∷ notes) = note ∷ without_unclosed notes

-- this place is below each of the blocks' places
abbrev pub AreAbove : ℕ → List Block → Type 0
AreAbove place [] = Unit {0}
AreAbove place (b ∷ blocks) = (place < b.place) × AreAbove place blocks

-- the blocks' places rise: each is below the ones behind it
abbrev pub IsRising : List Block → Type 0
IsRising [] = Unit {0}
IsRising (b ∷ blocks) = AreAbove b.place blocks × IsRising blocks

-- each of the blocks' places is below this one
abbrev pub AreBelow : ℕ → List Block → Type 0
AreBelow place [] = Unit {0}
AreBelow place (b ∷ blocks) = (b.place < place) × AreBelow place blocks

-- the turns of the blocks, with the fates that the notes tell
abbrev pub turns_of : Lang → List Note → List Block → List Turn
turns_of lang notes blocks = turns (fated_blocks lang (without_unclosed notes) blocks)

-- the blocks, whose places rise and whose fates are read from the notes, led to these notes, and to these bytes of lives
-- where those are told
pub record IsTold (lang : Lang) (boot : List ℕ) (blocks : List Block) (lives : Option (List (List ℕ))) (notes : List Note) : Type 0 where
  pub rising : IsRising blocks
  pub fits : AreFit boot (turns_of lang notes blocks)
  pub lives_are : IfSome lives (λ ls. ls ≡ lives_of boot (turns_of lang notes blocks))
  pub notes_are : without_unclosed notes ≡ flat_map notes_of (turns_of lang notes blocks)

-- 1 for a note that tells of a fault: a block cut or skipped, or a life that could not be closed
abbrev pub note_faults : Note → ℕ
note_faults (note.Born k p) = 0
note_faults (note.BootCut k n) = 0
note_faults (note.Cut k p n) = 1
note_faults (note.Skipped p) = 1
note_faults (note.Unclosed k) = 1

-- how many of the notes tell of a fault; a cut boot text counts by the skipped block behind it
abbrev pub faulty_count : List Note → ℕ
faulty_count [] = 0
faulty_count (note ∷ notes) = note_faults note + faulty_count notes
