-- What the down line reads, takes and pushes.
use Rattle.std.specs.Prelude.{◌≡◌, ◌⊎◌, ℕ, ◌≤◌, Bool, true, false, List, [], ◌∷◌, ◌++◌, length, Option, None, Some, IfSome, Result, Ok, Err}
use Rattle.seat_lock.specs.Lists.{Begins}
use Rattle.seat_lock.specs.Values.{SeatValue}
use Rattle.troop_entry.specs.declared.block.Block.{Block}
use Rattle.troop_entry.specs.declared.entry.Entry.{Entry}
use Rattle.troop_entry.specs.Told.{block_told, is_leave_of}
use Rattle.wire_lines.specs.Reader.{IsLong}
use Rattle.wire_json.specs.Entries.{entry_of_line}
use Rattle.stage_state.specs.declared.act.Act.TheVariants as act
use Rattle.stage_state.specs.declared.played.Origin.{Origin}
use Rattle.stage_state.specs.declared.reply.TakeRefusal.{TakeRefusal}
use Rattle.stage_state.specs.declared.reply.TakeRefusal.TheVariants as refusal
use Rattle.stage_state.specs.Machine.{Machine}
use Rattle.stage_state.specs.Origins.{machine_at}
use Rattle.stage_state.specs.Replies.{take_refusal}
use Rattle.block_queue.specs.declared.item.Item.{Item}
use Rattle.activities.specs.declared.down.TakenEntry.{TakenEntry}
use Rattle.activities.specs.declared.errors.Side.{Side}
use Rattle.activities.specs.declared.errors.Side.TheVariants as side
use Rattle.activities.specs.declared.errors.What.{What}
use Rattle.activities.specs.declared.errors.What.TheVariants as what
use Rattle.activities.specs.declared.errors.PerformError.{PerformError}
use Rattle.activities.specs.declared.errors.PerformError.TheVariants as error
use Rattle.activities.specs.Driving.{block_items}
use Rattle.activities.specs.Lines.{GaveLines, IsHeldBack, IsCutOff, WantsAtLine, AreReadAs, number_behind}
use Rattle.activities.specs.Memory.{PlacedAct}

-- the longest line that a performer reads on the down side, in bytes
abbrev pub longest_entry : ℕ
longest_entry = 1073741824

-- the acts by which this seat takes entries
abbrev pub entry_takes : ℕ → List Entry → List PlacedAct
entry_takes number [] = []
entry_takes number (e ∷ entries) = (number, act.Take e) ∷ entry_takes number entries

-- a block in front of these, if there is one
abbrev pub and_block : Option Block → List Block → List Block
and_block None blocks = blocks
and_block (Some b) blocks = b ∷ blocks

-- the evaluations among the entries behind the join at this position
abbrev pub blocks_of : ℕ → List Entry → List Block
blocks_of joined [] = []
blocks_of joined (e ∷ entries) = and_block (block_told joined e) (blocks_of joined entries)

-- the stage refuses the entry at these acts
abbrev pub RefusesEntry : Origin → List PlacedAct → Entry → What → Type 0
RefusesEntry o seen e what.Ended = ⊥
RefusesEntry o seen e what.Long = ⊥
RefusesEntry o seen e what.Unread = ⊥
RefusesEntry o seen e (what.Place want got) = take_refusal (machine_at o seen) e ≡ Some (refusal.BadPlace want got)
RefusesEntry o seen e (what.Base want got) = take_refusal (machine_at o seen) e ≡ Some (refusal.BadBase want got)
RefusesEntry o seen e (what.NotSent at) = take_refusal (machine_at o seen) e ≡ Some (refusal.NotSent at)

-- this is the one line that was read, and it holds an entry that the stage refuses
abbrev pub HasRefused : Origin → List PlacedAct → What → List (List ℕ) → Type 0
HasRefused o seen what [] = ⊥
HasRefused o seen what (line ∷ []) = (e : Entry) × (entry_of_line line ≡ Some e) × RefusesEntry o seen e what
HasRefused o seen what (line ∷ _ ∷ _) = ⊥

-- what is wrong with a line that the server owed: `last` is that line, where it was read, and `rest` is what was to come behind it
abbrev pub IsWrongEntry : Origin → List PlacedAct → What → List (List ℕ) → Option (List ℕ) → Type 0
IsWrongEntry o seen what.Ended last rest = (last ≡ []) × IfSome rest (λ bytes. bytes ≡ [])
IsWrongEntry o seen what.Long last rest = (last ≡ []) × IfSome rest (IsLong longest_entry)
IsWrongEntry o seen what.Unread last rest = (line : List ℕ) × (last ≡ line ∷ []) × (entry_of_line line ≡ None)
IsWrongEntry o seen (what.Place want got) last rest = HasRefused o seen (what.Place want got) last
IsWrongEntry o seen (what.Base want got) last rest = HasRefused o seen (what.Base want got) last
IsWrongEntry o seen (what.NotSent at) last rest = HasRefused o seen (what.NotSent at) last

-- the down side alone owes entries
abbrev pub IsWrongEntryOn : Side → Origin → List PlacedAct → What → List (List ℕ) → Option (List ℕ) → Type 0
IsWrongEntryOn side.Up o seen what last rest = ⊥
IsWrongEntryOn side.Down o seen what last rest = IsWrongEntry o seen what last rest

-- why the line of this number was not taken; `last` is that line, where it was read, `rest` is what was to come behind it, and `remaining` what remains of the source
abbrev pub IsUntaken : Origin → List PlacedAct → ℕ → PerformError → List (List ℕ) → Option (List ℕ) → Option (List ℕ) → Type 0
IsUntaken o seen number error.ReadFault last rest remaining = ⊥
IsUntaken o seen number error.WriteFault last rest remaining = ⊥
IsUntaken o seen number error.NetFault last rest remaining = last ≡ []
IsUntaken o seen number (error.BadInput line) last rest remaining = ⊥
IsUntaken o seen number error.TooMuch last rest remaining = ⊥
IsUntaken o seen number (error.Refused reply) last rest remaining = ⊥
IsUntaken o seen number (error.Dropped at) last rest remaining = ⊥
IsUntaken o seen number (error.BadPeer side line what) last rest remaining = (line ≡ number) × IsWrongEntryOn side o seen what last rest
IsUntaken o seen number (error.LongRequest bytes) last rest remaining = ⊥
IsUntaken o seen number error.Memory last rest remaining = WantsAtLine longest_entry last rest remaining

-- the stage would take the entry; or the performer is gone, which never comes here, and is told as want of memory
abbrev pub MayWant : Machine → Entry → Type 0
MayWant m e = (take_refusal m e ≡ None) ⊎ (take_refusal m e ≡ Some refusal.Gone)

-- an entry that was taken is the seat's last act; one that wasn't says why, as the line of this number; want of memory comes only where it would be taken
abbrev pub TookEntry : Origin → ℕ → Entry → SeatValue PlacedAct Origin → SeatValue PlacedAct Origin → Result TakenEntry PerformError → Type 0
TookEntry o number e s t (Ok taken) = (t.own ≡ s.own ++ (s.number, act.Take e) ∷ []) × (taken.block ≡ block_told o.joined e) × (taken.at ≡ e.at)
    × (taken.gone ≡ is_leave_of o.own e) × (taken.gone ≡ true → (machine_at o t.seen).gone ≡ true)
TookEntry o number e s t (Err x) = (t.own ≡ s.own) × ((line : List ℕ) (rest remaining : Option (List ℕ)) → entry_of_line line ≡ Some e → length line ≤ longest_entry → IsUntaken o t.seen number x (line ∷ []) rest remaining)
    × (x ≡ error.Memory → MayWant (machine_at o t.seen) e)

-- one line: its entry was taken, or why not, with at most that line given, some bytes held back, and the rest of the source
abbrev pub TookLine : Origin → ℕ → Option (List ℕ) → Option (List ℕ) → Option (List ℕ) → SeatValue PlacedAct Origin → SeatValue PlacedAct Origin → Result TakenEntry PerformError → Type 0
TookLine o number before after remaining s t (Ok taken) =
    (line : List ℕ) × (e : Entry) × GaveLines before (line ∷ []) after × (entry_of_line line ≡ Some e) × TookEntry o number e s t (Ok taken)
TookLine o number before after remaining s t (Err error) = (last : List (List ℕ)) × (rest : Option (List ℕ)) × GaveLines before last rest × IsHeldBack rest remaining
    × (t.own ≡ s.own) × IsUntaken o t.seen number error last rest remaining

-- the error that tells a refusal of the line of this number; that the performer is gone never comes here, and is told as want of memory
abbrev pub refusal_error : ℕ → TakeRefusal → PerformError
refusal_error line refusal.Gone = error.Memory
refusal_error line (refusal.BadPlace want got) = error.BadPeer side.Down line (what.Place want got)
refusal_error line (refusal.NotSent at) = error.BadPeer side.Down line (what.NotSent at)
refusal_error line (refusal.BadBase want got) = error.BadPeer side.Down line (what.Base want got)

-- the lines so far: each holds an entry that was taken, and whose block, if it is one, was pushed
pub record TookLines (o : Origin) (given : List (List ℕ)) (entries : List Entry) (s t : SeatValue PlacedAct Origin) (before now : List Item) : Type 0 where
  pub mean : AreReadAs entry_of_line given entries
  pub own : t.own ≡ s.own ++ entry_takes s.number entries
  pub pushed : now ≡ before ++ block_items (blocks_of o.joined entries)

-- the last of the entries is the own leave, at this position
abbrev pub HasLeftAt : Origin → List Entry → ℕ → Type 0
HasLeftAt o entries at = (earlier : List Entry) × (e : Entry) × (entries ≡ earlier ++ e ∷ []) × (e.at ≡ at) × (is_leave_of o.own e ≡ true)

-- the own leave was taken, and none had been sent
abbrev pub IsDropped : Origin → List PlacedAct → List Entry → List (List ℕ) → PerformError → Type 0
IsDropped o seen entries last error.ReadFault = ⊥
IsDropped o seen entries last error.WriteFault = ⊥
IsDropped o seen entries last error.NetFault = ⊥
IsDropped o seen entries last (error.BadInput line) = ⊥
IsDropped o seen entries last error.TooMuch = ⊥
IsDropped o seen entries last (error.Refused reply) = ⊥
IsDropped o seen entries last (error.Dropped at) =
    (last ≡ []) × HasLeftAt o entries at × ((machine_at o seen).gone ≡ true) × ((machine_at o seen).leave_sent ≡ false)
IsDropped o seen entries last (error.BadPeer side line what) = ⊥
IsDropped o seen entries last (error.LongRequest bytes) = ⊥
IsDropped o seen entries last error.Memory = ⊥

-- why it stopped, behind these lines and entries, at these acts: with no error the own leave was taken, and had been sent
abbrev pub DownEnds : Origin → List PlacedAct → List (List ℕ) → List Entry → List (List ℕ) → Option (List ℕ) → Option (List ℕ) → Option PerformError → Type 0
DownEnds o seen given entries last rest remaining None =
    (last ≡ []) × ((at : ℕ) × HasLeftAt o entries at) × ((machine_at o seen).gone ≡ true) × ((machine_at o seen).leave_sent ≡ true)
DownEnds o seen given entries last rest remaining (Some error) = IsDropped o seen entries last error ⊎ IsUntaken o seen (number_behind 1 given) error last rest remaining

-- all that the down line did: `given` are the lines whose entries were taken, and where a read failed all that had come whole, `last` is the line, if one was read, whose entry wasn't, `rest` is what was to come
-- behind these, and `seen` are the acts at its end
pub record TookDown (o : Origin) (end : Option PerformError) (told remaining : Option (List ℕ)) (s t : SeatValue PlacedAct Origin) (before now : List Item) : Type 0 where
  pub given : List (List ℕ)
  pub entries : List Entry
  pub last : List (List ℕ)
  pub rest : Option (List ℕ)
  pub gave : GaveLines told (given ++ last) rest
  pub held : IsHeldBack rest remaining
  pub whole : end ≡ Some error.NetFault → IsCutOff told given remaining
  pub lines : TookLines o given entries s t before now
  pub seen : List PlacedAct
  pub earlier : Begins seen t.seen
  pub ends : DownEnds o seen given entries last rest remaining end

-- how it ends once the own leave was taken at this position, by whether one had been sent
abbrev pub end_of_leave : ℕ → Bool → Option PerformError
end_of_leave at true = None
end_of_leave at false = Some (error.Dropped at)
