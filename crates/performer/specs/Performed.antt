-- What a whole performance is: one history of acts, with what was read, sent, popped and fed.
use Rattle.std.specs.Prelude.{◌≡◌, ◌⊎◌, ℕ, ◌≤◌, Bool, List, [], ◌∷◌, ◌++◌, length, Option, None, Some, Result, Ok, Err}
use Rattle.seat_lock.specs.Lists.{Begins, AllOf, IsIn}
use Rattle.troop_entry.specs.declared.call.Call.{Call}
use Rattle.troop_entry.specs.declared.call.Lang.{Lang}
use Rattle.troop_entry.specs.declared.entry.Entry.{Entry}
use Rattle.troop_ports.specs.Bytes.{at_end}
use Rattle.wire_json.specs.declared.commands.Command.{Command}
use Rattle.wire_json.specs.Commands.{command_of_line}
use Rattle.wire_json.specs.Entries.{entry_of_line}
use Rattle.block_queue.specs.declared.item.Item.{Item}
use Rattle.block_queue.specs.declared.item.Item.TheVariants as item
use Rattle.child_driver.specs.Lives.{IsRising}
use Rattle.stage_state.specs.declared.act.Act.TheVariants as act
use Rattle.stage_state.specs.declared.played.Origin.{Origin}
use Rattle.stage_state.specs.Machine.{sent_pairs}
use Rattle.stage_state.specs.Origins.{origin_of, machine_at, ArePlayed}
use Rattle.stage_state.specs.Staged.{Staged}
use Rattle.activities.specs.declared.commands.Flow.{Flow}
use Rattle.activities.specs.declared.commands.Flow.TheVariants as flow
use Rattle.activities.specs.declared.errors.PerformError.{PerformError}
use Rattle.activities.specs.declared.errors.PerformError.TheVariants as error
use Rattle.activities.specs.Commands.{RunsCommands, CommandsEnd, spoken_lines, lines_size, most_commands}
use Rattle.activities.specs.Down.{entry_takes, blocks_of, DownEnds}
use Rattle.activities.specs.Driving.{ToldDriver, block_items, FedSome, IsToldOf}
use Rattle.activities.specs.Lines.{GaveLines, IsHeldBack, IsCutOff, AreReadAs, number_behind}
use Rattle.activities.specs.Memory.{PlacedAct, SeatMemory, own_in, placed_row, SeesMore}
use Rattle.activities.specs.Up.{call_line, call_lines, FitsRequest, TellsPlaced, TellsPlacing, UpEnds, IsNextAct}
use Rattle.performer.specs.Opening.{join_pair}
use Rattle.performer.specs.Joined.{picked, entry_in, ask_in, acts_by, marked_by}

-- the entries taken are those of the lines read, in order, and their blocks were popped and fed; where a read failed these are all lines that had come whole
pub record TookAll (o : Origin) (acts : List PlacedAct) (end : Option PerformError) (told remaining : Option (List ℕ)) (popped : List Item) (starved : Bool) (old new : ToldDriver) : Type 0 where
  pub given : List (List ℕ)
  pub entries : List Entry
  pub last : List (List ℕ)
  pub rest : Option (List ℕ)
  pub gave : GaveLines told (given ++ last) rest
  pub held : IsHeldBack rest remaining
  pub whole : end ≡ Some error.NetFault → IsCutOff told given remaining
  pub mean : AreReadAs entry_of_line given entries
  pub taken : picked entry_in acts ≡ entries
  pub seen : List PlacedAct
  pub earlier : Begins seen acts
  pub ends : DownEnds o seen given entries last rest remaining end
  pub popped_is : popped ≡ block_items (blocks_of o.joined entries) ++ item.End ∷ []
  pub fed : FedSome starved (blocks_of o.joined entries) old new
  pub rise : IsRising fed.fed

-- the calls that the acts sent were written, under their numbers and in order, each with its reply, but perhaps the last; none of them was longer than the server takes; where a read failed
-- behind the last, the replies are all lines that had come whole
pub record SentAll (o : Origin) (acts : List PlacedAct) (end : Option PerformError) (told remaining before now : Option (List ℕ)) : Type 0 where
  pub calls : List (ℕ × Call)
  pub lost : List (ℕ × Call)
  pub sent : sent_pairs (machine_at o acts) ≡ calls ++ lost
  pub fit : AllOf FitsRequest calls
  pub front : List ℕ
  pub written : now ≡ at_end before (call_lines calls ++ front)
  pub replies : List (List ℕ)
  pub last : List (List ℕ)
  pub rest : Option (List ℕ)
  pub gave : GaveLines told (replies ++ last) rest
  pub held : IsHeldBack rest remaining
  pub whole : end ≡ Some error.NetFault → front ≡ call_lines lost → IsCutOff told replies remaining
  pub placed : AllOf TellsPlaced replies
  pub even : length replies ≡ length calls
  pub seen : List PlacedAct
  pub earlier : Begins seen acts
  pub ends : UpEnds o seen (number_behind 2 replies) lost front last rest remaining end

-- of all acts the seat's own are these, and behind them a finish, but where a command found the stage closed
abbrev pub FinishBehind : Result Flow PerformError → ℕ → List PlacedAct → List PlacedAct → Type 0
FinishBehind (Ok flow.On) n own acts = ⊥
FinishBehind (Ok flow.Ended) n own acts = acts_by n acts ≡ own ++ (n, act.Finish) ∷ []
FinishBehind (Ok flow.Closed) n own acts = acts_by n acts ≡ own
FinishBehind (Err e) n own acts = acts_by n acts ≡ own ++ (n, act.Finish) ∷ []

-- the commands read were done, in order: each met the machine at a front of the acts, with the seat's own acts of exactly the commands before it, and so did the line behind them at which they
-- ended; of all acts the seat's own are those of the commands done, and then the finish; where a read failed the lines done are all that had come whole
pub record TypedAll (o : Origin) (acts : List PlacedAct) (number : ℕ) (name : List ℕ) (who : ℕ) (end : Result Flow PerformError) (told remaining before now : Option (List ℕ)) : Type 0 where
  pub given : List (List ℕ)
  pub commands : List Command
  pub last : List (List ℕ)
  pub rest : Option (List ℕ)
  pub gave : GaveLines told (given ++ last) rest
  pub held : IsHeldBack rest remaining
  pub whole : end ≡ Err error.ReadFault → IsCutOff told given remaining
  pub mean : AreReadAs command_of_line (spoken_lines given) commands
  pub within : lines_size given ≤ most_commands
  pub printed : List ℕ
  pub done : SeatMemory
  pub ran : RunsCommands o number name who [] commands printed done
  pub front_of : Begins done (marked_by number acts)
  pub own_are : FinishBehind end number (own_in done) acts
  pub front : List ℕ
  pub written : now ≡ at_end before (printed ++ front)
  pub seen : List PlacedAct
  pub earlier : Begins seen acts
  pub here : SeesMore done (marked_by number seen)
  pub ends : CommandsEnd o (number_behind 1 given) (lines_size given) name who seen last front rest remaining end

-- one of these acts halts the stage
abbrev pub HasHalt : List PlacedAct → Type 0
HasHalt [] = ⊥
HasHalt (r ∷ acts) = (r.1 ≡ act.Halt) ⊎ HasHalt acts

-- of all acts the seat's own are these; where there is an error a halt may stand behind them, and one of all acts is a halt
abbrev pub HaltBehind : Option PerformError → ℕ → List PlacedAct → List PlacedAct → Type 0
HaltBehind None n own acts = acts_by n acts ≡ own
HaltBehind (Some e) n own acts = (b : Bool) × (acts_by n acts ≡ own ++ placed_row b n act.Halt) × HasHalt acts

-- the performer asks something by the act
abbrev pub IsAskRow : PlacedAct → Type 0
IsAskRow r = ask_in r.1 ≡ r.1 ∷ []

-- the acts are of three seats: one asks, and then finishes; one sends, and one takes entries, and each of these halts only where it has an error, and then the stage is halted
pub record Shares (acts : List PlacedAct) (commands_end : Result Flow PerformError) (up_end down_end : Option PerformError) (typing up down : ℕ) : Type 0 where
  pub every : AllOf (λ (r : PlacedAct). IsIn r.0 (typing ∷ up ∷ down ∷ [])) acts
  pub asks : (own : List PlacedAct) × AllOf IsAskRow own × FinishBehind commands_end typing own acts
  pub nexts : (own : List PlacedAct) × AllOf IsNextAct own × HaltBehind up_end up own acts
  pub entries : (es : List Entry) × HaltBehind down_end down (entry_takes down es) acts

-- ---- what a run leaves, by its parts

-- the reply to the join was read, which told the performer's number and the position of its join, and behind the join the calls were sent
abbrev pub SentBehindJoin : List ℕ → Lang → ℕ → Staged → Option PerformError → Option (List ℕ) → Option (List ℕ) → Option (List ℕ) → Option (List ℕ) → Type 0
SentBehindJoin name lang who s end told remaining before now = (line : List ℕ) × (rest : Option (List ℕ)) × GaveLines told (line ∷ []) rest
    × TellsPlacing (record { at = s.joined; who = who }) line
    × SentAll (origin_of s) s.acts end rest remaining (at_end before (call_line (join_pair name lang))) now

-- the stage is that of this performer from the empty log, and each act was placed where those before it had led
abbrev pub IsPlayedBy : ℕ → Staged → Type 0
IsPlayedBy who s = (s.own ≡ who) × (s.start ≡ 0) × (s.text ≡ []) × ArePlayed (origin_of s) s.acts

-- the entries taken are those of the lines read, and the blocks fed are told
abbrev pub TookAndTold : Staged → Option PerformError → Option (List ℕ) → Option (List ℕ) → List Item → Bool → ToldDriver → ToldDriver → Type 0
TookAndTold s end told remaining popped starved old new =
    (took : TookAll (origin_of s) s.acts end told remaining popped starved old new) × IsToldOf new took.fed.fed

-- the acts are of three seats, and those of the first are the commands read
abbrev pub TypedAndShared : Staged → List ℕ → ℕ → Result Flow PerformError → Option PerformError → Option PerformError → Option (List ℕ) → Option (List ℕ) → Option (List ℕ) → Option (List ℕ) → Type 0
TypedAndShared s name who end up_end down_end told remaining before now = (typing up down : ℕ) × Shares s.acts end up_end down_end typing up down
    × TypedAll (origin_of s) s.acts typing name who end told remaining before now
