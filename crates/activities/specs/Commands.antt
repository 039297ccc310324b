-- What the commands do and print.
use Rattle.std.specs.Prelude.{◌≡◌, ◌⊎◌, ℕ, ◌+◌, ◌<◌, ◌≤◌, true, false, if◌then◌else◌, List, [], ◌∷◌, ◌++◌, length, Option, None, Some, Result, Ok, Err, IfSome}
use Rattle.seat_lock.specs.Lists.{Begins}
use Rattle.seat_lock.specs.Values.{SeatValue}
use Rattle.troop_entry.specs.declared.reply.Reply.TheVariants as desk
use Rattle.troop_ports.specs.Bytes.{at_end}
use Rattle.wire_lines.specs.Reader.{IsLong}
use Rattle.wire_json.specs.declared.commands.Command.{Command}
use Rattle.wire_json.specs.declared.commands.Command.TheVariants as command
use Rattle.wire_json.specs.declared.replies.WireReply.TheVariants as wire
use Rattle.wire_json.specs.Commands.{command_of_line}
use Rattle.wire_json.specs.Fields.{is_blank_line}
use Rattle.wire_print.specs.Printed.{printed_line, reply_data, blank_data, performer_data}
use Rattle.client_state.specs.declared.state.State.{State}
use Rattle.client_state.specs.declared.state.State.TheVariants as state
use Rattle.stage_state.specs.declared.act.Act.{Act}
use Rattle.stage_state.specs.declared.act.Act.TheVariants as act
use Rattle.stage_state.specs.declared.played.Origin.{Origin}
use Rattle.stage_state.specs.declared.reply.AskRefusal.{AskRefusal}
use Rattle.stage_state.specs.declared.reply.AskRefusal.TheVariants as refusal
use Rattle.stage_state.specs.Machine.{Machine, taken_count, held_text, is_closed}
use Rattle.stage_state.specs.Origins.{machine_at}
use Rattle.stage_state.specs.Replies.{type_refusal, eval_refusal, reset_refusal, unless, accepts}
use Rattle.activities.specs.declared.commands.Flow.{Flow}
use Rattle.activities.specs.declared.commands.Flow.TheVariants as flow
use Rattle.activities.specs.declared.errors.PerformError.{PerformError}
use Rattle.activities.specs.declared.errors.PerformError.TheVariants as error
use Rattle.activities.specs.Lines.{GaveLines, IsHeldBack, IsCutOff, IsShortHeld, AreReadAs, number_behind}
use Rattle.activities.specs.Memory.{PlacedAct, SeatMemory, seen_in, own_act, placed_row, SeesMore, Remembers}

-- the longest line of commands, in bytes
abbrev pub longest_command : ℕ
longest_command = 1048576

-- how many bytes the lines of commands have at most, each with its line feed
abbrev pub most_commands : ℕ
most_commands = 1073741824

-- ---- what is printed

-- how many operations aren't confirmed
abbrev pub awaits_of : State → ℕ
awaits_of state.Synchronized = 0
awaits_of (state.Awaiting u) = 1
awaits_of (state.WithBuffer u v) = 2

-- the performer's line at a machine
abbrev pub performer_line : List ℕ → ℕ → Machine → List ℕ
performer_line name who m = printed_line (performer_data name who (awaits_of m.pending) (taken_count m) (held_text m))

-- the line of an edit whose base isn't the length of the text
abbrev pub base_line : ℕ → ℕ → List ℕ
base_line want got = printed_line (reply_data (wire.Desk (desk.BadBase want got)))

-- the line of an evaluation without a block
abbrev pub blank_line : ℕ → List ℕ
blank_line place = printed_line (blank_data place)

-- what an answer prints: a refusal, but for that of a closed stage
abbrev pub refusal_line : Result (Unit {0}) AskRefusal → List ℕ
refusal_line (Ok u) = []
refusal_line (Err refusal.Closed) = []
refusal_line (Err (refusal.BadBase want got)) = base_line want got
refusal_line (Err (refusal.Blank place)) = blank_line place

-- the stage's answer to what is asked
abbrev pub ask_answer : Machine → Act → Result (Unit {0}) AskRefusal
ask_answer m (act.Typed op) = unless (type_refusal m op) tt
ask_answer m (act.Eval place) = unless (eval_refusal m place) tt
ask_answer m (act.Reset text) = unless (reset_refusal m) tt
ask_answer m (act.Take e) = Ok tt
ask_answer m act.Next = Ok tt
ask_answer m act.Finish = Ok tt
ask_answer m act.Halt = Ok tt

-- what a command prints at a machine
abbrev pub command_output : List ℕ → ℕ → Machine → Command → List ℕ
command_output name who m (command.Edit op) = refusal_line (ask_answer m (act.Typed op))
command_output name who m (command.Eval place) = refusal_line (ask_answer m (act.Eval place))
command_output name who m (command.Reset text) = refusal_line (ask_answer m (act.Reset text))
command_output name who m (command.Until count) = []
command_output name who m command.Show = performer_line name who m
command_output name who m command.Leave = []

-- ---- what is done

-- the act that a command places at a machine, as the seat's own, if it places one
abbrev pub done_by : ℕ → Machine → Command → SeatMemory
done_by number m (command.Edit op) = own_act (accepts m (act.Typed op)) number (act.Typed op)
done_by number m (command.Eval place) = own_act (accepts m (act.Eval place)) number (act.Eval place)
done_by number m (command.Reset text) = own_act (accepts m (act.Reset text)) number (act.Reset text)
done_by number m (command.Until count) = []
done_by number m command.Show = []
done_by number m command.Leave = []

-- the commands go on behind this one: it found the stage open, if it asks something; so many entries were taken, or the stage is closed, if it waits for that
abbrev pub LetsGoOn : Machine → Command → Type 0
LetsGoOn m (command.Edit op) = is_closed m ≡ false
LetsGoOn m (command.Eval place) = is_closed m ≡ false
LetsGoOn m (command.Reset text) = is_closed m ≡ false
LetsGoOn m (command.Until count) = (count ≤ taken_count m) ⊎ (is_closed m ≡ true)
LetsGoOn m command.Show = Unit {0}
LetsGoOn m command.Leave = ⊥

-- the command asks something of the stage, which is closed
abbrev pub FindsClosed : Machine → Command → Type 0
FindsClosed m (command.Edit op) = is_closed m ≡ true
FindsClosed m (command.Eval place) = is_closed m ≡ true
FindsClosed m (command.Reset text) = is_closed m ≡ true
FindsClosed m (command.Until count) = ⊥
FindsClosed m command.Show = ⊥
FindsClosed m command.Leave = ⊥

-- an error by which a command may end
abbrev pub IsCommandFault : PerformError → Type 0
IsCommandFault error.ReadFault = ⊥
IsCommandFault error.WriteFault = Unit {0}
IsCommandFault error.NetFault = ⊥
IsCommandFault (error.BadInput line) = ⊥
IsCommandFault error.TooMuch = ⊥
IsCommandFault (error.Refused reply) = ⊥
IsCommandFault (error.Dropped at) = ⊥
IsCommandFault (error.BadPeer side line what) = ⊥
IsCommandFault (error.LongRequest bytes) = ⊥
IsCommandFault error.Memory = Unit {0}

-- what one command did. It meets the machine at acts that the seat remembers, those of others behind its own last one among
-- them; its line, if it has one, is of that machine, and its act stands right behind these
abbrev pub DidCommand : Origin → ℕ → List ℕ → ℕ → SeatMemory → Command → Option (List ℕ) → Option (List ℕ) → SeatValue PlacedAct Origin → Result Flow PerformError → Type 0
DidCommand o number name who k c before now t (Ok flow.On) = (at : SeatMemory) × SeesMore k at × LetsGoOn (machine_at o (seen_in at)) c
    × (now ≡ at_end before (command_output name who (machine_at o (seen_in at)) c)) × Remembers (at ++ done_by number (machine_at o (seen_in at)) c) t
DidCommand o number name who k c before now t (Ok flow.Closed) =
    (at : SeatMemory) × SeesMore k at × Remembers at t × (now ≡ before) × FindsClosed (machine_at o (seen_in at)) c
DidCommand o number name who k c before now t (Ok flow.Ended) = (at : SeatMemory) × SeesMore k at × Remembers at t × (now ≡ before) × (c ≡ command.Leave)
DidCommand o number name who k c before now t (Err e) = (at : SeatMemory) × SeesMore k at × Remembers at t
    × ((front : List ℕ) × Begins front (command_output name who (machine_at o (seen_in at)) c) × (now ≡ at_end before front)) × IsCommandFault e

-- commands, one after the other, with what they printed: each met the machine at acts of which exactly those of the commands before it are the seat's own
abbrev pub RunsCommands : Origin → ℕ → List ℕ → ℕ → SeatMemory → List Command → List ℕ → SeatMemory → Type 0
RunsCommands o number name who k [] bytes end = (bytes ≡ []) × (end ≡ k)
RunsCommands o number name who k (c ∷ cs) bytes end = (at : SeatMemory) × (more : List ℕ) × SeesMore k at × LetsGoOn (machine_at o (seen_in at)) c
    × (bytes ≡ command_output name who (machine_at o (seen_in at)) c ++ more)
    × RunsCommands o number name who (at ++ done_by number (machine_at o (seen_in at)) c) cs more end

-- something is asked by the act
abbrev pub IsAskAct : Act → Type 0
IsAskAct (act.Typed op) = Unit {0}
IsAskAct (act.Eval place) = Unit {0}
IsAskAct (act.Reset text) = Unit {0}
IsAskAct (act.Take e) = ⊥
IsAskAct act.Next = ⊥
IsAskAct act.Finish = ⊥
IsAskAct act.Halt = ⊥

-- the line was written, or the front of it
abbrev pub WroteLine : List ℕ → Option (List ℕ) → Option (List ℕ) → Result Flow PerformError → Type 0
WroteLine line before now (Ok f) = (f ≡ flow.On) × (now ≡ at_end before line)
WroteLine line before now (Err e) = ((front : List ℕ) × Begins front line × (now ≡ at_end before front)) × IsCommandFault e

-- what becomes of an answer: a refusal is printed, but for that of a closed stage, which ends the commands
abbrev pub Answered : Result (Unit {0}) AskRefusal → Option (List ℕ) → Option (List ℕ) → Result Flow PerformError → Type 0
Answered (Ok u) before now r = (r ≡ Ok flow.On) × (now ≡ before)
Answered (Err refusal.Closed) before now r = (r ≡ Ok flow.Closed) × (now ≡ before)
Answered (Err (refusal.BadBase want got)) before now r = WroteLine (base_line want got) before now r
Answered (Err (refusal.Blank place)) before now r = WroteLine (blank_line place) before now r

-- what is asked meets the machine at some acts, which begin with those seen; want of memory comes only where it would be placed
abbrev pub AsksStage : Origin → Act → SeatValue PlacedAct Origin → SeatValue PlacedAct Origin → Result (Result (Unit {0}) AskRefusal) PerformError → Type 0
AsksStage o a s t (Ok answer) = (log : List PlacedAct) × Begins s.seen log × (answer ≡ ask_answer (machine_at o log) a)
    × (t.seen ≡ log ++ placed_row (accepts (machine_at o log) a) s.number a) × (t.own ≡ s.own ++ placed_row (accepts (machine_at o log) a) s.number a)
AsksStage o a s t (Err e) = (e ≡ error.Memory) × (t.own ≡ s.own) × (accepts (machine_at o t.seen) a ≡ true)

-- what becomes of a question to the stage
abbrev pub FollowsAnswer : Result (Result (Unit {0}) AskRefusal) PerformError → Option (List ℕ) → Option (List ℕ) → Result Flow PerformError → Type 0
FollowsAnswer (Ok answer) before now r = Answered answer before now r
FollowsAnswer (Err e) before now r = (r ≡ Err e) × (now ≡ before)

-- ---- lines

-- the lines that aren't blank
abbrev pub spoken_lines : List (List ℕ) → List (List ℕ)
spoken_lines [] = []
spoken_lines (line ∷ given) = if is_blank_line line then spoken_lines given else line ∷ spoken_lines given

-- how many bytes the lines have, each with its line feed
abbrev pub lines_size : List (List ℕ) → ℕ
lines_size [] = 0
lines_size (line ∷ given) = length line + 1 + lines_size given

-- the line is over the limit, or outside the grammar: `last` is that line, where it was read, and `rest` is what was to come behind it
abbrev pub IsBadLine : List (List ℕ) → Option (List ℕ) → Type 0
IsBadLine last rest = ((last ≡ []) × IfSome rest (IsLong longest_command))
    ⊎ ((line : List ℕ) × (last ≡ line ∷ []) × (is_blank_line line ≡ false) × (command_of_line line ≡ None))

-- with this line the lines pass the limit of all lines
abbrev pub PassesLimit : ℕ → List (List ℕ) → Type 0
PassesLimit size last = (line : List ℕ) × (last ≡ line ∷ []) × (most_commands < size + (length line + 1))

-- memory was wanting: before a line was read, where none over the limit is held, or for a line that is within the limit and isn't blank, and with which the lines don't
-- pass the limit of all lines; `rest` is what was to come behind it, and `remaining` what remains of the source
abbrev pub WantsMemory : ℕ → List (List ℕ) → Option (List ℕ) → Option (List ℕ) → Type 0
WantsMemory size last rest remaining = ((last ≡ []) × IsShortHeld longest_command rest remaining)
    ⊎ ((line : List ℕ) × (last ≡ line ∷ []) × (length line ≤ longest_command) × (size + (length line + 1) ≤ most_commands) × (is_blank_line line ≡ false))

-- no command was done, behind lines of so many bytes: the end was read, or why it wasn't
abbrev pub NoCommand : ℕ → ℕ → List (List ℕ) → Option (List ℕ) → Option (List ℕ) → Result Flow PerformError → Type 0
NoCommand number size last rest remaining (Ok flow.On) = ⊥
NoCommand number size last rest remaining (Ok flow.Ended) = (last ≡ []) × IfSome rest (λ bytes. bytes ≡ [])
NoCommand number size last rest remaining (Ok flow.Closed) = ⊥
NoCommand number size last rest remaining (Err error.ReadFault) = last ≡ []
NoCommand number size last rest remaining (Err error.WriteFault) = ⊥
NoCommand number size last rest remaining (Err error.NetFault) = ⊥
NoCommand number size last rest remaining (Err (error.BadInput line)) = (line ≡ number) × IsBadLine last rest
NoCommand number size last rest remaining (Err error.TooMuch) = PassesLimit size last
NoCommand number size last rest remaining (Err (error.Refused reply)) = ⊥
NoCommand number size last rest remaining (Err (error.Dropped at)) = ⊥
NoCommand number size last rest remaining (Err (error.BadPeer side line what)) = ⊥
NoCommand number size last rest remaining (Err (error.LongRequest bytes)) = ⊥
NoCommand number size last rest remaining (Err error.Memory) = WantsMemory size last rest remaining

-- the line was counted: so many bytes more, within the limit of all lines
abbrev pub IsCounted : List ℕ → ℕ → ℕ → Type 0
IsCounted line size now = (now ≡ size + (length line + 1)) × (now ≤ most_commands)

-- the line of a command, which was done
pub record DidSpoken (o : Origin) (number : ℕ) (name : List ℕ) (who : ℕ) (k : SeatMemory) (told after : Option (List ℕ)) (size total : ℕ) (before now : Option (List ℕ)) (t : SeatValue PlacedAct Origin)
    (r : Result Flow PerformError) : Type 0 where
  pub line : List ℕ
  pub c : Command
  pub gave : GaveLines told (line ∷ []) after
  pub spoken : is_blank_line line ≡ false
  pub means : command_of_line line ≡ Some c
  pub counted : IsCounted line size total
  pub did : DidCommand o number name who k c before now t r

-- a blank line, at which nothing was done
pub record DidBlank (k : SeatMemory) (told after : Option (List ℕ)) (size total : ℕ) (before now : Option (List ℕ)) (t : SeatValue PlacedAct Origin) (r : Result Flow PerformError) : Type 0 where
  pub line : List ℕ
  pub gave : GaveLines told (line ∷ []) after
  pub blank : is_blank_line line ≡ true
  pub counted : IsCounted line size total
  pub written : now ≡ before
  pub remembers : Remembers k t
  pub goes : r ≡ Ok flow.On

-- no line that was done
pub record DidNone (at_line : ℕ) (k : SeatMemory) (told remaining : Option (List ℕ)) (size : ℕ) (before now : Option (List ℕ)) (t : SeatValue PlacedAct Origin) (r : Result Flow PerformError) : Type 0 where
  pub last : List (List ℕ)
  pub rest : Option (List ℕ)
  pub gave : GaveLines told last rest
  pub held : IsHeldBack rest remaining
  pub written : now ≡ before
  pub remembers : Remembers k t
  pub none : NoCommand at_line size last rest remaining r

-- one line of the commands, behind lines of so many bytes
abbrev pub DidLine : Origin → ℕ → ℕ → List ℕ → ℕ → SeatMemory → Option (List ℕ) → Option (List ℕ) → Option (List ℕ) → ℕ → ℕ → Option (List ℕ) → Option (List ℕ) → SeatValue PlacedAct Origin
    → Result Flow PerformError → Type 0
DidLine o number at_line name who k told after remaining size total before now t r =
    DidSpoken o number name who k told after size total before now t r ⊎ (DidBlank k told after size total before now t r ⊎ DidNone at_line k told remaining size before now t r)

-- ---- all commands

-- only the front of what the last command prints was written
abbrev pub CutLine : Origin → List ℕ → ℕ → List PlacedAct → List (List ℕ) → List ℕ → Type 0
CutLine o name who seen last front =
    (line : List ℕ) × (c : Command) × (last ≡ line ∷ []) × (command_of_line line ≡ Some c) × Begins front (command_output name who (machine_at o seen) c)

-- how the commands ended, behind lines of so many bytes: `last` is the line that was read last, where it is none of the commands that were done, and `rest` is what was to
-- come behind it
abbrev pub CommandsEnd : Origin → ℕ → ℕ → List ℕ → ℕ → List PlacedAct → List (List ℕ) → List ℕ → Option (List ℕ) → Option (List ℕ) → Result Flow PerformError → Type 0
CommandsEnd o number size name who seen last front rest remaining (Ok flow.On) = ⊥
CommandsEnd o number size name who seen last front rest remaining (Ok flow.Ended) = (front ≡ [])
    × (((last ≡ []) × IfSome rest (λ bytes. bytes ≡ [])) ⊎ ((line : List ℕ) × (last ≡ line ∷ []) × (command_of_line line ≡ Some command.Leave)))
CommandsEnd o number size name who seen last front rest remaining (Ok flow.Closed) = (front ≡ [])
    × ((line : List ℕ) × (c : Command) × (last ≡ line ∷ []) × (command_of_line line ≡ Some c) × FindsClosed (machine_at o seen) c)
CommandsEnd o number size name who seen last front rest remaining (Err error.ReadFault) = (front ≡ []) × (last ≡ [])
CommandsEnd o number size name who seen last front rest remaining (Err error.WriteFault) = CutLine o name who seen last front
CommandsEnd o number size name who seen last front rest remaining (Err error.NetFault) = ⊥
CommandsEnd o number size name who seen last front rest remaining (Err (error.BadInput line)) = (front ≡ []) × (line ≡ number) × IsBadLine last rest
CommandsEnd o number size name who seen last front rest remaining (Err error.TooMuch) = (front ≡ []) × PassesLimit size last
CommandsEnd o number size name who seen last front rest remaining (Err (error.Refused reply)) = ⊥
CommandsEnd o number size name who seen last front rest remaining (Err (error.Dropped at)) = ⊥
CommandsEnd o number size name who seen last front rest remaining (Err (error.BadPeer side line what)) = ⊥
CommandsEnd o number size name who seen last front rest remaining (Err (error.LongRequest bytes)) = ⊥
CommandsEnd o number size name who seen last front rest remaining (Err error.Memory) = ((front ≡ []) × WantsMemory size last rest remaining) ⊎ CutLine o name who seen last front

-- all that the commands did, in order, and how they ended: `given` are the lines that were done, blank ones among them, and where a read failed all that had come whole
pub record RanCommands (o : Origin) (name : List ℕ) (who : ℕ) (end : Result Flow PerformError) (told remaining before now : Option (List ℕ)) (s t : SeatValue PlacedAct Origin) : Type 0 where
  pub k : SeatMemory
  pub remembers : Remembers k t
  pub given : List (List ℕ)
  pub commands : List Command
  pub last : List (List ℕ)
  pub rest : Option (List ℕ)
  pub gave : GaveLines told (given ++ last) rest
  pub held : IsHeldBack rest remaining
  pub whole : end ≡ Err error.ReadFault → IsCutOff told given remaining
  pub mean : AreReadAs command_of_line (spoken_lines given) commands
  pub within : lines_size given ≤ most_commands
  pub printed : List ℕ
  pub done : SeatMemory
  pub ran : RunsCommands o s.number name who [] commands printed done
  pub later : SeesMore done k
  pub front : List ℕ
  pub written : now ≡ at_end before (printed ++ front)
  pub ends : CommandsEnd o (number_behind 1 given) (lines_size given) name who t.seen last front rest remaining end
