-- What a stage keeps beside its acts. Invariants and private calls alone speak of it.
use Rattle.std.specs.Prelude.{◌≡◌, ℕ, ◌≤◌, ◌+◌, ◌^◌, Bool, false, Option, None, Some, List, [], length}
use Rattle.troop_entry.specs.declared.call.Call.{Call}
use Rattle.client_state.specs.Standing.{Standing, StandsOn}
use Rattle.stage_state.specs.declared.act.Next.{Next}
use Rattle.stage_state.specs.Machine.{Machine, taken_count, document, IsSend}
use Rattle.stage_state.specs.Staged.{Staged, machine, IsStagePlayed, IsQuiet, last_acts}

-- where the acts have led, as far as it is kept: the client, the calls that are to go out, the marks, and how many calls went out
pub record KeptValue : Type 0 where
  pub client : Standing
  pub outgoing : List Call
  pub finishing : Bool
  pub halted : Bool
  pub leave_sent : Bool
  pub gone : Bool
  pub sent : ℕ

-- what is kept before the first act
abbrev pub kept_from : Standing → KeptValue
kept_from client = record {
  client = client;
  outgoing = [];
  finishing = false;
  halted = false;
  leave_sent = false;
  gone = false;
  sent = 0;
}

-- what is kept is the machine's: the client stands on the document of the entries taken, and the calls sent are counted
pub record Keeps (k : KeptValue) (m : Machine) : Type 0 where
  pub own : k.client.own ≡ m.own
  pub state : k.client.state ≡ m.pending
  pub taken_is : k.client.taken ≡ taken_count m
  pub stands : StandsOn k.client (document m)
  pub outgoing_is : k.outgoing ≡ m.outgoing
  pub finishing_is : k.finishing ≡ m.finishing
  pub halted_is : k.halted ≡ m.halted
  pub leave_is : k.leave_sent ≡ m.leave_sent
  pub gone_is : k.gone ≡ m.gone
  pub sent_is : k.sent ≡ length m.sent

-- the performer's number stays, and so do the marks of `finish` and `halt`
pub record KeepsMarks (old new : KeptValue) : Type 0 where
  pub own : new.client.own ≡ old.client.own
  pub finishing : new.finishing ≡ old.finishing
  pub halted : new.halted ≡ old.halted

-- this is the answer of `next`, if nothing goes out
abbrev pub IsUnsent : Option Next → Next → Type 0
IsUnsent None next = IsSend next
IsUnsent (Some answer) next = (answer ≡ next) × IsQuiet answer

-- each act was placed, what is kept is where they have led, there is room for the last acts, and the position of the start leaves
-- room for counts
pub record IsStage (s : Staged) (k : KeptValue) (room : ℕ) : Type 0 where
  pub played : IsStagePlayed s
  pub keeps : Keeps k (machine s)
  pub last_fit : last_acts k.finishing k.halted ≤ room
  pub near : s.start ≤ 2 ^ 62 + 1
