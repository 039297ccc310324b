-- Performers in a run.
use Rattle.std.specs.Prelude.{◌≡◌, ℕ, suc, ◌+◌, ◌-◌, ◌*◌, ◌<◌, List, [], length, map, slice_index_or, All, Bool, false}
use Rattle.seat_lock.specs.Lists.{Begins, AllOf}
use Rattle.troop_entry.specs.declared.call.Call.{Call}
use Rattle.troop_entry.specs.declared.row.Row.{Row}
use Rattle.log_model.specs.Log.{entries}
use Rattle.stage_state.specs.Machine.{Machine, sent_pairs}
use Rattle.stage_state.specs.Staged.{Staged, new_stage, acts_of, first_machine, machine, IsStagePlayed}
use Rattle.troop_hall.specs.Seats.{DeskHallValue, DeskSeatValue, IsDeskSeat, IsLater}
use Rattle.replay_run.specs.Shown.{awaits}
use Rattle.jam_run.specs.declared.player.Player.{Player}
use Rattle.jam_run.specs.Drawing.{first_number, steps_of, burst_steps, number_after_acts, AreDrawn}
use Rattle.jam_run.specs.Joins.{join_rows}

-- the number and the call of a row
abbrev pub row_pair : Row → ℕ × Call
row_pair row = (row.num, row.call)

-- how many operations of the stage are sent and held back
abbrev pub awaited : Staged → ℕ
awaited s = awaits (machine s).pending

-- how many calls are owed: those that are to go out, and what is held back
abbrev pub owed_by : Machine → ℕ
owed_by m = length m.outgoing + (awaits m.pending - 1)

-- Performer `who` with a stage that began at the empty log, whose seat has seen and placed these rows. Its edits and the calls that went out are these
-- steps, each edit as it is drawn, of which the last left this number; so many calls were sent, which are the seat's rows, and so many are owed; what was taken is what the log
-- told first.
pub record IsPlaying (seed : ℕ) (steps : List Bool) (sent owed who : ℕ) (seen own : List Row) (s : Staged) (number : ℕ) : Type 0 where
  pub own_is : s.own ≡ who
  pub joined_is : suc s.joined ≡ who
  pub start_is : s.start ≡ 0
  pub text_is : s.text ≡ []
  pub played : IsStagePlayed s
  pub drawn : AreDrawn (first_number seed who) (first_machine s) (acts_of s.acts)
  pub number_is : number ≡ number_after_acts (first_number seed who) (first_machine s) (acts_of s.acts)
  pub steps_are : steps_of (acts_of s.acts) ≡ steps
  pub sent_is : length (machine s).sent ≡ sent
  pub owed_is : owed_by (machine s) ≡ owed
  pub placed : map row_pair own ≡ sent_pairs (machine s)
  pub mine : AllOf (λ (r : Row). r.who ≡ who) own
  pub took : Begins (machine s).entries (entries seen)

-- it has made so many bursts, which are confirmed
pub record IsAtRest (seed bursts who : ℕ) (seen own : List Row) (s : Staged) (number : ℕ) : Type 0 where
  pub playing : IsPlaying seed (burst_steps bursts) (2 * bursts) 0 who seen own s number
  pub none : awaited s ≡ 0

-- of a performer: it plays so
abbrev pub Plays : ℕ → List Bool → ℕ → ℕ → Player → ℕ → Type 0
Plays seed steps sent owed p number = IsPlaying seed steps sent owed p.who p.seat.seen p.seat.own p.stage.staged number

-- it is at rest so
abbrev pub Rests : ℕ → ℕ → Player → ℕ → Type 0
Rests seed bursts p number = IsAtRest seed bursts p.who p.seat.seen p.seat.own p.stage.staged number

-- a performer with a seat of the hall, before its first act
pub record IsSeated (hall : DeskHallValue) (p : Player) : Type 0 where
  pub joined : ℕ
  pub who_is : suc joined ≡ p.who
  pub stage : p.stage.staged ≡ new_stage p.who joined
  pub played : IsStagePlayed p.stage.staged
  pub seat : IsDeskSeat hall p.seat
  pub own : p.seat.own ≡ []
  pub made : p.seat.made ≡ []

-- a performer with a seat of the hall that has made so many bursts, unless memory was wanting
pub record IsPlayer (hall : DeskHallValue) (seed bursts : ℕ) (p : Player) : Type 0 where
  pub seat : IsDeskSeat hall p.seat
  pub made : p.seat.made ≡ []
  pub rests : p.is_wanting ≡ false → (number : ℕ) × Rests seed bursts p number

-- the same performer later
pub record IsSamePlayer (p q : Player) : Type 0 where
  pub who : q.who ≡ p.who
  pub index : q.seat.index ≡ p.seat.index

-- the same performer later, with its seat of the hall
pub record IsSameLater (hall : DeskHallValue) (p q : Player) : Type 0 where
  pub who : q.who ≡ p.who
  pub seat : IsDeskSeat hall q.seat
  pub later : IsLater p.seat q.seat

-- each is the same performer later
abbrev pub AreSamePlayers : List Player → List Player → Type 0
AreSamePlayers ps qs = (i : ℕ) (d : Player) → i < length ps → IsSamePlayer (slice_index_or ps i d) (slice_index_or qs i d)

-- they are numbered from 1 on
abbrev pub AreNumbered : List Player → Type 0
AreNumbered ps = (i : ℕ) (d : Player) → i < length ps → (slice_index_or ps i d).who ≡ suc i

-- which seats they have
abbrev pub indexes_of : List Player → List ℕ
indexes_of ps = map (λ (p : Player). p.seat.index) ps

-- performers who have made so many bursts each, with all the seats of a hall, of which the first placed their joins
pub record IsCast (hall : DeskHallValue) (calls seed : ℕ) (first : DeskSeatValue) (players : List Player) : Type 0 where
  pub numbered : AreNumbered players
  pub played : All (IsPlayer hall seed calls) players
  pub calm : All (λ (p : Player). p.is_wanting ≡ false) players
  pub empty : hall.first ≡ []
  pub seat : IsDeskSeat hall first
  pub index : first.index ≡ 0
  pub number : first.number ≡ 0
  pub made : first.made ≡ indexes_of players
  pub seen : first.seen ≡ join_rows (length players)
  pub own : first.own ≡ join_rows (length players)
