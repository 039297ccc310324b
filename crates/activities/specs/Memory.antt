-- What a seat remembers of a stage's acts: those that it has seen, each with whether it is its own.
use Rattle.std.specs.Prelude.{◌≡◌, ℕ, Bool, true, false, if◌then◌else◌, List, [], ◌∷◌, ◌++◌, Option, Some}
use Rattle.seat_lock.specs.Lists.{Begins, AllOf}
use Rattle.seat_lock.specs.Values.{HallValue, SeatValue, IsSeatOf}
use Rattle.stage_state.specs.declared.act.Act.{Act}
use Rattle.stage_state.specs.declared.reply.ActReply.{ActReply}
use Rattle.stage_state.specs.declared.played.Origin.{Origin}
use Rattle.stage_state.specs.Staged.{StageValue}
use Rattle.stage_state.specs.Origins.{origin_of, machine_at}
use Rattle.stage_state.specs.Replies.{reply_of, accepts}

-- a placed act, with the number of its seat
abbrev pub PlacedAct : Type 0
PlacedAct = ℕ × Act

-- acts that a seat has seen, in order, each with whether it is its own
abbrev pub SeatMemory : Type 0
SeatMemory = List (Bool × PlacedAct)

-- the acts that were seen
abbrev pub seen_in : SeatMemory → List PlacedAct
seen_in [] = []
seen_in (x ∷ k) = x.1 ∷ seen_in k

-- its own acts
abbrev pub own_in : SeatMemory → List PlacedAct
own_in [] = []
own_in (x ∷ k) = if x.0 then x.1 ∷ own_in k else own_in k

-- acts of other seats
abbrev pub by_others : List PlacedAct → SeatMemory
by_others [] = []
by_others (r ∷ rows) = (false, r) ∷ by_others rows

-- the row of an act by this seat, if it was placed
abbrev pub placed_row : Bool → ℕ → Act → List PlacedAct
placed_row placed number a = if placed then (number, a) ∷ [] else []

-- an act of its own, if it was placed
abbrev pub own_act : Bool → ℕ → Act → SeatMemory
own_act placed number a = if placed then (true, (number, a)) ∷ [] else []

-- acts of other seats came behind it
abbrev pub SeesMore : SeatMemory → SeatMemory → Type 0
SeesMore k at = (rows : List PlacedAct) × (k ++ by_others rows ≡ at)

-- the seat has seen these acts, and its own are those that are marked
pub record Remembers (k : SeatMemory) (s : SeatValue PlacedAct Origin) : Type 0 where
  pub seen : seen_in k ≡ s.seen
  pub own : own_in k ≡ s.own
  pub numbered : AllOf (λ (r : PlacedAct). r.0 ≡ s.number) s.own

-- the seat is one of this stage's hall
abbrev pub IsStageSeat : HallValue StageValue → SeatValue PlacedAct Origin → Type 0
IsStageSeat h s = IsSeatOf (λ (st : StageValue). st.staged.acts) (λ (st : StageValue). origin_of st.staged) h s

-- the origin of the stage that the hall keeps
abbrev pub origin_at : HallValue StageValue → Origin
origin_at h = origin_of h.first.staged

-- the same seat, from which none was made in between
pub record KeepsCard (s t : SeatValue PlacedAct Origin) : Type 0 where
  pub number : t.number ≡ s.number
  pub index : t.index ≡ s.index
  pub made : t.made ≡ s.made

-- the reply is the answer of the machine that some acts have led to, which begin with those seen; the act is then the last one seen, and the
-- seat's last own one, if it was placed
abbrev pub ActsAt : Origin → Act → SeatValue PlacedAct Origin → ActReply → SeatValue PlacedAct Origin → Type 0
ActsAt o a s reply t = (log : List PlacedAct) × Begins s.seen log × (reply ≡ reply_of (machine_at o log) a)
    × (t.seen ≡ log ++ placed_row (accepts (machine_at o log) a) s.number a)
    × (t.own ≡ s.own ++ placed_row (accepts (machine_at o log) a) s.number a)

-- the reply is the answer of the machine at acts that go on from these with acts of others; the act then stands right behind them, if it was placed
abbrev pub Recalls : Origin → ℕ → SeatMemory → Act → ActReply → SeatValue PlacedAct Origin → Type 0
Recalls o number k a reply t = (at : SeatMemory) × SeesMore k at × (reply ≡ reply_of (machine_at o (seen_in at)) a)
    × Remembers (at ++ own_act (accepts (machine_at o (seen_in at)) a) number a) t

-- acts of others may have come
abbrev pub LooksOn : SeatMemory → SeatValue PlacedAct Origin → Type 0
LooksOn k t = (at : SeatMemory) × SeesMore k at × Remembers at t

-- the same seat of the hall, which may have seen more
abbrev pub KeepsSeat : HallValue StageValue → SeatValue PlacedAct Origin → SeatValue PlacedAct Origin → Type 0
KeepsSeat h s t = IsStageSeat h t × KeepsCard s t × Begins s.seen t.seen
