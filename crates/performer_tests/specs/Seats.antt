-- What the tests' clauses say of seats.
use Rattle.seat_lock.specs.Values.{HallValue, SeatValue, IsSeatOf}
use Rattle.stage_state.specs.declared.act.Act.{Act}
use Rattle.stage_state.specs.declared.played.Origin.{Origin}
use Rattle.stage_state.specs.Staged.{StageValue}
use Rattle.stage_state.specs.Origins.{origin_of}
use Rattle.std.specs.Prelude.{ℕ}

-- the seat is one of the hall, which keeps a stage
abbrev pub IsSeatOfStage : HallValue StageValue → SeatValue (ℕ × Act) Origin → Type 0
IsSeatOfStage h s = IsSeatOf (λ (st : StageValue). st.staged.acts) (λ (st : StageValue). origin_of st.staged) h s
