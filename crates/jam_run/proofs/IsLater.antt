-- The same seat, and the same performer, later.
use Rattle.std.proofs.Common.{[], refl, ◌∙◌, append-nil}
use Rattle.seat_lock.proofs.Begins.{begins_then}
use Rattle.troop_hall.specs.Seats.{DeskHallValue, DeskSeatValue, IsDeskSeat, IsLater}
use Rattle.jam_run.specs.declared.player.Player.{Player}
use Rattle.jam_run.specs.Playing.{IsSameLater}

-- now
pub later_same : (s : DeskSeatValue) → IsLater s s
later_same s = record { number = refl; index = refl; made = refl; seen = ([], append-nil s.seen) }

-- one after the other
pub later_then : (s t u : DeskSeatValue) → IsLater s t → IsLater t u → IsLater s u
later_then s t u h k = record { number = k.number ∙ h.number; index = k.index ∙ h.index; made = k.made ∙ h.made; seen = begins_then s.seen t.seen u.seen h.seen k.seen }

-- a performer now
pub same_now : (hall : DeskHallValue) (p : Player) → IsDeskSeat hall p.seat → IsSameLater hall p p
same_now hall p seat = record { who = refl; seat = seat; later = later_same p.seat }

-- a performer, one after the other
pub same_then : (hall : DeskHallValue) (p q r : Player) → IsSameLater hall p q → IsSameLater hall q r → IsSameLater hall p r
same_then hall p q r h k = record { who = k.who ∙ h.who; seat = k.seat; later = later_then p.seat q.seat r.seat h.later k.later }
