use Rattle.std.proofs.Common.{◌≡◌, ◌<◌, length, drop, sym, subst, arith}
use Rattle.seat_lock.proofs.Begins.{begins_length}
use Rattle.log_model.specs.Log.{entries}
use Rattle.troop_hall.proofs.Entries.{some_entry}
use Rattle.troop_hall.proofs.IfOk.{if_ok}
use Rattle.troop_hall.proofs.hall.DeskHall.wait_past.Goals as goal

pub returns-clause-some : goal.returns-clause-some
returns-clause-some g c =
    let more = begins_length c.wait_past.new.seat.seen c.entries.new.seat.seen c.entries.ensures.hall.1.seen in
    let past = c.wait_past.ensures.past in let count = c.wait_past.ensures.length in
    let below : c.args.start < length c.entries.new.seat.seen = omega (arith, past, count, more) in
    if_ok c.entries.result (λ found. found.items ≡ drop c.args.start (entries c.entries.new.seat.seen)) (λ found. 0 < length found.items)
    (λ found is. subst (λ l. 0 < length l) (sym is) (some_entry c.entries.new.seat.seen c.args.start below)) c.entries.ensures.entries
