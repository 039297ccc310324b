use Rattle.std.proofs.Common.{rules, ◌≡◌, ◌<◌, ◌^◌, List, [], ◌∷◌, ◌++◌, ◌∙◌, ap, sym, subst, map, length, false, arith, option_map}
use Rattle.seat_lock.specs.Lists.{AllOf}
use Rattle.seat_lock.specs.Settled.{AreAllSeats, IsSettled}
use Rattle.seat_lock.specs.Values.{AccountFor, card_of}
use Rattle.troop_hall.specs.Seats.{DeskSeatValue, IsDeskSeat}
use Rattle.server_crew.specs.declared.shift.Shift.{Shift}
use Rattle.server_crew.specs.declared.worker.Worker.{Worker}
use Rattle.server_crew.specs.Shifts.{all_links, HaveLost}
use Rattle.server_crew.proofs.AreShifts.{shifts_of}
use Rattle.server_crew.proofs.IsRun.{ends_at_work, seats_at_work, few_at_end, lost_at_end, kept_at_end, crew_at_end, run_at_end, part_at_end, seats_of, weighed, gathered_are}
use Rattle.server_crew.proofs.closing.close_down.Goals as goal

pub gather-requires-clause-queues : goal.gather-requires-clause-queues
gather-requires-clause-queues g c =
    subst (λ ws. AllOf (λ (w : Worker g.row.D-L.Denot). (w.end.queue ≡ c.args.queue.now.table) × (w.end.parts ≡ 1) × (w.end.put ≡ [])) ws) (sym c.from_vec.ensures.items)
    (ends_at_work g.D.L.Source.remaining g.D.L.Sink.taken g.D.L.Source.faults g.D.L.Source.closed c.args.hall c.args.queue.now.table c.args.crew.workers.items c.requires.ready.work)

pub hand_back-is_spoiled-requires-clause-places : goal.hand_back-is_spoiled-requires-clause-places
hand_back-is_spoiled-requires-clause-places g c =
    let ws = c.args.crew.workers.items in
    let last = c.sweep.new.shift in
    let items = gathered_are c.push_back_reserved.new.self.items c.gather.new.shifts.items c.args.crew.shifts.items ws c.from_vec.result.items last c.push_back_reserved.ensures.items c.gather.ensures.shifts c.requires.ready.shifts.0 c.from_vec.ensures.items in
    let once = weighed c.args.crew.end.put c.gather.new.end.put c.sweep.new.end.taken c.sweep.ensures.served.0 c.gather.new.end.taken ws c.from_vec.result.items c.args.crew.end.taken c.sweep.ensures.all c.gather.ensures.moved.0 c.sweep.ensures.served.1 c.gather.ensures.moved.1 c.requires.ready.taken c.from_vec.ensures.items in
    let few = few_at_end g.D.L.Source.remaining g.D.L.Sink.taken g.D.L.Source.faults g.D.L.Source.closed c.args.hall c.args.queue.now.table ws last c.sweep.ensures.served.0 c.args.crew.end.put c.requires.ready.work c.sweep.ensures.served.2 once in
    let count = ap (λ l. length (all_links l)) items in
    let places = c.requires.places in
    omega (arith, few, count, places)

pub close-desk-requires-clause-hall : goal.close-desk-requires-clause-hall
close-desk-requires-clause-hall g c =
    let ws = c.args.crew.workers.items in
    let last = c.sweep.new.shift in
    let items = gathered_are c.push_back_reserved.new.self.items c.gather.new.shifts.items c.args.crew.shifts.items ws c.from_vec.result.items last c.push_back_reserved.ensures.items c.gather.ensures.shifts c.requires.ready.shifts.0 c.from_vec.ensures.items in
    let seats : c.hand_back-is_spoiled.new.seats.items ≡ seats_of (shifts_of ws ++ last ∷ []) = c.hand_back-is_spoiled.ensures.seats ∙ (λ i. (c.requires.ready.seats.0 i) ++ map (λ s. s.seat) (items i)) in
    subst (AllOf (IsDeskSeat c.args.hall)) (sym seats) (seats_at_work g.D.L.Source.remaining g.D.L.Sink.taken g.D.L.Source.faults g.D.L.Source.closed c.args.hall c.args.queue.now.table ws last c.requires.ready.work c.sweep.ensures.seat.0)

pub returns-clause-run : goal.returns-clause-run
returns-clause-run g c = λ clean links from.
    let ws = c.args.crew.workers.items in
    let last = c.sweep.new.shift in
    let items = gathered_are c.push_back_reserved.new.self.items c.gather.new.shifts.items c.args.crew.shifts.items ws c.from_vec.result.items last c.push_back_reserved.ensures.items c.gather.ensures.shifts c.requires.ready.shifts.0 c.from_vec.ensures.items in
    let once = weighed c.args.crew.end.put c.gather.new.end.put c.sweep.new.end.taken c.sweep.ensures.served.0 c.gather.new.end.taken ws c.from_vec.result.items c.args.crew.end.taken c.sweep.ensures.all c.gather.ensures.moved.0 c.sweep.ensures.served.1 c.gather.ensures.moved.1 c.requires.ready.taken c.from_vec.ensures.items in
    let seats : c.hand_back-is_spoiled.new.seats.items ≡ seats_of (shifts_of ws ++ last ∷ []) = c.hand_back-is_spoiled.ensures.seats ∙ (λ i. (c.requires.ready.seats.0 i) ++ map (λ s. s.seat) (items i)) in
    let crew = crew_at_end g.D.L.Source.remaining g.D.L.Sink.taken g.D.L.Source.faults g.D.L.Source.closed c.args.hall c.args.queue.now.table ws last c.sweep.ensures.served.0 c.args.crew.end.put c.args.hall.first c.close-desk.result c.requires.ready.work c.sweep.ensures.seat.0
    (subst (λ (ss : List DeskSeatValue). length ss < 2 ^ 64) seats (search rules)) c.sweep.ensures.served.2 once
    (c.sweep.ensures.seat.1.index ∙ c.requires.ready.index) (c.sweep.ensures.seat.1.made ∙ c.requires.ready.made) c.requires.empty
    (subst (λ (ss : List DeskSeatValue). IsSettled (λ row. row.seat) c.args.hall.first c.close-desk.result (map card_of ss)) seats c.close-desk.ensures.settled)
    (subst (λ (ss : List DeskSeatValue). AreAllSeats (map card_of ss) → AccountFor (λ row. row.seat) c.args.hall.first c.close-desk.result ss) seats c.close-desk.ensures.whole) in
    run_at_end g.D.L.Source.remaining g.D.L.Sink.taken g.D.L.Source.faults g.D.L.Source.closed c.args.hall c.args.queue.now.table (shifts_of ws ++ last ∷ []) c.args.crew.end.put c.close-desk.result links _ _ _ crew
    (subst (AllOf (λ (s : Shift g.row.D-L.Denot). s.is_spoiled ≡ false)) items (c.hand_back-is_spoiled.ensures.spoiled clean)) from
    (c.hand_back-is_spoiled.ensures.retired ∙ ap (λ l. option_map (λ others. others ++ all_links l) (g.D.Door.retired c.args.door.now)) items)

pub returns-clause-back : goal.returns-clause-back
returns-clause-back g c =
    let ws = c.args.crew.workers.items in
    let last = c.sweep.new.shift in
    let items = gathered_are c.push_back_reserved.new.self.items c.gather.new.shifts.items c.args.crew.shifts.items ws c.from_vec.result.items last c.push_back_reserved.ensures.items c.gather.ensures.shifts c.requires.ready.shifts.0 c.from_vec.ensures.items in
    let once = weighed c.args.crew.end.put c.gather.new.end.put c.sweep.new.end.taken c.sweep.ensures.served.0 c.gather.new.end.taken ws c.from_vec.result.items c.args.crew.end.taken c.sweep.ensures.all c.gather.ensures.moved.0 c.sweep.ensures.served.1 c.gather.ensures.moved.1 c.requires.ready.taken c.from_vec.ensures.items in
    let seats : c.hand_back-is_spoiled.new.seats.items ≡ seats_of (shifts_of ws ++ last ∷ []) = c.hand_back-is_spoiled.ensures.seats ∙ (λ i. (c.requires.ready.seats.0 i) ++ map (λ s. s.seat) (items i)) in
    let crew = crew_at_end g.D.L.Source.remaining g.D.L.Sink.taken g.D.L.Source.faults g.D.L.Source.closed c.args.hall c.args.queue.now.table ws last c.sweep.ensures.served.0 c.args.crew.end.put c.args.hall.first c.close-desk.result c.requires.ready.work c.sweep.ensures.seat.0
    (subst (λ (ss : List DeskSeatValue). length ss < 2 ^ 64) seats (search rules)) c.sweep.ensures.served.2 once
    (c.sweep.ensures.seat.1.index ∙ c.requires.ready.index) (c.sweep.ensures.seat.1.made ∙ c.requires.ready.made) c.requires.empty
    (subst (λ (ss : List DeskSeatValue). IsSettled (λ row. row.seat) c.args.hall.first c.close-desk.result (map card_of ss)) seats c.close-desk.ensures.settled)
    (subst (λ (ss : List DeskSeatValue). AreAllSeats (map card_of ss) → AccountFor (λ row. row.seat) c.args.hall.first c.close-desk.result ss) seats c.close-desk.ensures.whole) in (
      all_links c.push_back_reserved.new.self.items,
      part_at_end g.D.L.Source.remaining g.D.L.Sink.taken g.D.L.Source.faults g.D.L.Source.closed c.args.hall c.args.queue.now.table (shifts_of ws ++ last ∷ []) c.args.crew.end.put (all_links c.push_back_reserved.new.self.items) c.close-desk.result crew (ap (λ l. all_links l) items),
      c.hand_back-is_spoiled.ensures.retired,
      c.hand_back-is_spoiled.ensures.places,
    )

pub returns-clause-places : goal.returns-clause-places
returns-clause-places g c =
    let ws = c.args.crew.workers.items in
    let last = c.sweep.new.shift in
    let items = gathered_are c.push_back_reserved.new.self.items c.gather.new.shifts.items c.args.crew.shifts.items ws c.from_vec.result.items last c.push_back_reserved.ensures.items c.gather.ensures.shifts c.requires.ready.shifts.0 c.from_vec.ensures.items in
    let once = weighed c.args.crew.end.put c.gather.new.end.put c.sweep.new.end.taken c.sweep.ensures.served.0 c.gather.new.end.taken ws c.from_vec.result.items c.args.crew.end.taken c.sweep.ensures.all c.gather.ensures.moved.0 c.sweep.ensures.served.1 c.gather.ensures.moved.1 c.requires.ready.taken c.from_vec.ensures.items in
    let few = few_at_end g.D.L.Source.remaining g.D.L.Sink.taken g.D.L.Source.faults g.D.L.Source.closed c.args.hall c.args.queue.now.table ws last c.sweep.ensures.served.0 c.args.crew.end.put c.requires.ready.work c.sweep.ensures.served.2 once in
    let count = ap (λ l. length (all_links l)) items in
    let places = c.hand_back-is_spoiled.ensures.places in
    omega (arith, few, count, places)

pub returns-clause-all_places : goal.returns-clause-all_places
returns-clause-all_places g c = λ clean.
    let ws = c.args.crew.workers.items in
    let last = c.sweep.new.shift in
    let items = gathered_are c.push_back_reserved.new.self.items c.gather.new.shifts.items c.args.crew.shifts.items ws c.from_vec.result.items last c.push_back_reserved.ensures.items c.gather.ensures.shifts c.requires.ready.shifts.0 c.from_vec.ensures.items in
    let once = weighed c.args.crew.end.put c.gather.new.end.put c.sweep.new.end.taken c.sweep.ensures.served.0 c.gather.new.end.taken ws c.from_vec.result.items c.args.crew.end.taken c.sweep.ensures.all c.gather.ensures.moved.0 c.sweep.ensures.served.1 c.gather.ensures.moved.1 c.requires.ready.taken c.from_vec.ensures.items in
    let kept = kept_at_end g.D.L.Source.remaining g.D.L.Sink.taken g.D.L.Source.faults g.D.L.Source.closed c.args.hall c.args.queue.now.table ws last c.sweep.ensures.served.0 c.args.crew.end.put c.requires.ready.work c.sweep.ensures.served.2 once
    (subst (AllOf (λ (s : Shift g.row.D-L.Denot). s.is_spoiled ≡ false)) items (c.hand_back-is_spoiled.ensures.spoiled clean)) in
    let count = ap (λ l. length (all_links l)) items in
    let places = c.hand_back-is_spoiled.ensures.places in
    omega (arith, kept, count, places)

pub returns-clause-lost : goal.returns-clause-lost
returns-clause-lost g c = λ some.
    let ws = c.args.crew.workers.items in
    let last = c.sweep.new.shift in
    let items = gathered_are c.push_back_reserved.new.self.items c.gather.new.shifts.items c.args.crew.shifts.items ws c.from_vec.result.items last c.push_back_reserved.ensures.items c.gather.ensures.shifts c.requires.ready.shifts.0 c.from_vec.ensures.items in
    let once = weighed c.args.crew.end.put c.gather.new.end.put c.sweep.new.end.taken c.sweep.ensures.served.0 c.gather.new.end.taken ws c.from_vec.result.items c.args.crew.end.taken c.sweep.ensures.all c.gather.ensures.moved.0 c.sweep.ensures.served.1 c.gather.ensures.moved.1 c.requires.ready.taken c.from_vec.ensures.items in
    let fewer = lost_at_end g.D.L.Source.remaining g.D.L.Sink.taken g.D.L.Source.faults g.D.L.Source.closed c.args.hall c.args.queue.now.table ws last c.sweep.ensures.served.0 c.args.crew.end.put c.requires.ready.work c.sweep.ensures.served.2 once
    (subst HaveLost items (c.hand_back-is_spoiled.ensures.lost some)) in
    let count = ap (λ l. length (all_links l)) items in
    let places = c.hand_back-is_spoiled.ensures.places in
    omega (arith, fewer, count, places)
