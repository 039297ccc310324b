use Rattle.activities.proofs.FedSome.{fed_closed, same_closed, told_closed, bounded_closed}
use Rattle.activities.proofs.driving.drive.Goals as goal

pub returns-clause-drove : goal.returns-clause-drove
returns-clause-drove g c =
    let h = g.H.Hatch in
    let k = g.H.C.Child in
    let f = c.feed_all-starved.ensures.fed in
    let e = c.close.ensures in
    record {
      blocks = f.0;
      popped = f.1;
      fed = fed_closed _ _ _ _ _ f.2
          (same_closed h.buried h.starts h.faults k.taken k.limit k.faults _ _ e.rest e.handed)
          (told_closed h.buried h.starts h.faults k.taken k.limit k.faults _ _ e.rest c.feed_all-starved.ensures.still_open e.told)
          (bounded_closed h.buried h.starts h.faults k.taken k.limit k.faults _ _ e.none e.closing e.faults);
    }
