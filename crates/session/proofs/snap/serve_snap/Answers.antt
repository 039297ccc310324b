use Rattle.std.proofs.Common.{◌≡◌, ◌+◌, suc, false, take, sym, ◌∙◌, refl, subst, inl, inr, arith}
use Rattle.seat_lock.proofs.Begins.{begins_same, begins_then, begins_length}
use Rattle.log_model.specs.Log.{doc, has_leave, is_join_by}
use Rattle.session.specs.Printed.{snapshot_line}
use Rattle.session.proofs.PositionFrom.{none_at_all}
use Rattle.session.proofs.IsJoinAt.{join_found, join_within, join_grown, stays_behind}
use Rattle.session.proofs.Follows.{follows_cut, follows_snapshot}
use Rattle.session.proofs.snap.serve_snap.Goals as goal

pub returns-in_default-clause-session : goal.returns-in_default-clause-session
returns-in_default-clause-session g c = record {
  looked_at = c.join_of.new.seat.seen;
  behind = c.join_of.ensures.hall.1.seen;
  begins = begins_same c.join_of.new.seat.seen c.join_of.new.seat.seen refl;
  written = inr (none_at_all (is_join_by c.args.who) 0 c.join_of.new.seat.seen (sym c.join_of.ensures.join ∙ c.in_default.is), c.send_off.ensures.bytes);
}

pub send_snapshot-requires-clause-within : goal.send_snapshot-requires-clause-within
send_snapshot-requires-clause-within g c = join_within c.args.who c.in-Some.at c.join_of.new.seat.seen (join_found c.args.who c.in-Some.at c.join_of.new.seat.seen (sym c.join_of.ensures.join ∙ c.in-Some.is))

pub returns-in-Err-clause-session : goal.returns-in-Err-clause-session
returns-in-Err-clause-session g c = record {
  looked_at = c.join_of.new.seat.seen;
  behind = c.join_of.ensures.hall.1.seen;
  begins = c.send_snapshot.ensures.hall.1.seen;
  written = inl (record {
    at = c.in-Some.at;
    joined = join_found c.args.who c.in-Some.at c.join_of.new.seat.seen (sym c.join_of.ensures.join ∙ c.in-Some.is);
    follows = follows_cut (snapshot_line (suc c.in-Some.at) (doc (take (suc c.in-Some.at) c.send_snapshot.new.seat.seen))) (suc c.in-Some.at) c.args.who c.send_snapshot.new.seat.seen c.in-Err.end _ _ c.in-Err.ensures.bytes.0 c.in-Err.ensures.bytes.1;
  });
}

pub overflow_add-at : goal.overflow_add-at
overflow_add-at g c =
    let within = join_within c.args.who c.in-Some.at c.join_of.new.seat.seen (join_found c.args.who c.in-Some.at c.join_of.new.seat.seen (sym c.join_of.ensures.join ∙ c.in-Some.is)) in
    let fits = c.join_of.ensures.fits in
    omega (arith, within, fits)

pub follow-requires-clause-start : goal.follow-requires-clause-start
follow-requires-clause-start g c =
    let within = join_within c.args.who c.in-Some.at c.join_of.new.seat.seen (join_found c.args.who c.in-Some.at c.join_of.new.seat.seen (sym c.join_of.ensures.join ∙ c.in-Some.is)) in
    let grown = begins_length c.join_of.new.seat.seen c.send_snapshot.new.seat.seen c.send_snapshot.ensures.hall.1.seen in
    omega (arith, within, grown)

pub follow-requires-clause-stays : goal.follow-requires-clause-stays
follow-requires-clause-stays g c =
    let seen = c.send_snapshot.new.seat.seen in
    let joined = join_grown c.args.who c.in-Some.at c.join_of.new.seat.seen seen c.send_snapshot.ensures.hall.1.seen (join_found c.args.who c.in-Some.at c.join_of.new.seat.seen (sym c.join_of.ensures.join ∙ c.in-Some.is)) in
    let next : suc c.in-Some.at ≡ c.in-Some.at + 1 = omega arith in
    subst (λ n. has_leave (take n seen) c.args.who ≡ false) next (stays_behind c.args.who c.in-Some.at seen c.send_snapshot.ensures.legal joined)

pub returns-clause-session : goal.returns-clause-session
returns-clause-session g c =
    let at = c.in-Some.at in
    let joined = join_found c.args.who at c.join_of.new.seat.seen (sym c.join_of.ensures.join ∙ c.in-Some.is) in
    let within = join_within c.args.who at c.join_of.new.seat.seen joined in
    let grown = begins_length c.join_of.new.seat.seen c.send_snapshot.new.seat.seen c.send_snapshot.ensures.hall.1.seen in
    record {
      looked_at = c.join_of.new.seat.seen;
      behind = c.join_of.ensures.hall.1.seen;
      begins = begins_then c.join_of.new.seat.seen c.send_snapshot.new.seat.seen c.follow.new.seat.seen c.send_snapshot.ensures.hall.1.seen c.follow.ensures.hall.1.seen;
      written = inl (record {
        at = at;
        joined = joined;
        follows = follows_snapshot c.args.who at (at + 1) c.send_snapshot.new.seat.seen c.follow.new.seat.seen c.follow.result _ _ _ (omega arith) c.follow.ensures.hall.1.seen (omega (arith, within, grown)) c.in_default-send_snapshot.ensures.bytes c.follow.ensures.follows;
      });
    }
