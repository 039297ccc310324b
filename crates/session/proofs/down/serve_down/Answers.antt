use Rattle.std.proofs.Common.{rules, ◌≡◌, ◌≤◌, ℕ, true, take, ap, sym, ◌∙◌, refl, inl, arith, Some}
use Rattle.std.specs.List.{position_from}
use Rattle.seat_lock.proofs.Begins.{begins_same}
use Rattle.log_model.specs.Log.{has_leave, is_leave_by}
use Rattle.log_model.proofs.Lists.{any_at, slice_get-take}
use Rattle.troop_hall.specs.declared.known.Known.{Known}
use Rattle.session.proofs.PositionFrom.{none_before, passes_at}
use Rattle.session.proofs.Follows.{nothing_owed}
use Rattle.session.proofs.down.serve_down.Goals.{in_default-via-in-Some+else-at-start, in_default-via-in_default}
use Rattle.session.proofs.down.serve_down.Goals as goal

pub follow-requires-clause-stays : goal.follow-requires-clause-stays
follow-requires-clause-stays g c =
    let seen = c.known-known.new.seat.seen in
    let left : c.known-known.result.left ≡ position_from (is_leave_by c.args.who) 0 seen = ap (λ (k : Known). k.left) c.known-known.ensures.known in
    let later : (at : ℕ) → c.known-known.result.left ≡ Some at → c.args.start ≤ at = elim c.in_default.branch [
      | in_default-via-in-Some+else-at-start w ↦ λ at e. let same : Some w.in-Some.at ≡ Some at = sym w.in-Some.is ∙ e in let is : w.in-Some.at ≡ at = cc in let order = w.if-at-start.false in omega (arith, is, order)
      | in_default-via-in_default w ↦ λ at e. absurd (w.in_default.not-Some at e)
    ] in
    none_before (is_leave_by c.args.who) c.args.start seen c.known-known.result.left left later

pub returns-in-Some-clause-session : goal.returns-in-Some-clause-session
returns-in-Some-clause-session g c =
    let seen = c.known-known.new.seat.seen in
    let left : c.known-known.result.left ≡ position_from (is_leave_by c.args.who) 0 seen = ap (λ (k : Known). k.left) c.known-known.ensures.known in
    let at = passes_at (is_leave_by c.args.who) 0 c.in-Some.at seen (sym left ∙ c.in-Some.is) in
    let order = c.if-at-start.true in
    let place = at.1 in
    let gone : has_leave (take c.args.start seen) c.args.who ≡ true = any_at (is_leave_by c.args.who) (take c.args.start seen) at.0 at.2.0 (slice_get-take seen at.0 c.args.start at.2.0 (omega (arith, order, place)) at.2.1) at.2.2 in
    record {
      looked_at = seen;
      behind = c.known-known.ensures.hall.1.seen;
      begins = begins_same seen seen refl;
      written = inl (search rules, search rules, nothing_owed c.args.start c.args.who seen _ gone);
    }
