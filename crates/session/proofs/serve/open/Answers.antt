use Rattle.std.proofs.Common.{ap, refl, sym, inr, []}
use Rattle.std.proofs.lemmas.List.{append-nil}
use Rattle.session.specs.Ends.{stream}
use Rattle.session.proofs.OpensSession.{up_behind, down_behind, snap_behind, none_behind}
use Rattle.session.proofs.serve.open.Goals as goal

pub returns-in-Some-Up-clause-session : goal.returns-in-Some-Up-clause-session
returns-in-Some-Up-clause-session g c =
    up_behind c.args.line.now c.args.seat.now c.serve_up.new.seat c.serve_up.result _ c.in-Ok.service c.in-Ok.ensures c.in-Some-Up.opening c.args.reader.now.limit c.in-Some-Up.field-0 c.in-Some-Up.is c.in-Some-Up.field-0-is c.requires.limit c.serve_up.ensures.session

pub returns-in-Some-Down-clause-session : goal.returns-in-Some-Down-clause-session
returns-in-Some-Down-clause-session g c =
    down_behind c.args.line.now c.args.seat.now c.serve_down.new.seat c.serve_down.result _ c.in-Ok.service c.in-Ok.ensures c.in-Some-Down.start c.in-Some-Down.who c.in-Some-Down.field-0 c.in-Some-Down.is c.in-Some-Down.field-0-is c.serve_down.ensures.own
    (ap (λ o. stream c.args.reader.now o) c.serve_down.ensures.remaining) c.serve_down.ensures.session

pub returns-in-Some-Snap-clause-session : goal.returns-in-Some-Snap-clause-session
returns-in-Some-Snap-clause-session g c =
    snap_behind c.args.line.now c.args.seat.now c.serve_snap.new.seat c.serve_snap.result _ c.in-Ok.service c.in-Ok.ensures c.in-Some-Snap.who c.in-Some-Snap.field-0 c.in-Some-Snap.is c.in-Some-Snap.field-0-is c.serve_snap.ensures.own
    (ap (λ o. stream c.args.reader.now o) c.serve_snap.ensures.remaining) c.serve_snap.ensures.session

pub returns-in-None-clause-session : goal.returns-in-None-clause-session
returns-in-None-clause-session g c =
    none_behind c.args.line.now c.args.seat.now c.args.seat.now c.send_off.result _ c.in-Ok.service c.in-Ok.ensures c.in-None.is refl c.send_off.ensures.bytes

pub returns-in_default-clause-session : goal.returns-in_default-clause-session
returns-in_default-clause-session g c = record { gained = []; own = sym (append-nil c.args.seat.now.own); opens = inr (refl, record { none = refl; unwritten = refl }) }
