use Rattle.std.proofs.Common.{rules}
use Rattle.activities.specs.Memory.{origin_at}
use Rattle.activities.proofs.RanCommands.{edit_asks, eval_asks, reset_asks, asked_did, waited_did, showed_did}
use Rattle.activities.proofs.asking.do_command.Goals as goal

pub returns-in-Edit-clause-did : goal.returns-in-Edit-clause-did
returns-in-Edit-clause-did g c = λ k is. let e = c.ask.ensures in
    rw c.in-Edit.is (asked_did _ c.args.name.now c.args.who k _ _ _ _ _ _ _ e.asked.0 (edit_asks c.in-Edit.op) is e.seat.1.number e.seat.2 e.asked.1 e.asked.2)

pub returns-in-Eval-clause-did : goal.returns-in-Eval-clause-did
returns-in-Eval-clause-did g c = λ k is. let e = c.ask-in-Eval.ensures in
    rw c.in-Eval.is (asked_did _ c.args.name.now c.args.who k _ _ _ _ _ _ _ e.asked.0 (eval_asks c.in-Eval.place) is e.seat.1.number e.seat.2 e.asked.1 e.asked.2)

pub returns-in-Reset-clause-did : goal.returns-in-Reset-clause-did
returns-in-Reset-clause-did g c = λ k is. let e = c.ask-in-Reset.ensures in
    rw c.in-Reset.is (asked_did _ c.args.name.now c.args.who k _ _ _ _ _ _ _ e.asked.0 (reset_asks c.in-Reset.text) is e.seat.1.number e.seat.2 e.asked.1 e.asked.2)

pub returns-in-Until-clause-did : goal.returns-in-Until-clause-did
returns-in-Until-clause-did g c = λ k is. let e = c.wait_until.ensures in
    rw c.in-Until.is (waited_did _ c.args.name.now c.args.who k c.in-Until.count _ _ _ is e.seat.1.number e.seat.2 e.own e.reached)

pub returns-in-Show-clause-did : goal.returns-in-Show-clause-did
returns-in-Show-clause-did g c = λ k is. let e = c.show.ensures in
    rw c.in-Show.is (showed_did _ c.args.name.now c.args.who k _ _ _ _ _ is e.seat.1.number e.seat.2 e.own e.wrote)
