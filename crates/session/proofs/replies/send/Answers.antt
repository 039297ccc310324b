use Rattle.std.proofs.Common.{rules, take, drop, length, ◌<◌, arith}
use Rattle.std.proofs.lemmas.List.{take-append-drop, length-take-le}
use Rattle.seat_lock.specs.Lists.{Begins}
use Rattle.session.specs.Printed.{reply_line}
use Rattle.session.proofs.replies.send.Goals as goal

pub returns-clause-bytes : goal.returns-clause-bytes
unfolding reply_line
returns-clause-bytes g c =
    let line = reply_line c.args.reply.now in
    let n = c.in-Part.field-0 in
    let begins : Begins (take n line) line = (drop n line, take-append-drop n line) in
    let less : n < length line = search rules in
    let size = length-take-le n line (omega (arith, less)) in
    (tt, (take n line, begins, search rules), λ _. (take n line, begins, omega (arith, less, size), search rules))
