use Rattle.std.proofs.Common.{rules, take, drop, length, ◌<◌, arith}
use Rattle.std.proofs.lemmas.List.{take-append-drop, length-take-le}
use Rattle.seat_lock.specs.Lists.{Begins}
use Rattle.session.specs.Printed.{snapshot_line}
use Rattle.session.proofs.snap.show_snapshot.Goals as goal

pub returns-clause-bytes : goal.returns-clause-bytes
unfolding snapshot_line
returns-clause-bytes g c =
    let line = snapshot_line c.args.at c.args.doc.now.pairs in
    let n = c.in-Part.field-0 in
    let begins : Begins (take n line) line = (drop n line, take-append-drop n line) in
    let less : n < length line = search rules in
    let size = length-take-le n line (omega (arith, less)) in
    (tt, (take n line, begins, search rules), λ _. (take n line, begins, omega (arith, less, size), search rules))
