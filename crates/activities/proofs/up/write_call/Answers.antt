use Rattle.std.proofs.Common.{◌≡◌, List, ℕ, take, length, length-take, ap, subst, ◌∙◌, arith}
use Rattle.seat_lock.specs.Lists.{Begins}
use Rattle.activities.specs.Up.{call_line}
use Rattle.activities.proofs.SentUp.{front_of}
use Rattle.activities.proofs.up.write_call.Goals as goal

pub returns-in-Part-clause-wrote : goal.returns-in-Part-clause-wrote
returns-in-Part-clause-wrote g c =
    let slice = c.as_slice.result.now in
    let n = c.in-Part.field-0 in
    let line : slice ≡ call_line (c.args.num, c.args.call) = c.as_slice.ensures.value ∙ c.in-Ok.ensures.line in
    let count = length-take n slice in
    let same = ap length line in
    let few = c.in-Part.ensures.bytes.0 in
    (take n slice, c.in-Part.ensures.bytes.1, (subst (λ (l : List ℕ). Begins (take n slice) l) line (front_of n slice), omega (arith, count, same, few)))
