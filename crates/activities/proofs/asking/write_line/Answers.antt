use Rattle.std.proofs.Common.{◌≡◌, List, ℕ, take, IfOk, subst, sym, ◌∙◌}
use Rattle.seat_lock.specs.Lists.{Begins}
use Rattle.activities.proofs.SentUp.{front_of}
use Rattle.activities.proofs.asking.write_line.Goals as goal

pub returns-clause-wrote : goal.returns-clause-wrote
returns-clause-wrote g c = λ all ok.
    let slice = c.as_slice.result.now in
    let n = c.in-Part.field-0 in
    let is : c.in-Ok.line.items ≡ all = rw c.in-Ok.is at ok in
    ((take n slice, subst (λ (l : List ℕ). Begins (take n slice) l) (c.as_slice.ensures.value ∙ is) (front_of n slice), c.in-Part.ensures.bytes.1), tt)
