use Rattle.std.proofs.Common.{arith}
use Rattle.child_driver.proofs.Turns.{births_most, births_push}
use Rattle.child_driver.proofs.journal.Journal.born.Goals as goal

pub overflow_add-self : goal.overflow_add-self
overflow_add-self c = omega (arith, births_most c.self.inside.notes.items, c.self.inside.notes.ok.0, c.self.inside.notes.small, c.self.invariant.fits)

pub invariant_of-self : goal.invariant_of-self
invariant_of-self c = record {
  counted = rw (c.push_reserved.ensures.items, births_push) (omega (arith, c.self.invariant.counted));
  fits = omega (arith, c.self.invariant.fits, c.push_reserved.ensures.len, c.push_reserved.ensures.capacity);
}
