use Rattle.std.proofs.Common.{arith}
use Rattle.child_driver.proofs.Turns.{births_push}
use Rattle.child_driver.proofs.journal.Journal.push.Goals as goal

pub invariant_of-self : goal.invariant_of-self
invariant_of-self c = record {
  counted = rw (c.push_reserved.ensures.items, births_push) (omega (arith, c.self.invariant.counted, c.requires.no_birth));
  fits = omega (arith, c.self.invariant.fits, c.push_reserved.ensures.len, c.push_reserved.ensures.capacity);
}
