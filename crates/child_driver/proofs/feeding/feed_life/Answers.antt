use Rattle.std.proofs.Common.{length, refl, sym, append-nil, arith}
use Rattle.std.proofs.lemmas.Grind.{common_steps}
use Rattle.child_driver.specs.Lives.{Whole, Cut}
use Rattle.child_driver.proofs.FedPipe.{longer_child, whole_pipe, cut_pipe}
use Rattle.child_driver.proofs.feeding.feed_life.Goals as goal

pub returns-in-All-clause-step : goal.returns-in-All-clause-step
returns-in-All-clause-step g c boot = (
  Whole,
  refl,
  record {
    fits = tt;
    notes_are = sym (append-nil c.args.journal.now.notes);
    stands_is = refl;
    children_are = longer_child _ _ _ _ c.args.bytes.now refl c.in-All.ensures.bytes;
    pipe_is = whole_pipe _ _ _ _ (length boot) (length c.args.bytes.now) refl c.in-All.ensures.limit;
    counts_are = (refl, c.in-All.ensures.cause);
  },
)

pub returns-in-Part-clause-step : goal.returns-in-Part-clause-step
returns-in-Part-clause-step g c boot = (
  Cut c.in-Part.count,
  refl,
  record {
    fits = c.in-Part.ensures.bytes.0;
    notes_are = grind (arith, common_steps);
    stands_is = refl;
    children_are = rw c.bury.ensures.buried (longer_child _ _ _ _ _ refl c.in-Part.ensures.bytes.1);
    pipe_is = cut_pipe _ _ _ _ (length boot) (length c.args.bytes.now) _ c.bury.ensures.starts c.in-Part.ensures.bytes.0 c.in-Part.ensures.limit;
    counts_are = (_, c.in-Part.ensures.cause, c.bury.ensures.faults);
  },
)
