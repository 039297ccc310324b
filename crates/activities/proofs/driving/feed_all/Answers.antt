use Rattle.std.proofs.Common.{◌≡◌, ◌∷◌, [], ◌++◌, sym, append-nil}
use Rattle.activities.proofs.FedSome.{fed_none, popped_more}
use Rattle.activities.proofs.driving.feed_all.Goals as goal

pub loop-init : goal.loop-init
loop-init g c = (c.requires.queue, c.requires.is_open, ([], sym (append-nil c.args.taker.now.items), fed_none _))

pub loop-preserved : goal.loop-preserved
loop-preserved g c =
    let i = c.loop.invariant in
    let b = c.in-Some-Block.block in (
      c.in-Some-Block.ensures.queue,
      c.feed_one-starved.ensures.still_open,
      (
        i.2.0 ++ b ∷ [],
        popped_more c.args.taker.now.items c.loop.taker.items c.pop.new.self.items i.2.0 b i.2.1 (rw c.in-Some-Block.field-0-is at c.in-Some-Block.ensures.popped),
        c.feed_one-starved.ensures.fed i.2.0 _ i.2.2,
      ),
    )
