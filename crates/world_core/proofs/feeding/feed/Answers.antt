use Rattle.std.proofs.Common.{None, Some, sym, subst}
use Rattle.world_core.specs.WorldInvariant.{IsFedDriver}
use Rattle.world_core.proofs.IsFedDriver.{err_then, limit_fed, next_limit_fed, ok_then}
use Rattle.world_core.proofs.feeding.feed.Goals as goal

pub returns-then-is_err-clause-memory_kept : goal.returns-then-is_err-clause-memory_kept
returns-then-is_err-clause-memory_kept c =
    err_then c.feed_block-fed.result
    (λ kept blocks h. subst (IsFedDriver blocks) (sym c.limit-then-is_err.ensures)
    (limit_fed c.feed_block-fed.new.driver c.left-before.result blocks
    (kept blocks (subst (IsFedDriver blocks) (sym c.limit.ensures) (limit_fed c.args.driver.now (Some c.in-Some.bytes) blocks h)))))
    c.feed_block-fed.ensures.memory_kept

pub returns-else-is_err-clause-kept : goal.returns-else-is_err-clause-kept
returns-else-is_err-clause-kept c =
    ok_then c.feed_block-fed.result
    (λ kept blocks h below. kept blocks (subst (IsFedDriver blocks) (sym c.limit.ensures) (limit_fed c.args.driver.now (Some c.in-Some.bytes) blocks h)) below)
    c.feed_block-fed.ensures.kept

pub returns-then-is_err-2-clause-memory_kept : goal.returns-then-is_err-2-clause-memory_kept
returns-then-is_err-2-clause-memory_kept c =
    err_then c.feed_block-fed-in-None.result
    (λ kept blocks h. subst (IsFedDriver blocks) (sym c.next_limit-then-is_err-2.ensures)
    (next_limit_fed c.feed_block-fed-in-None.new.driver None blocks
    (kept blocks (subst (IsFedDriver blocks) (sym c.next_limit.ensures) (next_limit_fed c.args.driver.now (Some c.in-Some.bytes) blocks h)))))
    c.feed_block-fed-in-None.ensures.memory_kept

pub returns-else-is_err-2-clause-kept : goal.returns-else-is_err-2-clause-kept
returns-else-is_err-2-clause-kept c =
    ok_then c.feed_block-fed-in-None.result
    (λ kept blocks h below. kept blocks (subst (IsFedDriver blocks) (sym c.next_limit.ensures) (next_limit_fed c.args.driver.now (Some c.in-Some.bytes) blocks h)) below)
    c.feed_block-fed-in-None.ensures.kept
