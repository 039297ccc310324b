use Rattle.std.proofs.Common.{rules, ◌≡◌, ◌<◌, length, get_or}
use Rattle.jam_run.proofs.TakesAll.{takes_next, takes_last}
use Rattle.jam_run.proofs.taking.take_all.Goals as goal

pub loop-entry-preserved : goal.loop-entry-preserved
loop-entry-preserved c = λ t rest.
    let es = c.args.entries.now in
    let e = c.entry-item.result in
    let i = c.loop-entry.entry-index in
    let within : i < length es = search rules in
    let is : e ≡ get_or es i e = search rules in
    c.loop-entry.invariant t (takes_next es e i c.loop-entry.stage.staged c.take_one.new.stage.staged t within is c.in_ok-take_one.ensures.taken c.in_ok-take_one.ensures.placed rest)

pub returns : goal.returns
returns c = c.loop-entry.invariant c.loop-entry.stage.staged (takes_last c.args.entries.now c.loop-entry.entry-index c.loop-entry.stage.staged (search rules))
