use Rattle.std.proofs.Common.{rules, ◌≡◌, ◌<◌, length, get_or, take}
use Rattle.std.proofs.lemmas.List.{take_all}
use Rattle.session.proofs.Follows.{split_round, show_cut, show_last, show_none}
use Rattle.session.proofs.down.show_all.Goals as goal

pub returns-in-Err-clause-bytes : goal.returns-in-Err-clause-bytes
returns-in-Err-clause-bytes g c =
    let es = c.args.entries.now in
    let e = c.entry-item.result in
    let i = c.loop-entry.entry-index in
    let inv = c.loop-entry.invariant in
    let within : i < length es = search rules in
    let is : e ≡ get_or es i e = search rules in
    let sends = c.in-Err.ensures.bytes in
    (sends.0, show_cut c.args.who es (take i es) _ e _ _ _ (split_round es i e within is) inv.none inv.bytes sends.1)

pub returns-then-is_leave_of-clause-bytes : goal.returns-then-is_leave_of-clause-bytes
returns-then-is_leave_of-clause-bytes g c =
    let es = c.args.entries.now in
    let e = c.entry-item.result in
    let i = c.loop-entry.entry-index in
    let inv = c.loop-entry.invariant in
    let within : i < length es = search rules in
    let is : e ≡ get_or es i e = search rules in
    show_last c.args.who es (take i es) _ e _ _ _ (split_round es i e within is) inv.none inv.bytes (search rules) c.in_default.ensures.bytes

pub returns-clause-bytes : goal.returns-clause-bytes
returns-clause-bytes g c =
    let es = c.args.entries.now in
    let i = c.loop-entry.entry-index in
    let inv = c.loop-entry.invariant in
    let all : take i es ≡ es = search (rules, take_all) in
    show_none c.args.who es (take i es) _ _ all inv.none inv.bytes
