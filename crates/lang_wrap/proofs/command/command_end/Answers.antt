use Rattle.std.proofs.Common.{◌∙◌, sym}
use Rattle.lang_wrap.proofs.CommandEnd.{command_none, command_line, command_plain, command_open}
use Rattle.lang_wrap.proofs.command.command_end.Goals as goal

pub returns-in_err-end : goal.returns-in_err-end
returns-in_err-end c = rw c.from_residual.ensures (sym (command_none c.args.lang c.args.bytes.now c.in_err-end.ensures.none))

pub returns-in-Lines : goal.returns-in-Lines
returns-in-Lines c =
    let e = c.in_ok-end.ensures in
    rw c.in-Lines.is (sym (command_line c.args.bytes.now c.in_ok-end.end e.within e.line e.feed))

pub returns-then-opens : goal.returns-then-opens
returns-then-opens c =
    let e = c.in_ok-end.ensures in
    rw c.in-Ghci.is (c.closing_end.ensures ∙ sym (command_open c.args.bytes.now c.in_ok-end.end e.within e.line e.feed (sym c.opens.ensures ∙ c.if-opens.true)))

pub returns-else-opens : goal.returns-else-opens
returns-else-opens c =
    let e = c.in_ok-end.ensures in
    rw c.in-Ghci.is (sym (command_plain c.args.bytes.now c.in_ok-end.end e.within e.line e.feed (sym c.opens.ensures ∙ c.if-opens.false)))
