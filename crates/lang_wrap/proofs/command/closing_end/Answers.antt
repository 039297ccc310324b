use Rattle.std.proofs.Common.{◌∙◌, sym, arith, length-drop}
use Rattle.std.proofs.lemmas.List.{take_rest}
use Rattle.lang_wrap.proofs.CommandEnd.{close_here, close_later, close_never}
use Rattle.lang_wrap.proofs.command.closing_end.Goals as goal

pub returns-then-closes : goal.returns-then-closes
returns-then-closes c =
    let e = c.in-Some.ensures in
    sym (close_here c.args.bytes.now c.loop-count.at c.in-Some.count (simp take_rest at e.within) (simp take_rest at e.line) (simp take_rest at e.feed) ((simp take_rest at (sym c.closes.ensures)) ∙ c.if-closes.true))
    ∙ c.loop-count.invariant.rest

pub loop-count-preserved : goal.loop-count-preserved
loop-count-preserved c =
    let e = c.in-Some.ensures in
    record {
      within = let w = simp (take_rest, length-drop) at e.within in omega (arith, w);
      rest = close_later c.args.bytes.now c.loop-count.at c.in-Some.count (simp take_rest at e.within) (simp take_rest at e.line) (simp take_rest at e.feed) ((simp take_rest at (sym c.closes.ensures)) ∙ c.if-closes.false)
          ∙ c.loop-count.invariant.rest;
    }

pub returns : goal.returns
returns c = sym (close_never c.args.bytes.now c.loop-count.at (simp take_rest at c.in_default.ensures.none)) ∙ c.loop-count.invariant.rest
