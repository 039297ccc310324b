use Rattle.std.proofs.Common.{◌∙◌, sym}
use Rattle.lang_wrap.proofs.HasBraceLine.{wrap_plain, wrap_braced}
use Rattle.lang_wrap.proofs.wraps.wrap.Goals as goal

pub returns-then-has_brace_line : goal.returns-then-has_brace_line
returns-then-has_brace_line c =
    rw (c.in-Ghci.is, wrap_plain c.args.text.now c.as_bytes-bytes.result.now (c.as_bytes-bytes.ensures.value ∙ c.in_ok-text.ensures) (sym c.has_brace_line.ensures ∙ c.if-has_brace_line.true))
    c.plain_form-then-has_brace_line.ensures

pub returns : goal.returns
returns c =
    rw (c.in-Ghci.is, wrap_braced c.args.text.now c.as_bytes-bytes.result.now (c.as_bytes-bytes.ensures.value ∙ c.in_ok-text.ensures) (sym c.has_brace_line.ensures ∙ c.if-has_brace_line.false))
    c.braced_form.ensures
