use Rattle.lang_wrap.specs.Wraps.{wrap}
use Rattle.lang_wrap.proofs.IsCommand.{ghci_wrapped, line_wrapped, front_found}
use Rattle.lang_wrap.proofs.laws.wrap_law.Goals as goal

pub returns-clause-ghci : goal.returns-clause-ghci
returns-clause-ghci c = ghci_wrapped

pub returns-clause-line : goal.returns-clause-line
returns-clause-line c = line_wrapped

pub returns-clause-first : goal.returns-clause-first
returns-clause-first c lang text rest is = front_found lang (wrap lang text) rest is
