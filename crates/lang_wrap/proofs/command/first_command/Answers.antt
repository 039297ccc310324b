use Rattle.std.proofs.Common.{◌∙◌}
use Rattle.lang_wrap.proofs.IsCommand.{found_front_if, only_front}
use Rattle.lang_wrap.proofs.command.first_command.Goals as goal

pub returns-clause-found : goal.returns-clause-found
returns-clause-found c = found_front_if c.args.lang c.args.bytes.now c.command_end.result c.command_end.ensures

pub returns-clause-only : goal.returns-clause-only
returns-clause-only c n within is = c.command_end.ensures ∙ only_front c.args.lang c.args.bytes.now n within is
