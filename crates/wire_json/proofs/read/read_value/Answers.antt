use Rattle.std.proofs.Common.{sym, ◌∙◌, rules}
use Rattle.wire_json.proofs.ValueOf.{value_of_text, value_of_none}
use Rattle.wire_json.proofs.read.read_value.Goals as goal

pub returns-in-Ok : goal.returns-in-Ok
returns-in-Ok c = sym (value_of_text c.args.line.now c.in-Ok.ensures.ok.0 ∙ c.in-Ok.ensures.ok.1)

pub returns-else-is_memory : goal.returns-else-is_memory
returns-else-is_memory c = sym (value_of_none c.args.line.now (c.in-Err.ensures.err (search rules)))
