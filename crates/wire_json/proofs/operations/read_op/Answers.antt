use Rattle.std.proofs.Common.{sym, ap, ◌∙◌, map}
use Rattle.std.specs.Prelude.{option_and_then}
use Rattle.std.proofs.lemmas.Result.{IfOk-weaker}
use Rattle.serde_json.specs.View.{view}
use Rattle.wire_json.specs.Values.{elements}
use Rattle.wire_json.specs.Operations.{op_of_list}
use Rattle.wire_json.proofs.PartsOfList.{elements-items}
use Rattle.wire_json.proofs.operations.read_op.Goals as goal

pub returns-in-Some : goal.returns-in-Some
returns-in-Some c =
    IfOk-weaker c.read_parts.result _ _ (λ op is. is ∙ ap (λ l. op_of_list (map view l)) c.as_slice.ensures.value ∙ ap op_of_list (sym (elements-items c.in-Some.items.now.items))
    ∙ ap (λ o. option_and_then (λ ds. op_of_list (elements ds)) o) c.in-Some.ensures) c.read_parts.ensures
