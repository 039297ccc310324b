use Rattle.std.proofs.Common.{sym, ap, ◌∙◌, map}
use Rattle.std.specs.Prelude.{option_and_then}
use Rattle.std.proofs.lemmas.Result.{IfOk-weaker}
use Rattle.serde_json.specs.View.{view}
use Rattle.wire_json.specs.Values.{elements}
use Rattle.wire_json.specs.Snapshots.{runs_of_list}
use Rattle.wire_json.proofs.PartsOfList.{elements-items}
use Rattle.wire_json.proofs.snapshots.read_runs.Goals as goal

pub returns-in-Some : goal.returns-in-Some
returns-in-Some c =
    IfOk-weaker c.runs_in.result _ _ (λ runs is. is ∙ ap (λ l. runs_of_list (map view l)) c.as_slice.ensures.value ∙ ap runs_of_list (sym (elements-items c.in-Some.items.now.items))
    ∙ ap (λ o. option_and_then (λ ds. runs_of_list (elements ds)) o) c.in-Some.ensures) c.runs_in.ensures
