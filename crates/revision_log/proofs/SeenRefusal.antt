-- What an edit that isn't refused had seen, and its base.
use Rattle.std.proofs.Common.{◌≡◌, ℕ, ◌≤◌, None, List, length, take, refl, sym, ap, ◌∙◌}
use Rattle.ot_text.specs.Change.{Change, base}
use Rattle.troop_entry.specs.declared.call.Call.{Call}
use Rattle.troop_entry.specs.declared.call.Call.TheVariants as call
use Rattle.troop_entry.specs.declared.reply.Reply.TheVariants as reply
use Rattle.troop_entry.specs.declared.row.Row.{Row}
use Rattle.log_model.specs.Log.{is_member, doc}
use Rattle.log_model.specs.Answers.{answer_edit, refusal_of}
use Rattle.log_model.proofs.Answer.{is_new, not_refused, edit_within, first_chosen}

-- an edit that nothing refuses knows a revision, and fits its document
pub placed_edit : (log : List Row) (who num seen : ℕ) (op : Change) (c : Call) → refusal_of log who num c ≡ None → c ≡ call.Edit seen op → (seen ≤ length log) × (base op ≡ length (doc (take seen log)))
placed_edit log who num seen op c none is_edit =
    let new = is_new log who num (call.Edit seen op) (not_refused log who num (call.Edit seen op) (ap (refusal_of log who num) (sym is_edit) ∙ none)) in
    edit_within log who seen op (first_chosen (is_member log who) (answer_edit log who seen op) (reply.NotMember who) refl new.1).1
