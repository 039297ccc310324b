use Rattle.std.proofs.Common.{List, drop, ap, ◌∙◌, subst, OnOk}
use Rattle.troop_entry.specs.declared.entry.Entry.{Entry}
use Rattle.log_model.specs.Log.{entries}
use Rattle.jam_run.specs.Taking.{TakesAll}
use Rattle.jam_run.proofs.TakesAll.{rest_whole}
use Rattle.jam_run.proofs.closing.take_rest.Goals as goal

pub returns : goal.returns
returns c =
    let log = c.args.desk.now in
    subst (λ (es : List Entry). OnOk c.take_all.result (TakesAll es c.args.stage.now.staged c.take_all.new.stage.staged))
    (c.deref.ensures.value ∙ rest_whole log c.in_ok-entries.entries.items c.taken.result c.length.result c.length.ensures c.in_ok-entries.ensures.entries ∙ ap (λ k. drop k (entries log)) c.taken.ensures)
    c.take_all.ensures
