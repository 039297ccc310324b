use Rattle.std.proofs.Common.{◌≡◌, IsTrue, true, false, map, sym, ap, ◌∙◌, arith, rules}
use Rattle.log_model.specs.Log.{doc}
use Rattle.world_core.specs.Values.{performer_state}
use Rattle.drill_run.specs.Summary.{all_hold}
use Rattle.drill_run.proofs.Counts.{hold_ends, hold_goes_on}
use Rattle.drill_run.proofs.summary.all_hold.Goals as goal

pub returns-then-not-same : goal.returns-then-not-same
returns-then-not-same c =
    let log_doc = c.doc-doc.ensures ∙ ap doc c.desk.ensures in
    sym (hold_ends (doc c.args.world.now.log) c.performers-performer-items.result.now c.loop-performer.performer-index c.performer-item.result (omega arith) c.performer-item.is
    (λ e. let no : IsTrue c.same.result = c.same.ensures.1 (c.doc.ensures ∙ e ∙ sym log_doc) in let wrong : false ≡ true = sym c.if-not-same.true ∙ no in absurd (cc)))
    ∙ c.loop-performer.invariant
    ∙ ap (λ ps. all_hold (doc c.args.world.now.log) (map performer_state ps)) c.performers-performer-items.ensures.performers

pub loop-performer-preserved : goal.loop-performer-preserved
loop-performer-preserved c =
    let log_doc = c.doc-doc.ensures ∙ ap doc c.desk.ensures in
    let yes : IsTrue c.same.result = search rules in
    sym (hold_goes_on (doc c.args.world.now.log) c.performers-performer-items.result.now c.loop-performer.performer-index c.performer-item.result (omega arith) c.performer-item.is (sym c.doc.ensures ∙ c.same.ensures.0 yes ∙ log_doc))
    ∙ c.loop-performer.invariant
