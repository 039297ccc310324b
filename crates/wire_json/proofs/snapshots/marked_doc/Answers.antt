use Rattle.wire_json.proofs.MarkedOf.{run_done, shorter}
use Rattle.wire_json.proofs.snapshots.marked_doc.Goals as goal

pub loop-run-preserved : goal.loop-run-preserved
loop-run-preserved c = record {
  built = run_done _ c.args.runs.now c.loop-run.run-index (record { who = 0; count = 0 }) c.loop-run.doc.pairs _ c.loop-run.rest.now c.split_at.result.0.now _
      c.loop-run.invariant.built c.loop-run-test.true c.if-run-rest.false c.in_ok-put_behind.ensures c.split_at.ensures.front c.split_at.ensures.back;
  short = shorter _ _ c.loop-run.rest.now _ c.split_at.ensures.back c.loop-run.invariant.short;
}
