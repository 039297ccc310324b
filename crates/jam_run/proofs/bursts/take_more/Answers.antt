use Rattle.std.proofs.Common.{◌∙◌}
use Rattle.jam_run.proofs.IsPlaying.{entries_made}
use Rattle.jam_run.proofs.OnOk.{on_ok}
use Rattle.jam_run.proofs.bursts.take_more.Goals as goal

pub returns-clause-taken : goal.returns-clause-taken
returns-clause-taken g c =
    let p = c.args.player.now in
    on_ok c.take_all.result _ _ (λ all. λ seed sent owed n steps h.
    entries_made seed steps sent owed p.who p.seat c.wait_past.new.seat p.stage.staged c.take_all.new.stage.staged n c.taken.result c.as_slice.result.now c.taken.ensures
    (c.as_slice.ensures.value ∙ c.in_ok-entries.ensures.entries) all c.wait_past.ensures.hall.1.seen c.wait_past.ensures.own h) c.take_all.ensures
