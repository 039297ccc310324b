use Rattle.std.proofs.Common.{◌≡◌, ◌+◌, ◌-◌, ◌*◌, ◌++◌, ◌∷◌, [], true, false, replicate, min, refl, arith}
use Rattle.jam_run.specs.Drawing.{burst_steps}
use Rattle.jam_run.specs.Playing.{awaited}
use Rattle.jam_run.proofs.IsPlaying.{none_typed, typed_next, rests_next}
use Rattle.jam_run.proofs.OnOk.{on_ok_both}
use Rattle.jam_run.proofs.bursts.burst.Goals as goal

pub loop-typed-init : goal.loop-typed-init
loop-typed-init g c = record {
  who = refl;
  seat = refl;
  playing = λ seed bursts h.
      let p = c.args.player.now in
      (none_typed seed bursts p.who p.seat.seen p.seat.own p.stage.staged c.args.draws.now h.playing, h.none);
}

pub loop-typed-preserved : goal.loop-typed-preserved
loop-typed-preserved g c =
    let p = c.loop-typed.player in
    let typed = c.loop-typed.typed in
    record {
      who = c.loop-typed.invariant.who;
      seat = c.loop-typed.invariant.seat;
      playing = λ seed bursts h.
          let before = c.loop-typed.invariant.playing seed bursts h in
          typed_next seed bursts typed p.who p.seat.seen p.seat.own c.type_edit.new.stage.staged c.type_edit.new.draws
          (c.in_ok-type_edit.ensures seed (2 * bursts) (min 2 typed) p.who (burst_steps bursts ++ replicate typed true) p.seat.seen p.seat.own before.0 before.1);
    }

pub returns-clause-made : goal.returns-clause-made
returns-clause-made g c =
    let typed = c.loop-typed.typed in
    let three : typed ≡ 3 = omega arith in
    on_ok_both c.exchange-2.result _ _ _ (λ sent confirmed. λ seed bursts h.
    let before = c.loop-typed.invariant.playing seed bursts h in
    let one = c.in_ok-exchange.ensures.sent seed (2 * bursts) (min 2 typed) c.loop-typed.draws (burst_steps bursts ++ replicate typed true) before.0 in
    let two = sent seed (2 * bursts + 1) (min 2 typed - 1) c.loop-typed.draws ((burst_steps bursts ++ replicate typed true) ++ false ∷ []) one in
    let q = c.exchange-2.new.player in
    let none : awaited q.stage.staged ≡ 0 = omega (arith, confirmed, c.in_ok-exchange.ensures.confirmed, before.1, three) in
    rests_next seed bursts q.who q.seat.seen q.seat.own q.stage.staged c.loop-typed.draws typed (2 * bursts + 1 + 1) (min 2 typed - 1 - 1)
    three (omega arith) (omega (arith, three)) none two) c.exchange-2.ensures.sent c.exchange-2.ensures.confirmed
